-- A history's calls, one by one and all: what stands between two calls, told by the octets read so far.
use mathlib.Core.Path.{◌≡◌, refl, sym, ap, ap₂, ◌∙◌}
use mathlib.Core.Bool.{true, false}
use mathlib.Core.List.{List, [], ◌∷◌, ◌++◌, foldl}
use Prim.Native.Nat.{ℕ, ◌≤◌}
use native.Mathlib.Omega.{arith}
use borrow.Author.Tests.{ltb-false}
use lib.Dec.{ltb}
use lib.ListN.{length, take}
use Rattle.octets.specs.Runs.{each}
use Rattle.octets.proofs.LawsTests.{by_test}
use Rattle.frame.specs.Frame.{frame}
use Rattle.hdlc.specs.Fate.{given}
use Rattle.hdlc.specs.Reader.{max_gathered, assembling, Outcome, run}
use Rattle.hdlc.specs.Rules.{rules as reader_rules}
use Rattle.hdlc.specs.States.{closed_form}
use Rattle.hdlc.specs.Wire.{fates_of, checked_of, checked_in, finished, unfinished, call, call_reads}
use Rattle.hdlc.proofs.ClosedForm.{call_closed, same_room}
use Rattle.hdlc.proofs.LawsCalls.{After, after_call, call_checked}
use Rattle.hdlc.proofs.LawsPieces.{unfinished_append}
use Rattle.hdlc.proofs.CheckedBodies.{checked_append}
use Rattle.hdlc.proofs.ReaderRules.{rules_told, run_rules}
use Rattle.device.specs.Rules.{rules}
use Rattle.engine.specs.Merged.{device_after, replies_to}
use Rattle.engine.specs.Carried.{Carried}
use Rattle.engine.proofs.LawsCarried.{carried_none, carried_then}
use Rattle.engine.proofs.RulesKept.{bodies_keep}
use Rattle.serial.specs.Receiving.{min_output, breaks_rules, refused, unrefused, receive}
use Rattle.serial.specs.Histories.{Lent, own, short, ReceivingCall, State, lent_from, left_in, gives, next, reply_in, calls_write, calls_read, is_refused, read_by, laid_from, report, reported, call_means}
use Rattle.serial.proofs.LawsReceiving.{unrefused_device, unrefused_reply, unrefused_octets, unrefused_read, frame_some}

-- ---- the lent buffer

lent_size : (l : Lent) (a b : List ℕ) → length a ≡ length b → length (lent_from l a) ≡ length (lent_from l b)
lent_size own a b e = e
lent_size (short x h) a b e = refl

lent_own : (l : Lent) (a : List ℕ) → ltb (length (lent_from l a)) max_gathered ≡ false → l ≡ own
lent_own own a e = refl
lent_own (short x h) a e = absurd (omega (arith, ltb-false (length x) max_gathered e))

left_same : (l : Lent) (a : List ℕ) → left_in l a (lent_from l a) ≡ a
left_same own a = refl
left_same (short x h) a = refl

-- ---- between two calls

-- after an open piece p, in a history whose own buffer is as long as a
pub record Stands (a p : List ℕ) (t : State) : Type 0 where
  pub device : rules t.device ≡ true
  pub reader : reader_rules t.reader ≡ true
  pub size : length t.assembly ≡ length a
  pub holds : max_gathered ≤ length a → After p (assembling t.reader t.assembly)

-- a call, told by the octets w that it read
pub record Step (a p w : List ℕ) (t : State) (c : ReceivingCall) : Type 0 where
  pub read : take (gives t c).read c.input ≡ w
  pub carried : Carried frame t.device (record { bodies = checked_in p w; written = reply_in (gives t c); device = (next t c).device })
  pub stands : Stands a (unfinished p w) (next t c)
  pub reported : reported (gives t c) ≡ call_means a p t.device c

module _ (a p : List ℕ) (t : State) (c : ReceivingCall) (s : Stands a p t) where
  keeps : breaks_rules t.device t.reader ≡ false
  unfolding breaks_rules
  keeps = rw (s.device, s.reader)

  size : length (lent_from c.lent t.assembly) ≡ length (lent_from c.lent a)
  size = lent_size c.lent t.assembly a s.size

  -- a refused call leaves everything as it was
  module _ (n : ℕ) (g : gives t c ≡ refused n t.device t.reader (lent_from c.lent t.assembly) c.output) where
    same : next t c ≡ t
    unfolding next
    same =
        let left = ap (λ q. left_in c.lent t.assembly q.assembly) g ∙ left_same c.lent t.assembly in
        λ i. record { device = (g i).device; reader = (g i).reader; assembly = left i }

    refused_step : is_refused a c ≡ true → call_means a p t.device c ≡ report n 0 [] → Step a p (read_by a p c) t c
    unfolding read_by checked_in checked_of fates_of finished unfinished replies_to device_after next reply_in reported
    refused_step e m =
        rw e
        (record {
          read = ap (λ q. take q.read c.input) g;
          carried = record { written = ap reply_in g; device = ap (λ q. q.device) g };
          stands = rw same s;
          reported = ap reported g ∙ sym m;
        })

  -- a call that is not refused reads with the own buffer
  module _ (e : ltb (length (lent_from c.lent a)) max_gathered ≡ false) (f : ltb (length c.output) min_output ≡ false) where
    outcome : Outcome
    outcome = run (assembling t.reader t.assembly) c.input

    is_own : c.lent ≡ own
    is_own = lent_own c.lent a e

    room : max_gathered ≤ length a
    room = ltb-false _ _ (rw is_own at e)

    answers : gives t c ≡ unrefused frame t.device outcome c.output
    unfolding gives receive outcome
    answers = rw (keeps, size, e, f) (ap (λ l. unrefused frame t.device (run (assembling t.reader (lent_from l t.assembly)) c.input) c.output) is_own)

    behind : After p (assembling t.reader t.assembly)
    behind = s.holds room

    is_closed : outcome ≡ closed_form (call p c.input) behind.under
    unfolding outcome
    is_closed = ap (λ h. run h c.input) behind.state ∙ call_closed c.input p behind.under behind.room

    found : checked_of (given outcome.fate) ≡ checked_in p (call_reads p c.input)
    unfolding outcome
    found = call_checked p (assembling t.reader t.assembly) c.input behind

    device_next : (next t c).device ≡ device_after t.device (checked_in p (call_reads p c.input))
    unfolding next
    device_next = ap (λ q. q.device) answers ∙ unrefused_device frame t.device outcome c.output found

    state_next : assembling (next t c).reader (next t c).assembly ≡ outcome.state
    unfolding next
    state_next =
        ap (λ l. assembling (gives t c).reader (left_in l t.assembly (gives t c).assembly)) is_own
        ∙ ap (λ q. assembling q.reader q.assembly) answers
        ∙ (unrefused_read frame t.device outcome c.output).2

    stands_next : Stands a (unfinished p (call_reads p c.input)) (next t c)
    unfolding outcome
    stands_next =
        let keeps = rules_told t.reader s.reader in
        let wide : max_gathered ≤ length t.assembly = rw s.size room in
        record {
          device = rw device_next (bodies_keep t.device (checked_in p (call_reads p c.input)) s.device);
          reader = ap (λ h. reader_rules h.reader) state_next ∙ run_rules t.reader t.assembly c.input keeps wide;
          size = ap (λ h. length h.assembly) state_next ∙ same_room t.reader t.assembly c.input keeps wide ∙ s.size;
          holds = λ _. rw (state_next, behind.state) (after_call p behind.under c.input behind.room);
        }

    fate_read : (gives t c).number ≡ (call p c.input).fate.number
    unfolding closed_form
    fate_read = ap (λ r. r.number) answers ∙ (unrefused_read frame t.device outcome c.output).0 ∙ ap (λ o. o.fate.number) is_closed

    count_read : (gives t c).read ≡ (call p c.input).read
    unfolding closed_form
    count_read = ap (λ r. r.read) answers ∙ (unrefused_read frame t.device outcome c.output).1 ∙ ap (λ o. o.read) is_closed

    octets_written : take (gives t c).written (gives t c).output ≡ each frame (replies_to t.device (checked_in p (call_reads p c.input)))
    octets_written = ap (λ r. take r.written r.output) answers ∙ unrefused_octets frame t.device outcome c.output found

    read_step : Step a p (read_by a p c) t c
    unfolding read_by is_refused call_reads reported call_means
    read_step =
        rw (e, f)
        (record {
          read = ap (λ n. take n c.input) count_read;
          carried = record { written = ap reply_in answers ∙ unrefused_reply frame t.device outcome c.output found frame_some; device = device_next };
          stands = stands_next;
          reported = rw (e, f) (λ i. record { number = fate_read i; read = count_read i; octets = octets_written i });
        })

  pub step : Step a p (read_by a p c) t c
  unfolding is_refused call_means gives receive
  step =
      by_test (ltb (length (lent_from c.lent a)) max_gathered)
      (λ e. refused_step 12 (rw (keeps, size, e)) (rw e) (rw e))
      (λ e.
      by_test (ltb (length c.output) min_output) (λ f. refused_step 13 (rw (keeps, size, e, f)) (rw (e, f)) (rw (e, f))) (read_step e))

-- ---- all calls

pub record Runs (a p : List ℕ) (t : State) (cs : List ReceivingCall) : Type 0 where
  pub read : calls_read t cs ≡ laid_from a p cs
  pub carried : Carried frame t.device (record { bodies = checked_in p (laid_from a p cs); written = calls_write t cs; device = (foldl next t cs).device })
  pub stands : Stands a (unfinished p (laid_from a p cs)) (foldl next t cs)

pub runs : (a p : List ℕ) (t : State) (cs : List ReceivingCall) → Stands a p t → Runs a p t cs
unfolding calls_read laid_from calls_write checked_in checked_of fates_of finished unfinished
runs a p t [] s = record { read = refl; carried = carried_none t.device; stands = s }
runs a p t (c ∷ cs) s =
    let w = read_by a p c in
    let q = unfinished p w in
    let xs = laid_from a q cs in
    let one = step a p t c s in
    let rest = runs a q (next t c) cs one.stands in
    record {
      read = ap₂ ◌++◌ one.read rest.read;
      carried = rw (checked_append p w xs) (carried_then one.carried rest.carried);
      stands = rw (unfinished_append p w xs) rest.stands;
    }
