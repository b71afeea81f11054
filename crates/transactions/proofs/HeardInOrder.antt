-- PROMISE: the frames of bodies tell the table these bodies, in order. From a table that keeps its rules, a fresh reader and an assembly
-- buffer of 1,302 octets or more: lay the frames of any Spinel bodies end to end and cut them into any chunks; the calls that the chunks are
-- offered to report what the table would report if it were told the bodies one after the other, and leave the table that this leaves. And
-- whatever inputs calls have, noise among them, the table is told the checked bodies among them and nothing else.
use mathlib.Core.Path.{◌≡◌, refl, sym, ap, ap₂, subst, ◌∙◌}
use mathlib.Core.Bool.{true, cond}
use mathlib.Core.List.{List, [], ◌∷◌, ◌++◌, foldl-append}
use Prim.Native.Nat.{ℕ, zero, suc, ◌≤◌}
use native.Mathlib.Omega.{arith}
use borrow.Author.Tests.{eqb-true}
use lib.Dec.{eqb}
use lib.ListN.{length, drop}
use Rattle.octets.specs.Runs.{each}
use Rattle.octets.proofs.LawsRuns.{each_append, emitted_append}
use Rattle.octets.proofs.LawsTests.{by_test}
use Rattle.frame.specs.Frame.{frame}
use Rattle.hdlc.specs.Fate.{given}
use Rattle.hdlc.specs.Reader.{max_gathered, fresh, Assembling, assembling, Outcome, run}
use Rattle.hdlc.specs.Rules.{rules as reader_rules}
use Rattle.hdlc.specs.Wire.{checked_of, checked_in, fates_of, finished}
use Rattle.hdlc.specs.Histories as wire
use Rattle.hdlc.proofs.ReaderRules.{rules_told, rules_hold, fresh_rules, run_rules}
use Rattle.hdlc.proofs.ClosedForm.{fresh_open, same_room}
use Rattle.hdlc.proofs.CheckedBodies.{checked_given}
use Rattle.hdlc.proofs.AnyCuts.{any_chunks}
use Rattle.hdlc.proofs.RoundTrip.{frame_then}
use Rattle.transactions.specs.Table.{Numbers, rules, after_reply}
use Rattle.transactions.specs.Receiving.{Reception, unrefused}
use Rattle.transactions.specs.Calls.{Host, host, gives, next, calls_report, calls_leave, offers, offered, chunked, bodies_report, bodies_leave, Spinels, none, more}
use Rattle.transactions.proofs.TableRules.{reply_rules}
use Rattle.transactions.proofs.LawsReceiving.{rules_both, receive_run}

-- ---- one call

pub record Ready (h : Host) : Type 0 where
  pub table : rules h.numbers ≡ true
  pub reader : reader_rules h.reader ≡ true
  pub room : max_gathered ≤ length h.assembly

abbrev reading : Host → Assembling
reading h = assembling h.reader h.assembly

-- the checked body of a call, if there is one
abbrev bodies_in : Outcome → List (List ℕ)
bodies_in o = checked_of (given o.fate)

-- a call that is not refused reads as the reader does, and the table is told the body
record Hears (d : Numbers) (o : Outcome) (bs : List (List ℕ)) (r : Reception) : Type 0 where
  number : r.number ≡ o.fate.number
  read : r.read ≡ o.read
  state : assembling r.reader r.assembly ≡ o.state
  reports : r.reports ≡ bodies_report d bs
  numbers : r.numbers ≡ bodies_leave d bs

hears : (d : Numbers) (o : Outcome) → Hears d o (bodies_in o) (unrefused d o)
unfolding unrefused bodies_report bodies_leave
hears d o =
    subst (λ bs. Hears d o bs (unrefused d o)) (sym (checked_given o.fate))
    (by_test (eqb o.fate.number 1)
    (λ t. rw t (record { number = sym (eqb-true _ _ t); read = refl; state = refl; reports = refl; numbers = refl }))
    (λ t. rw t (record { number = refl; read = refl; state = refl; reports = refl; numbers = refl })))

reports_append : (d : Numbers) (bs cs : List (List ℕ)) → bodies_report d (bs ++ cs) ≡ bodies_report d bs ++ bodies_report (bodies_leave d bs) cs
unfolding bodies_report bodies_leave
reports_append d bs cs = emitted_append (λ t b. (after_reply t b).report ∷ []) (λ t b. (after_reply t b).numbers) d bs cs

leave_append : (d : Numbers) (bs cs : List (List ℕ)) → bodies_leave d (bs ++ cs) ≡ bodies_leave (bodies_leave d bs) cs
unfolding bodies_leave
leave_append d bs cs = foldl-append _ d bs cs

told_rules : (d : Numbers) (bs : List (List ℕ)) → rules d ≡ true → rules (bodies_leave d bs) ≡ true
unfolding bodies_leave
told_rules d [] kept = kept
told_rules d (b ∷ bs) kept = told_rules (after_reply d b).numbers bs (reply_rules d kept b)

module _ (h : Host) (k : Ready h) (xs : List ℕ) where
  call : Hears h.numbers (run (reading h) xs) (bodies_in (run (reading h) xs)) (gives h xs)
  unfolding gives
  call =
      let kept = rules_both h.numbers h.reader k.table k.reader in
      let is = receive_run h.numbers h.reader xs h.assembly kept k.room in
      subst (Hears h.numbers (run (reading h) xs) (bodies_in (run (reading h) xs))) (sym is) (hears h.numbers (run (reading h) xs))

  -- the next one finds all in order
  call_ready : Ready (next h xs)
  unfolding next
  call_ready =
      record {
        table = subst (λ d. rules d ≡ true) (sym call.numbers) (told_rules h.numbers (bodies_in (run (reading h) xs)) k.table);
        reader =
            subst (λ s. reader_rules s.reader ≡ true) (sym call.state)
            (run_rules h.reader h.assembly xs (rules_told h.reader k.reader) k.room);
        room =
            subst (λ s. max_gathered ≤ length s.assembly) (sym call.state)
            (omega (arith, k.room, same_room h.reader h.assembly xs (rules_told h.reader k.reader) k.room));
      }

  call_leaves : reading (next h xs) ≡ (run (reading h) xs).state
  unfolding next
  call_leaves = call.state

  call_numbers : (next h xs).numbers ≡ bodies_leave h.numbers (bodies_in (run (reading h) xs))
  unfolding next
  call_numbers = call.numbers

-- ---- calls one after the other

-- whatever the inputs, noise among them: the table is told the checked bodies that the reader's calls tell, and nothing else
pub record HearsChecked (h : Host) (xss : List (List ℕ)) : Type 0 where
  pub ready : Ready (calls_leave h xss)
  pub leaves : reading (calls_leave h xss) ≡ wire.calls_leave (reading h) xss
  pub reports : calls_report h xss ≡ bodies_report h.numbers (checked_of (wire.calls_tell (reading h) xss))
  pub numbers : (calls_leave h xss).numbers ≡ bodies_leave h.numbers (checked_of (wire.calls_tell (reading h) xss))

pub hears_checked : (xss : List (List ℕ)) (h : Host) → Ready h → HearsChecked h xss
unfolding calls_leave calls_report bodies_report bodies_leave checked_of wire.calls_tell wire.calls_leave
hears_checked [] h k = record { ready = k; leaves = refl; reports = refl; numbers = refl }
hears_checked (xs ∷ xss) h k =
    let rest = hears_checked xss (next h xs) (call_ready h k xs) in
    let here = bodies_in (run (reading h) xs) in
    let fates = wire.calls_tell (run (reading h) xs).state xss in
    record {
      ready = rest.ready;
      leaves = rest.leaves ∙ ap (λ s. wire.calls_leave s xss) (call_leaves h k xs);
      reports =
          ap₂ ◌++◌ (call h k xs).reports
          (rest.reports ∙ ap₂ (λ d s. bodies_report d (checked_of (wire.calls_tell s xss))) (call_numbers h k xs) (call_leaves h k xs))
          ∙ sym (reports_append h.numbers here (checked_of fates))
          ∙ ap (bodies_report h.numbers) (sym (each_append _ (given (run (reading h) xs).fate) fates));
      numbers =
          rest.numbers
          ∙ ap₂ (λ d s. bodies_leave d (checked_of (wire.calls_tell s xss))) (call_numbers h k xs) (call_leaves h k xs)
          ∙ sym (leave_append h.numbers here (checked_of fates))
          ∙ ap (bodies_leave h.numbers) (sym (each_append _ (given (run (reading h) xs).fate) fates));
    }

-- ---- chunks

-- the inputs that a host offers by the numbers and counts of its calls are those that the reader's fates and counts ask for
same_offers : (n : ℕ) (h : Host) (xs : List ℕ) → Ready h → offers n h xs ≡ wire.offers n (reading h) xs
unfolding offers wire.offers
same_offers zero h xs k = refl
same_offers (suc n) h xs k =
    let o = run (reading h) xs in
    let c = call h k xs in
    ap (λ l. xs ∷ l)
    (ap₂ (λ m r. cond (eqb m 0) [] (offers n (next h xs) (drop r xs))) c.number c.read
    ∙ by_test (eqb o.fate.number 0) (λ t. rw t)
    (λ t. rw t (same_offers n (next h xs) (drop o.read xs) (call_ready h k xs) ∙ ap (λ s. wire.offers n s (drop o.read xs)) (call_leaves h k xs))))

same_chunked : (xss : List (List ℕ)) (h : Host) → Ready h → chunked h xss ≡ wire.chunked (reading h) xss
unfolding chunked offered wire.chunked wire.offered
same_chunked [] h k = refl
same_chunked (xs ∷ xss) h k =
    let same = same_offers (suc (length xs)) h xs k in
    let all = hears_checked (offers (suc (length xs)) h xs) h k in
    ap₂ ◌++◌ same
    (same_chunked xss (calls_leave h (offers (suc (length xs)) h xs)) all.ready
    ∙ ap (λ s. wire.chunked s xss) (all.leaves ∙ ap (wire.calls_leave (reading h)) same))

-- ---- frames, end to end

frames_checked : (bs : List (List ℕ)) → Spinels bs → checked_in [] (each frame bs) ≡ bs
unfolding checked_in checked_of fates_of finished
frames_checked [] none = refl
frames_checked (b ∷ bs) (more spinel octets rest) = frame_then b spinel octets (each frame bs) ∙ ap (λ l. b ∷ l) (frames_checked bs rest)

pub record HeardAll (d : Numbers) (a : List ℕ) (bs xss : List (List ℕ)) : Type 0 where
  pub reports : calls_report (host d fresh a) (chunked (host d fresh a) xss) ≡ bodies_report d bs
  pub numbers : (calls_leave (host d fresh a) (chunked (host d fresh a) xss)).numbers ≡ bodies_leave d bs

pub heard_in_order : (d : Numbers) (a : List ℕ) (bs xss : List (List ℕ)) → rules d ≡ true → max_gathered ≤ length a → Spinels bs
    → each (λ xs. xs) xss ≡ each frame bs → HeardAll d a bs xss
unfolding checked_in
heard_in_order d a bs xss kept room spinels laid =
    let h = host d fresh a in
    let k : Ready h = record { table = kept; reader = rules_hold fresh fresh_rules; room = room } in
    let all = hears_checked (chunked h xss) h k in
    let bodies : checked_of (wire.calls_tell (reading h) (chunked h xss)) ≡ bs =
    ap (λ l. checked_of (wire.calls_tell (reading h) l)) (same_chunked xss h k)
    ∙ ap checked_of (any_chunks fresh a xss fresh_rules room).tells
    ∙ ap₂ checked_in (fresh_open a) laid
    ∙ frames_checked bs spinels in
    record { reports = all.reports ∙ ap (bodies_report d) bodies; numbers = all.numbers ∙ ap (bodies_leave d) bodies }
