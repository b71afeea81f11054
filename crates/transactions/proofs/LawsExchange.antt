-- Every event leaves the table, the host's notes and the cable in agreement.
use mathlib.Core.Logic.{⊎_elim}
use mathlib.Core.Path.{◌≡◌, refl, sym, ap, ◌∙◌}
use mathlib.Core.Bool.{true, false, cond, not, ◌&&◌}
use mathlib.Core.List.{List, [], ◌∷◌, ◌++◌, foldl}
use Prim.Native.Nat.{ℕ, ◌≤◌, ◌<◌}
use native.Mathlib.Omega.{arith}
use borrow.Author.Tests.{eqb-true, lt-ltb, ltb-true, not-true}
use lib.Dec.{eqb, ltb}
use lib.ListN.{length, get_or, length-set}
use Rattle.octets.proofs.LawsTests.{chosen, and_l, and_r, impossible}
use Rattle.transactions.specs.declared.kind.BodyKind.{BodyKind}
use Rattle.transactions.specs.declared.kind.BodyKind.TheVariants.{Announcement, Reply, Other}
use Rattle.transactions.specs.Answer.{answered, late, stray}
use Rattle.transactions.specs.Kind.{announcement, kind}
use Rattle.transactions.specs.Table.{free, waiting, given_up, fresh, put, rules, lowest, Result, done, by_kind, after_open, after_reset, after_give_up, after_reply}
use Rattle.transactions.specs.Writing.{header}
use Rattle.transactions.specs.Exchange.{Request, command, reset, octets_of, is_reset, Response, reply, unsolicited, body_of, may_be_unsolicited, Match, Exchange, start, in_flight, handed_out, matched_to, is_allowed, may_send, asking, matching, with_table, with_cable, answering, dropping, delivering, Event, ask, give_up, ask_leave, send_reset, answer, drop_request, send_unsolicited, deliver, step, run}
use Rattle.transactions.proofs.LawsTable.{lowest_free}
use Rattle.transactions.proofs.LawsKind.{announces, header_link, reply_or_other}
use Rattle.transactions.proofs.LawsCalls.{reply_by, open_cases, reset_cases, give_up_cases, mark_cases}
use Rattle.transactions.proofs.TableRules.{rules_told, fresh_rules, put_rules, lowest_above, waiting_above, resetting_rules}
use Rattle.transactions.proofs.LawsFlight.{Absent, Asked, Carried, carried_ask, carried_give_up, carried_free, carried_allow, carried_reset, carried_none, flight_sent, flight_answered, flight_unsolicited, carried_dropped}

-- what the box sends unasked is under number 0, and no announcement
unfoldable pub Unasked : List Response → Type 0
Unasked [] = Unit {0}
Unasked (reply c rest ∷ ss) = Unasked ss
Unasked (unsolicited b ∷ ss) = (may_be_unsolicited (kind b) ≡ true) × Unasked ss

unasked_answered : (ss : List Response) (c : Request) (rest : List ℕ) → Unasked ss → Unasked (ss ++ (reply c rest ∷ []))
unfolding Unasked
unasked_answered [] c rest q = tt
unasked_answered (reply c' rest' ∷ ss) c rest q = unasked_answered ss c rest q
unasked_answered (unsolicited b ∷ ss) c rest q = (q.0, unasked_answered ss c rest q.1)

unasked_unsolicited : (ss : List Response) (b : List ℕ) → may_be_unsolicited (kind b) ≡ true → Unasked ss → Unasked (ss ++ (unsolicited b ∷ []))
unfolding Unasked
unasked_unsolicited [] b e q = (e, tt)
unasked_unsolicited (reply c rest ∷ ss) b e q = unasked_unsolicited ss b e q
unasked_unsolicited (unsolicited b' ∷ ss) b e q = (q.0, unasked_unsolicited ss b e q.1)

-- each match is right
unfoldable pub Right : List Match → Type 0
Right [] = Unit {0}
Right (m ∷ ms) = (m.answers ≡ m.question ∷ []) × Right ms

pub record Agrees (links : ℕ) (w : Exchange) : Type 0 where
  pub kept : rules w.numbers ≡ true
  pub size : length w.numbers.marks ≡ 16
  pub under_way : w.leave ≡ true → w.numbers.resetting ≡ true
  pub carried : Carried links w.numbers w.notes w.leave (in_flight w.responses w.requests)
  pub unasked : Unasked w.responses
  pub right : Right w.matched

agrees_start : (links : ℕ) → Agrees links start
unfolding in_flight Carried Unasked Right
agrees_start links = record { kept = fresh_rules; size = refl; under_way = λ e. impossible cc; carried = tt; unasked = tt; right = tt }

-- ---- the host

-- what it may send under a number is no reset under that number either
same_reset : (links l n : ℕ) (rest : List ℕ) → l < 4 → n < 16 → is_reset links (header l n ∷ rest) ≡ is_reset links (header l 0 ∷ rest)
unfolding is_reset
same_reset links l n rest a b = ap (λ x. eqb (get_or rest 0 0) 1 && ltb x links) (header_link l n a b ∙ sym (header_link l 0 a (omega arith)))

sends : (links l : ℕ) (rest : List ℕ) → may_send links l rest ≡ true → (l < 4) × (is_reset links (header l 0 ∷ rest) ≡ false)
unfolding may_send
sends links l rest e = let plain = is_reset links (header l 0 ∷ rest) in (ltb-true l 4 (and_l _ (not plain) e), not-true plain (and_r (ltb l 4) _ e))

-- 80 01 is one, where a link is set up
pub reset_is : (links : ℕ) → 1 ≤ links → is_reset links (octets_of reset) ≡ true
unfolding is_reset
reset_is links some = lt-ltb 0 links (omega arith)

module _ (links : ℕ) (w : Exchange) (g : Agrees links w) where
  agrees_ask : (l : ℕ) (rest : List ℕ) → l < 4 → is_reset links (header l 0 ∷ rest) ≡ false
      → let r = after_open w.numbers in Agrees links (asking w l rest r.numbers (handed_out r.report.word r.report.transaction))
  unfolding asking
  agrees_ask l rest link plain =
      open_cases w.numbers g.kept (λ r. Agrees links (asking w l rest r.numbers (handed_out r.report.word r.report.transaction)))
      (λ _. g) (λ _ _. g)
      (λ idle fits.
      let d = w.numbers in
      let n = lowest d in
      record {
        kept = put_rules d n waiting (lowest_above d) (λ e. impossible cc) g.kept;
        size = length-set d.marks n waiting ∙ g.size;
        under_way = g.under_way;
        carried =
            rw (flight_sent w.responses w.requests (command l n w.asked rest ∷ []))
            (carried_ask links d w.notes w.leave l n w.asked rest (in_flight w.responses w.requests)
            (lowest_above d) (omega arith) g.size link (same_reset links l n rest link (omega arith) ∙ plain) idle (lowest_free d) g.carried);
        unasked = g.unasked;
        right = g.right;
      })

  agrees_give_up : (n : ℕ) → Agrees links (with_table w (after_give_up w.numbers n).numbers w.leave)
  agrees_give_up n =
      give_up_cases w.numbers g.kept (λ r. Agrees links (with_table w r.numbers w.leave)) n (λ _. g)
      (λ waits. record {
        kept = put_rules w.numbers n given_up (waiting_above w.numbers n g.kept waits) (λ e. impossible cc) g.kept;
        size = length-set w.numbers.marks n given_up ∙ g.size;
        under_way = g.under_way;
        carried = carried_give_up links w.numbers w.notes w.leave n (in_flight w.responses w.requests) g.size g.carried;
        unasked = g.unasked;
        right = g.right;
      })

  agrees_leave : let r = after_reset w.numbers in Agrees links (with_table w r.numbers (cond (is_allowed r.report.word) true w.leave))
  agrees_leave =
      reset_cases w.numbers g.kept (λ r. Agrees links (with_table w r.numbers (cond (is_allowed r.report.word) true w.leave))) (λ _. g)
      (λ idle. record {
        kept = resetting_rules w.numbers g.kept;
        size = g.size;
        under_way = λ _. refl;
        carried = carried_allow links w.numbers w.notes w.leave (in_flight w.responses w.requests) idle g.carried;
        unasked = g.unasked;
        right = g.right;
      })

  agrees_reset : w.leave ≡ true → Agrees links (with_cable (with_table w w.numbers false) (w.requests ++ (reset ∷ [])) w.responses)
  agrees_reset e =
      record {
        kept = g.kept;
        size = g.size;
        under_way = λ z. impossible cc;
        carried =
            rw (flight_sent w.responses w.requests (reset ∷ []))
            (carried_reset links w.numbers w.notes (in_flight w.responses w.requests) (g.under_way e) (rw e at g.carried));
        unasked = g.unasked;
        right = g.right;
      }

  -- ---- the box

  agrees_answer : (rest : List ℕ) (cs : List Request) → w.requests ≡ cs → Agrees links (answering w rest cs)
  unfolding answering
  agrees_answer rest [] e = g
  agrees_answer rest (c ∷ cs) e =
      record {
        kept = g.kept;
        size = g.size;
        under_way = g.under_way;
        carried = rw (flight_answered w.responses c rest cs) (rw e at g.carried);
        unasked = unasked_answered w.responses c rest g.unasked;
        right = g.right;
      }

  agrees_drop : (cs : List Request) → w.requests ≡ cs → Agrees links (dropping w cs)
  unfolding dropping
  agrees_drop [] e = g
  agrees_drop (c ∷ cs) e =
      record {
        kept = g.kept;
        size = g.size;
        under_way = g.under_way;
        carried = carried_dropped links w.numbers w.notes w.leave w.responses c cs (rw e at g.carried);
        unasked = g.unasked;
        right = g.right;
      }

  agrees_unsolicited : (b : List ℕ) → may_be_unsolicited (kind b) ≡ true → Agrees links (with_cable w w.requests (w.responses ++ (unsolicited b ∷ [])))
  agrees_unsolicited b e =
      record {
        kept = g.kept;
        size = g.size;
        under_way = g.under_way;
        carried = rw (flight_unsolicited w.responses b w.requests) g.carried;
        unasked = unasked_unsolicited w.responses b e g.unasked;
        right = g.right;
      }

  -- ---- a response arrives

  abbrev arrived : List Response → List ℕ → Result → Exchange
  arrived ss answers r =
      record {
        numbers = r.numbers;
        notes = w.notes;
        asked = w.asked;
        leave = w.leave;
        requests = w.requests;
        responses = ss;
        matched = matching w (matched_to r.report.word r.report.transaction) answers;
      }

  -- it changes nothing
  agrees_stray : (ss : List Response) (answers : List ℕ) → Carried links w.numbers w.notes w.leave (in_flight ss w.requests) → Unasked ss
      → Agrees links (arrived ss answers (done stray 0 w.numbers))
  unfolding matching
  agrees_stray ss answers c q = record { kept = g.kept; size = g.size; under_way = g.under_way; carried = c; unasked = q; right = g.right }

  -- it frees a number under which nothing else is in flight, and is matched to the question that it answers
  agrees_freed : (ss : List Response) (n q : ℕ) (r : Result) → 0 < n → w.notes n ≡ q → Absent n (in_flight ss w.requests)
      → Carried links w.numbers w.notes w.leave (in_flight ss w.requests) → Unasked ss
      → matched_to r.report.word r.report.transaction ≡ n ∷ [] → r.numbers ≡ put w.numbers n free → Agrees links (arrived ss (q ∷ []) r)
  unfolding matching Right
  agrees_freed ss n q r above ours absent c unasked is frees =
      let d = w.numbers in
      rw (is, frees)
      (record {
        kept = put_rules d n free above (λ e. impossible cc) g.kept;
        size = length-set d.marks n free ∙ g.size;
        under_way = g.under_way;
        carried = carried_free links d w.notes w.leave n (in_flight ss w.requests) absent c;
        unasked = unasked;
        right = (ap (λ x. x ∷ []) (sym ours), g.right);
      })

  -- the announcement, behind which nothing is in flight
  agrees_announced : (ss : List Response) (answers : List ℕ) → w.leave ≡ false → in_flight ss w.requests ≡ [] → Unasked ss
      → Agrees links (arrived ss answers (after_reply w.numbers announcement))
  unfolding matching
  agrees_announced ss answers no-leave none q =
      rw (reply_by w.numbers g.kept announcement, announces)
      (record {
        kept = fresh_rules;
        size = refl;
        under_way = λ e. let z = sym no-leave ∙ e in impossible cc;
        carried = carried_none links fresh w.notes w.leave (in_flight ss w.requests) none;
        unasked = q;
        right = g.right;
      })

  -- what nobody asked for
  by_unasked : (ss : List Response) (k : BodyKind) → may_be_unsolicited k ≡ true → Carried links w.numbers w.notes w.leave (in_flight ss w.requests) → Unasked ss
      → Agrees links (arrived ss [] (by_kind k w.numbers))
  by_unasked ss Announcement e c q = impossible cc
  by_unasked ss (Reply n) e c q = rw (eqb-true n 0 e, (rules_told w.numbers g.kept).zero) (agrees_stray ss [] c q)
  by_unasked ss Other e c q = agrees_stray ss [] c q

  -- a reply to a question
  by_number : (ss : List Response) (l n q : ℕ) (r₀ rest : List ℕ) → Asked links w.numbers w.notes l n q r₀ → Absent n (in_flight ss w.requests)
      → Carried links w.numbers w.notes w.leave (in_flight ss w.requests) → Unasked ss
      → Agrees links (arrived ss (q ∷ []) (after_reply w.numbers (header l n ∷ rest)))
  by_number ss l n q r₀ rest x absent c unasked =
      rw (reply_by w.numbers g.kept (header l n ∷ rest))
      (⊎_elim (λ k. rw k (agrees_stray ss (q ∷ []) c unasked))
      (λ k. rw k
      (mark_cases w.numbers g.kept (λ r. Agrees links (arrived ss (q ∷ []) r)) n (λ f. absurd (x.marked f))
      (λ _. agrees_freed ss n q (done answered n (put w.numbers n free)) x.above x.ours absent c unasked refl refl)
      (λ _. agrees_freed ss n q (done late n (put w.numbers n free)) x.above x.ours absent c unasked refl refl)))
      (reply_or_other l n rest x.above x.below))

  agrees_deliver : 1 ≤ links → (ss : List Response) → w.responses ≡ ss → Agrees links (delivering links w ss)
  unfolding delivering body_of in_flight Carried Unasked
  agrees_deliver some [] e = g
  agrees_deliver some (reply (command l n q r₀) rest ∷ ss) e =
      let c = rw e at g.carried in
      rw c.0.no_reset (by_number ss l n q r₀ rest c.0 c.1 c.2 (rw e at g.unasked))
  agrees_deliver some (reply reset rest ∷ ss) e =
      let c = rw e at g.carried in
      rw (reset_is links some) (agrees_announced ss [] c.1 c.2 (rw e at g.unasked))
  agrees_deliver some (unsolicited b ∷ ss) e =
      let q = rw e at g.unasked in
      rw (reply_by w.numbers g.kept b) (by_unasked ss (kind b) q.0 (rw e at g.carried) q.1)

-- ---- every event, and every run

agrees_step : (links : ℕ) → 1 ≤ links → (w : Exchange) (e : Event) → Agrees links w → Agrees links (step links w e)
unfolding step
agrees_step links some w (ask l rest) g =
    chosen (Agrees links) (may_send links l rest)
    (λ e. let may = sends links l rest e in agrees_ask links w g l rest may.0 may.1) (λ _. g)
agrees_step links some w (give_up n) g = agrees_give_up links w g n
agrees_step links some w ask_leave g = agrees_leave links w g
agrees_step links some w send_reset g = chosen (Agrees links) w.leave (λ e. agrees_reset links w g e) (λ _. g)
agrees_step links some w (answer rest) g = agrees_answer links w g rest w.requests refl
agrees_step links some w drop_request g = agrees_drop links w g w.requests refl
agrees_step links some w (send_unsolicited b) g = chosen (Agrees links) (may_be_unsolicited (kind b)) (λ e. agrees_unsolicited links w g b e) (λ _. g)
agrees_step links some w deliver g = agrees_deliver links w g some w.responses refl

agrees_from : (links : ℕ) → 1 ≤ links → (w : Exchange) (es : List Event) → Agrees links w → Agrees links (foldl (step links) w es)
agrees_from links some w [] g = g
agrees_from links some w (e ∷ es) g = agrees_from links some (step links w e) es (agrees_step links some w e g)

pub agrees : (links : ℕ) → 1 ≤ links → (es : List Event) → Agrees links (run links es)
unfolding run
agrees links some es = agrees_from links some start es (agrees_start links)
