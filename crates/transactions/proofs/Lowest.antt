-- PROMISE: the number handed out is the lowest free one. On a table that keeps its rules, with no reset under way: where a number of 1 to 15 is
-- free and each lower one from 1 on is not, opening hands it out and marks it as waiting. Whatever number is handed out is so.
use mathlib.Core.Logic.{◌≢◌}
use mathlib.Core.Path.{◌≡◌, ap, ◌∙◌}
use mathlib.Core.Bool.{false}
use mathlib.Core.List.{List, [], ◌∷◌}
use Prim.Native.Nat.{ℕ, zero, suc, ◌≤◌, ◌<◌}
use native.Mathlib.Omega.{arith}
use borrow.Author.Tests.{ltb-true, ltb-false}
use lib.Dec.{ltb}
use lib.ListN.{get_or, drop}
use Rattle.octets.proofs.LawsTests.{by_test, impossible}
use Rattle.transactions.specs.Answer.{opened}
use Rattle.transactions.specs.Table.{Mark, free, waiting, given_up, both, Numbers, mark_at, put, Rules, first_free, lowest, Result, done, after_open}
use Rattle.transactions.proofs.LawsTable.{lowest_free}
use Rattle.transactions.proofs.LawsCalls.{open_done, open_cases}
use Rattle.transactions.proofs.TableRules.{rules_hold, lowest_above}

before_first : (ms : List Mark) (k : ℕ) → k < first_free ms → get_or ms k free ≢ free
unfolding first_free
before_first [] k h = absurd (omega arith)
before_first (free ∷ ms) k h = absurd (omega arith)
before_first (waiting ∷ ms) zero h = λ e. impossible cc
before_first (waiting ∷ ms) (suc k) h = before_first ms k (omega arith)
before_first (given_up ∷ ms) zero h = λ e. impossible cc
before_first (given_up ∷ ms) (suc k) h = before_first ms k (omega arith)
before_first (both ∷ ms) zero h = λ e. impossible cc
before_first (both ∷ ms) (suc k) h = before_first ms k (omega arith)

-- each number from 1 on below the lowest free one is marked
pub lower_marked : (d : Numbers) (k : ℕ) → 1 ≤ k → k < lowest d → mark_at d k ≢ free
unfolding lowest
lower_marked d zero p h = absurd (omega arith)
lower_marked d (suc k) p h = by d.marks (omega arith)
  where
    by : (ms : List Mark) → k < first_free (drop 1 ms) → get_or ms (suc k) free ≢ free
    by [] h = before_first [] k h
    by (m ∷ ms) h = before_first ms k h

-- a free number, and no lower one from 1 on is free
pub record IsLowest (d : Numbers) (n : ℕ) : Type 0 where
  pub from_1 : 1 ≤ n
  pub free_is : mark_at d n ≡ free
  pub lower : (k : ℕ) → 1 ≤ k → k < n → mark_at d k ≢ free

is_lowest : (d : Numbers) (n : ℕ) → IsLowest d n → lowest d ≡ n
is_lowest d n l =
    by_test (ltb (lowest d) n) (λ t. absurd (l.lower (lowest d) (lowest_above d) (ltb-true (lowest d) n t) (lowest_free d)))
    (λ t. by_test (ltb n (lowest d)) (λ u. absurd (lower_marked d n l.from_1 (ltb-true n (lowest d) u) l.free_is))
    (λ u. let a = ltb-false (lowest d) n t in let b = ltb-false n (lowest d) u in omega arith))

pub lowest_number : (d : Numbers) (n : ℕ) → Rules d → d.resetting ≡ false → IsLowest d n → n ≤ 15 → after_open d ≡ done opened n (put d n waiting)
lowest_number d n keeps idle l fits =
    let e = is_lowest d n l in
    open_done d (rules_hold d keeps) idle (rw e fits) ∙ ap (λ k. done opened k (put d k waiting)) e

-- what a report says of a number that was handed out
record Handed (d : Numbers) (r : Result) : Type 0 where
  is : r.report.word ≡ opened → IsLowest d r.report.transaction
  few : r.report.word ≡ opened → r.report.transaction ≤ 15

pub handed_out_lem : (d : Numbers) → Rules d → (after_open d).report.word ≡ opened
    → IsLowest d (after_open d).report.transaction × ((after_open d).report.transaction ≤ 15)
handed_out_lem d keeps e =
    let h = open_cases d (rules_hold d keeps) (Handed d)
    (λ _. record { is = λ z. impossible cc; few = λ z. impossible cc })
    (λ _ _. record { is = λ z. impossible cc; few = λ z. impossible cc })
    (λ _ fits. record { is = λ _. record { from_1 = lowest_above d; free_is = lowest_free d; lower = lower_marked d }; few = λ _. fits }) in
    (h.is e, h.few e)
