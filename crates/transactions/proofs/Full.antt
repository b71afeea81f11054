-- PROMISE: opening is refused with 31 exactly where none of 1 to 15 is free, on a table that keeps its rules with no reset under way.
use mathlib.Core.Logic.{◌≢◌}
use mathlib.Core.Path.{◌≡◌}
use mathlib.Core.Bool.{false}
use Prim.Native.Nat.{ℕ, ◌≤◌}
use native.Mathlib.Omega.{arith}
use borrow.Author.Tests.{ltb-true, ltb-false}
use lib.Dec.{ltb}
use Rattle.octets.proofs.LawsTests.{by_test}
use Rattle.transactions.specs.Table.{free, Numbers, mark_at, Rules, rules, lowest, refused, after_open}
use Rattle.transactions.proofs.LawsTable.{lowest_free, rules_told}
use Rattle.transactions.proofs.LawsCalls.{open_11, open_31, open_cases}
use Rattle.transactions.proofs.TableRules.{rules_hold, lowest_above}
use Rattle.transactions.proofs.Lowest.{lower_marked}

pub full : (d : Numbers) → Rules d → d.resetting ≡ false → ((n : ℕ) → 1 ≤ n → n ≤ 15 → mark_at d n ≢ free) → after_open d ≡ refused 31 d
full d keeps idle none =
    open_31 d (rules_hold d keeps) idle
    (by_test (ltb 15 (lowest d)) (λ t. ltb-true 15 (lowest d) t) (λ t. absurd (none (lowest d) (lowest_above d) (ltb-false 15 (lowest d) t) (lowest_free d))))

-- where the answer is 31
pub record IsFull (d : Numbers) : Type 0 where
  pub keeps : Rules d
  pub idle : d.resetting ≡ false
  pub none : (n : ℕ) → 1 ≤ n → n ≤ 15 → mark_at d n ≢ free

pub only_full : (d : Numbers) → (after_open d).report.number ≡ 31 → IsFull d
only_full d =
    by_test (rules d)
    (λ kept. open_cases d kept (λ r. r.report.number ≡ 31 → IsFull d) (λ _ e. absurd (omega arith))
    (λ idle high e. record { keeps = rules_told d kept; idle = idle; none = λ n a b. lower_marked d n a (omega arith) }) (λ _ _ e. absurd (omega arith)))
    (λ broken e. let z = rw (open_11 d broken) at e in absurd (omega arith))
