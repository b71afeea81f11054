-- PROMISE: every row of the two tables keeps its rule, each by one test that is computed over the whole table; what is looked up is the
-- row of that property, and keeps the rule; the slots that the rules of the state name are those of 65 and 66.
use mathlib.Core.Path.{◌≡◌, refl}
use mathlib.Core.Bool.{true}
use mathlib.Core.List.{List, [], ◌∷◌}
use Prim.Native.Nat.{ℕ, ◌<◌, ◌≤◌}
use borrow.Author.Tests.{eqb-true}
use native.Mathlib.Omega.{arith}
use lib.Dec.{eqb}
use lib.ListN.{get_or}
use Rattle.std.specs.Prelude.{Option, None, Some, find}
use Rattle.std.specs.List.{list_all}
use Rattle.octets.specs.Scanning.{all_from, all_below}
use Rattle.octets.proofs.LawsScanning.{all_at}
use Rattle.octets.proofs.LawsTests.{by_test, chosen, and_l, and_r}
use Rattle.property.specs.Status.{status_number, RefusalStatus, parse_error, invalid_argument}
use Rattle.property.specs.declared.row.Kind.{Kind}
use Rattle.property.specs.declared.row.Kind.TheVariants.{Power, Number}
use Rattle.property.specs.declared.row.Row.{Row}
use Rattle.property.specs.declared.number.Number.{Number as Numeric}
use Rattle.property.specs.Row.{rows, no_row, lookup, row_count}
use Rattle.property.specs.Number.{numbers, ids, number_at, power_state, interface_up, stack_up, within, slot_count}
use Rattle.property.specs.Rule.{of_device, is_shared, kind_rule, row_rule, KeepsRule, number_rule}

pub rows_keep : (i : ℕ) → i < row_count → row_rule (get_or rows i no_row) ≡ true
unfolding rows ids all_below all_from
rows_keep i h = all_at row_count (λ j. row_rule (get_or rows j no_row)) refl i h

pub numbers_keep : (slot : ℕ) → slot < slot_count → number_rule (number_at slot) ≡ true
unfolding numbers within all_below all_from
numbers_keep slot h = all_at slot_count (λ k. number_rule (number_at k)) refl slot h

pub interface_is_65 : get_or ids interface_up 0 ≡ 65
unfolding ids
interface_is_65 = refl

pub stack_is_66 : get_or ids stack_up 0 ≡ 66
unfolding ids
stack_is_66 = refl

pub power_keeps : number_rule power_state ≡ true
unfolding within
power_keeps = refl

-- what is looked up keeps the rule, and is the property asked for
abbrev pub Asked : ℕ → Option Row → Type 0
Asked id None = Unit {0}
Asked id (Some r) = (row_rule r ≡ true) × (r.id ≡ id)

asked_in : (rs : List Row) (id : ℕ) → list_all row_rule rs ≡ true → Asked id (find (λ r. eqb r.id id) rs)
asked_in [] id t = tt
asked_in (r ∷ rs) id t =
    chosen (Asked id) (eqb r.id id) (λ e. (and_l (row_rule r) _ t, eqb-true r.id id e)) (λ e. asked_in rs id (and_r (row_rule r) _ t))

pub lookup_asked : (id : ℕ) → Asked id (lookup id)
unfolding lookup rows ids
lookup_asked id = asked_in rows id refl

keeps : (id : ℕ) (f : Option Row) → Asked id f → KeepsRule f
keeps id None a = tt
keeps id (Some r) a = a.0

pub lookup_keeps : (id : ℕ) → KeepsRule (lookup id)
lookup_keeps id = keeps id (lookup id) (lookup_asked id)

-- ---- what the rule tells

-- a row's scope is that of its kind
pub scope_told : (r : Row) → row_rule r ≡ true → of_device r.scope ≡ is_shared r.kind
scope_told r t = grind arith

pub small_id : (r : Row) → row_rule r ≡ true → r.id < 16384
small_id r t = grind arith

kind_told : (r : Row) (k : Kind) → r.kind ≡ k → row_rule r ≡ true → kind_rule k r ≡ true
kind_told r k e t = rw (← e) (grind arith)

pub power_id : (r : Row) → r.kind ≡ Power → row_rule r ≡ true → r.id ≡ 7
power_id r e t = let k = kind_told r Power e t in grind arith

pub slot_below : (r : Row) (slot : ℕ) → r.kind ≡ Number slot → row_rule r ≡ true → slot < slot_count
slot_below r slot e t = let k = kind_told r (Number slot) e t in grind arith

pub width_most : (n : Numeric) → number_rule n ≡ true → n.width ≤ 4
width_most n t = grind arith

-- a value outside is refused with one of the nine statuses
pub outside_refused : (n : Numeric) → number_rule n ≡ true → RefusalStatus (status_number n.outside)
outside_refused n t =
    let s = status_number n.outside in
    by_test (eqb s 3)
    (λ e. let three : s ≡ 3 = eqb-true s 3 e in rw three invalid_argument)
    (λ e. let nine : s ≡ 9 = grind arith in rw nine parse_error)
