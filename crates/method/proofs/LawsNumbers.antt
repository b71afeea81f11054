-- Laws of the numbers that payloads hold.
use mathlib.Core.Path.{◌≡◌, refl, ap}
use mathlib.Core.Bool.{true}
use mathlib.Core.List.{List}
use Prim.Native.Nat.{ℕ, ◌≤◌}
use native.Mathlib.Omega.{arith}
use borrow.Author.Tests.{eqb-true, leb-true}
use lib.Dec.{eqb, ltb, leb}
use lib.ListN.{length}
use lib.Seq.{take_all}
use Rattle.octets.specs.LittleEndian.{le, le_at}
use Rattle.octets.proofs.LawsTests.{by_test, impossible}
use Rattle.property.specs.Number.{power_state, within}
use Rattle.property.specs.declared.number.Number.{Number as Numeric}
use Rattle.method.specs.Set.{value_in}
use Rattle.std.specs.Prelude.{Ok}

-- octets that are read whole
pub le_whole : (p : List ℕ) (n : ℕ) → length p ≡ n → le_at p 0 n ≡ le p
unfolding le_at
le_whole p n e = ap le (take_all n p (omega arith))

-- a value that is read is the payload's number, in the number's width, and one that the number may have
pub value_told : (n : Numeric) (p : List ℕ) (v : ℕ) → value_in n p ≡ Ok v → (length p ≡ n.width) × (le p ≡ v) × (within n v ≡ true)
unfolding value_in
value_told n p v e =
    by_test (eqb (length p) n.width)
    (λ t. by_test (within n (le p))
    (λ u. let good = rw (t, u) at e in let same : le p ≡ v = cc in (eqb-true _ _ t, same, rw (← same) u))
    (λ u. let bad = rw (t, u) at e in impossible cc))
    (λ t. let bad = rw t at e in impossible cc)

pub value_within : (n : Numeric) (p : List ℕ) (v : ℕ) → value_in n p ≡ Ok v → within n v ≡ true
value_within n p v e = (value_told n p v e).2

-- where the range does not go over the top of the width, a value is at most its high end
pub within_most : (n : Numeric) (v : ℕ) → leb n.low n.high ≡ true → within n v ≡ true → v ≤ n.high
unfolding within
within_most n v up t =
    by_test (ltb n.top v)
    (λ e. let no = rw e at t in impossible cc)
    (λ e. by_test (ltb v n.low) (λ f. let no = rw (e, up, f) at t in impossible cc) (λ f. leb-true v n.high (rw (e, up, f) at t)))

-- a power state that is read is 0 to 4
pub power_most : (p : List ℕ) (v : ℕ) → value_in power_state p ≡ Ok v → v ≤ 4
power_most p v e = within_most power_state v refl (value_within power_state p v e)
