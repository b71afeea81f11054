-- Laws of looking for an octet.
use mathlib.Core.Path.{◌≡◌, refl}
use mathlib.Core.List.{List}
use Prim.Native.Nat.{ℕ, suc, ◌+◌, ◌≤◌, ◌<◌}
use native.Mathlib.Omega.{arith}
use native.Mathlib.Numerals.{one-add}
use borrow.Author.Tests.{eq-eqb, ne_eqb}
use lib.Dec.{eqb}
use lib.ListN.{length, get_or, drop, drop_of_length-le}
use Rattle.std.specs.List.{position_or_len}
use Rattle.std.proofs.lemmas.List.Recursion.{is_position_or_len}
use Rattle.std.proofs.lemmas.List.Sums.{prefix_len-le-length}
use mathlib.Core.Bool.{not}
use Rattle.octets.specs.Finding.{before}
use Rattle.octets.proofs.LawsLists.{drop_next}

-- from a place on, which is how the loop goes
pub before_here : (x : ℕ) (xs : List ℕ) (at : ℕ) → at < length xs → get_or xs at 0 ≡ x → before x (drop at xs) ≡ 0
unfolding before
before_here x xs at h e = rw (drop_next xs at h, eq-eqb _ _ e)

pub before_on : (x : ℕ) (xs : List ℕ) (at : ℕ) → at < length xs → (get_or xs at 0 ≡ x → ⊥) → before x (drop at xs) ≡ suc (before x (drop (at + 1) xs))
unfolding before
before_on x xs at h e = rw (drop_next xs at h, ne_eqb _ _ e)

pub before_none : (x : ℕ) (xs : List ℕ) (at : ℕ) → length xs ≤ at → before x (drop at xs) ≡ 0
unfolding before
before_none x xs at h = rw (drop_of_length-le xs {i = at} h)

-- in the library's words
pub before_is : (x : ℕ) (xs : List ℕ) → before x xs ≡ position_or_len (λ y. eqb y x) xs
unfolding before
before_is x = is_position_or_len (before x) (λ y. eqb y x) refl (λ y ys. rw one-add refl)

pub before_most : (x : ℕ) (xs : List ℕ) → before x xs ≤ length xs
unfolding before
before_most x xs = omega (arith, before_is x xs, prefix_len-le-length (λ y. not (eqb y x)) xs)
