-- Laws of comparing two lists.
use mathlib.Core.Path.{◌≡◌, refl, sym, ◌∙◌}
use mathlib.Core.Bool.{true, and-false}
use mathlib.Core.List.{List, [], ◌∷◌}
use Prim.Native.Nat.{ℕ, suc, ◌+◌, ◌≤◌, ◌<◌}
use borrow.Author.Tests.{eq-eqb, ne_eqb}
use lib.Dec.{eqb, eqb-zero-suc, eqb-suc-zero, eqb-suc-suc}
use lib.ListN.{length, get_or, drop, drop_of_length-le}
use Rattle.std.specs.Cmp.Lexicographic.{pointwise}
use Rattle.std.proofs.lemmas.Slice.Eq.{bytes_eq-Decides}
use Rattle.octets.specs.Comparing.{common_front, is_same}
use Rattle.octets.proofs.LawsLists.{drop_next}
use Rattle.octets.proofs.LawsTests.{by_test}

-- ---- from a place on, which is how a loop goes

common_none : (xs : List ℕ) → common_front xs [] ≡ 0
unfolding common_front
common_none [] = refl
common_none (x ∷ xs) = refl

module _ (xs ys : List ℕ) (at : ℕ) where
  pub common_end : length xs ≤ at → common_front (drop at xs) (drop at ys) ≡ 0
  unfolding common_front
  common_end h = rw (drop_of_length-le xs {i = at} h)

  pub common_short : length ys ≤ at → common_front (drop at xs) (drop at ys) ≡ 0
  common_short h = rw (drop_of_length-le ys {i = at} h) (common_none (drop at xs))

  module _ (h : at < length xs) (k : at < length ys) where
    pub common_stop : (get_or xs at 0 ≡ get_or ys at 0 → ⊥) → common_front (drop at xs) (drop at ys) ≡ 0
    unfolding common_front
    common_stop other = rw (drop_next xs at h, drop_next ys at k, ne_eqb _ _ other)

    pub common_on : get_or xs at 0 ≡ get_or ys at 0 → common_front (drop at xs) (drop at ys) ≡ suc (common_front (drop (at + 1) xs) (drop (at + 1) ys))
    unfolding common_front
    common_on same = rw (drop_next xs at h, drop_next ys at k, eq-eqb _ _ same)

-- ---- in the library's words

pub same_is : (xs ys : List ℕ) → is_same xs ys ≡ pointwise eqb xs ys
unfolding is_same common_front
same_is [] [] = refl
same_is [] (y ∷ ys) = rw eqb-zero-suc
same_is (x ∷ xs) [] = rw eqb-suc-zero
same_is (x ∷ xs) (y ∷ ys) = by_test (eqb x y) (λ t. simp (t, eqb-suc-suc) (same_is xs ys)) (λ t. simp (t, eqb-zero-suc, and-false))

-- ---- the same is equal

pub same_self : (xs : List ℕ) → is_same xs xs ≡ true
same_self xs = same_is xs xs ∙ (bytes_eq-Decides xs xs).1 refl

pub same_equal : (xs ys : List ℕ) → is_same xs ys ≡ true → xs ≡ ys
same_equal xs ys t = (bytes_eq-Decides xs ys).0 (sym (same_is xs ys) ∙ t)
