-- Laws of a test at every place: how a loop goes on, stops and ends, and what it tells of a place.
use mathlib.Core.Path.{◌≡◌, refl, ap, ◌∙◌}
use mathlib.Core.Bool.{Bool, true, false, ◌&&◌}
use Prim.Native.Nat.{ℕ, zero, suc, ◌+◌, ◌-◌, ◌≤◌, ◌<◌}
use native.Mathlib.Omega.{arith}
use native.Mathlib.Nat.{add-zero, zero-add}
use native.Mathlib.Numerals.{add-one}
use mathlib.Core.List.{List}
use lib.Dec.{eqb}
use lib.ListN.{length, get_or, drop, drop_of_length-le}
use lib.Seq.{drop-cons}
use Rattle.std.specs.List.{list_all}
use Rattle.octets.specs.Scanning.{all_from, all_below, zeros_from}
use Rattle.octets.proofs.LawsTests.{and_l, and_r, both}

module _ (test : ℕ → Bool) (n i : ℕ) where
  here : i < n → all_from test i (n - i) ≡ test i && all_from test (i + 1) (n - (i + 1))
  unfolding all_from
  here h = let e : n - i ≡ suc (n - (i + 1)) = omega arith in rw (e, add-one)

  pub scan_on : i < n → test i ≡ true → all_from test i (n - i) ≡ all_from test (i + 1) (n - (i + 1))
  scan_on h t = here h ∙ rw t

  pub scan_stop : i < n → test i ≡ false → all_from test i (n - i) ≡ false
  scan_stop h t = here h ∙ rw t

  pub scan_end : n ≤ i → all_from test i (n - i) ≡ true
  unfolding all_from
  scan_end h = let e : n - i ≡ 0 = omega arith in rw e

from_at : (test : ℕ → Bool) (i n : ℕ) → all_from test i n ≡ true → (j : ℕ) → j < n → test (i + j) ≡ true
unfolding all_from
from_at test i zero t j h = absurd (omega arith)
from_at test i (suc n) t zero h = rw (add-zero i) (and_l (test i) (all_from test (suc i) n) t)
from_at test i (suc n) t (suc j) h =
    let e : i + suc j ≡ suc i + j = omega arith in
    rw e (from_at test (suc i) n (and_r (test i) (all_from test (suc i) n) t) j (omega arith))

-- `n` places from `i` on pass if each does
pub from_all : (test : ℕ → Bool) (i n : ℕ) → ((k : ℕ) → i ≤ k → k < i + n → test k ≡ true) → all_from test i n ≡ true
unfolding all_from
from_all test i zero t = refl
from_all test i (suc n) t =
    both (test i) (all_from test (suc i) n) (t i (omega arith) (omega arith)) (from_all test (suc i) n (λ k l h. t k (omega arith) (omega arith)))

-- what holds of every place holds of each
pub all_at : (n : ℕ) (test : ℕ → Bool) → all_below n test ≡ true → (k : ℕ) → k < n → test k ≡ true
unfolding all_below
all_at n test t k h = rw (zero-add k) at (from_at test 0 n t k h)

-- and the other way round
pub all_of : (n : ℕ) (test : ℕ → Bool) → ((k : ℕ) → k < n → test k ≡ true) → all_below n test ≡ true
unfolding all_below
all_of n test t = from_all test 0 n (λ k l h. t k (omega arith))

-- ---- in the library's words

zeros_left : (xs : List ℕ) (n from : ℕ) → n ≡ length xs - from → all_from (λ i. eqb (get_or xs i 0) 0) from n ≡ list_all (λ x. eqb x 0) (drop from xs)
unfolding all_from
zeros_left xs zero from e = rw (drop_of_length-le xs {i = from} (omega arith))
zeros_left xs (suc n) from e =
    let h : from < length xs = omega arith in
    rw (drop-cons xs from 0) (ap (λ t. eqb (get_or xs from 0) 0 && t) (zeros_left xs n (suc from) (omega arith)))

pub zeros_is : (xs : List ℕ) (from : ℕ) → zeros_from from xs ≡ list_all (λ x. eqb x 0) (drop from xs)
unfolding zeros_from
zeros_is xs from = zeros_left xs (length xs - from) from refl
