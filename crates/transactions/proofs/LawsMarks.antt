-- Marks made of two sets' digits.
use mathlib.Core.Path.{◌≡◌, refl, sym, ap, ap₂, ◌∙◌}
use mathlib.Core.Bool.{true, cond, not}
use mathlib.Core.List.{List, [], ◌∷◌}
use Prim.Native.Nat.{ℕ, zero, suc, ◌+◌, ◌-◌, ◌*◌, ◌/◌, ◌%◌, ◌^◌, ◌<◌, min, max}
use native.Mathlib.Nat.{zero-max, max-zero, zero-min, min-zero, suc-max-suc, suc-min-suc, suc_inj}
use native.Mathlib.Omega.{arith}
use borrow.Author.Tests.{ne_eqb}
use lib.Dec.{eqb}
use lib.ListN.{length, get_or, set, drop}
use lib.Pow.{pow-lt}
use lib.Bits.{bit_and, bit_or, and_step, or_lt, or_zero_r}
use lib.Count.{count_trailing_zeros, under}
use Rattle.transactions.specs.NumberSet.{digits}
use Rattle.transactions.specs.Table.{free, mark, marks_of, is_free, is_both, any_both, first_free}
use Rattle.transactions.proofs.LawsDigits.{digit_lt, max_digit, or_lowest, or_others, not_lowest, not_others, half_lt, max_one}

pub marks_at : (ws gs : List ℕ) (n : ℕ) → length ws ≡ length gs → get_or (marks_of ws gs) n free ≡ mark (get_or ws n 0) (get_or gs n 0)
unfolding marks_of
marks_at [] [] zero e = refl
marks_at [] [] (suc n) e = refl
marks_at [] (g ∷ gs) n e = absurd (omega arith)
marks_at (w ∷ ws) [] n e = absurd (omega arith)
marks_at (w ∷ ws) (g ∷ gs) zero e = refl
marks_at (w ∷ ws) (g ∷ gs) (suc n) e = marks_at ws gs n (suc_inj e)

pub marks_set : (ws gs : List ℕ) (n x y : ℕ) → marks_of (set ws n x) (set gs n y) ≡ set (marks_of ws gs) n (mark x y)
unfolding marks_of
marks_set [] gs zero x y = refl
marks_set [] gs (suc n) x y = refl
marks_set (w ∷ ws) [] zero x y = refl
marks_set (w ∷ ws) [] (suc n) x y = refl
marks_set (w ∷ ws) (g ∷ gs) zero x y = refl
marks_set (w ∷ ws) (g ∷ gs) (suc n) x y = ap (λ l. mark w g ∷ l) (marks_set ws gs n x y)

-- ---- free: in neither set

is_free_max : (a b : ℕ) → is_free (mark a b) ≡ eqb (max a b) 0
is_free_max zero zero = refl
is_free_max zero (suc b) = rw (zero-max (suc b), ne_eqb (suc b) 0 (λ e. omega arith))
is_free_max (suc a) zero = rw (max-zero (suc a), ne_eqb (suc a) 0 (λ e. omega arith))
is_free_max (suc a) (suc b) = rw (suc-max-suc a b, ne_eqb (suc (max a b)) 0 (λ e. omega arith))

-- the mark of 0 is by the lowest bit of the union
pub is_free_lowest : (w g : ℕ) → is_free (mark (w % 2) (g % 2)) ≡ eqb (bit_or w g % 2) 0
is_free_lowest w g = is_free_max (w % 2) (g % 2) ∙ ap (λ x. eqb x 0) (sym (or_lowest w g))

-- ---- both: in a common bit

is_both_min : (a b : ℕ) → is_both (mark a b) ≡ not (eqb (min a b) 0)
is_both_min zero zero = refl
is_both_min zero (suc b) = rw (zero-min (suc b))
is_both_min (suc a) zero = rw (min-zero (suc a))
is_both_min (suc a) (suc b) = rw (suc-min-suc a b, ne_eqb (suc (min a b)) 0 (λ e. omega arith))

either_bit : (m r : ℕ) → cond (not (eqb m 0)) true (not (eqb r 0)) ≡ not (eqb (r * 2 + m) 0)
either_bit zero zero = refl
either_bit zero (suc r) = rw (ne_eqb (suc r) 0 (λ e. omega arith), ne_eqb (suc r * 2 + 0) 0 (λ e. omega arith))
either_bit (suc m) r = rw (ne_eqb (suc m) 0 (λ e. omega arith), ne_eqb (r * 2 + suc m) 0 (λ e. omega arith))

pub any_both_and : (k w g : ℕ) → w < 2 ^ k → g < 2 ^ k → any_both (marks_of (digits k w) (digits k g)) ≡ not (eqb (bit_and w g) 0)
unfolding digits marks_of any_both
any_both_and zero w g p q = let z : w ≡ 0 = omega arith in ap (λ x. not (eqb (bit_and x g) 0)) (sym z)
any_both_and (suc k) w g p q =
    ap₂ (λ x y. cond x true y) (is_both_min (w % 2) (g % 2)) (any_both_and k (w / 2) (g / 2) (half_lt k w p) (half_lt k g q))
    ∙ either_bit (min (w % 2) (g % 2)) (bit_and (w / 2) (g / 2))
    ∙ ap (λ x. not (eqb x 0)) (sym (and_step w g))

-- ---- the first free mark stands at the count of trailing zeros of the free numbers' bits

under_not : (m t : ℕ) → m < 2 → under (1 - m) t ≡ cond (eqb m 0) 0 (suc t)
under_not zero t h = refl
under_not (suc m) t h = let z : m ≡ 0 = omega arith in rw z

first_trailing : (k w g : ℕ) → w < 2 ^ k → g < 2 ^ k → count_trailing_zeros k (2 ^ k - 1 - bit_or w g) ≡ first_free (marks_of (digits k w) (digits k g))
unfolding digits marks_of first_free count_trailing_zeros
first_trailing zero w g p q = refl
first_trailing (suc k) w g p q =
    let f = or_lt (suc k) w g p q in
    simp (
      not_lowest k (bit_or w g) f,
      not_others k (bit_or w g) f,
      or_lowest,
      or_others,
      first_trailing k (w / 2) (g / 2) (half_lt k w p) (half_lt k g q),
      is_free_max,
    )
    (under_not (max (w % 2) (g % 2)) (first_free (marks_of (digits k (w / 2)) (digits k (g / 2)))) (max_digit (w % 2) (g % 2) (digit_lt w) (digit_lt g)))

-- with 0 never free
pub lowest_trailing : (k w g : ℕ) → w < 2 ^ suc k → g < 2 ^ suc k
    → count_trailing_zeros (suc k) (2 ^ suc k - 1 - bit_or (bit_or w g) 1) ≡ suc (first_free (drop 1 (marks_of (digits (suc k) w) (digits (suc k) g))))
unfolding digits marks_of count_trailing_zeros
lowest_trailing k w g p q =
    let o = or_lt (suc k) w g p q in
    let f = or_lt (suc k) (bit_or w g) 1 o (pow-lt {i = 0} {j = suc k} (omega arith)) in
    simp (
      not_lowest k (bit_or (bit_or w g) 1) f,
      not_others k (bit_or (bit_or w g) 1) f,
      or_lowest (bit_or w g) 1,
      or_others (bit_or w g) 1,
      or_others w g,
      or_zero_r,
      max_one (bit_or w g % 2) (digit_lt (bit_or w g)),
    )
    (ap suc (first_trailing k (w / 2) (g / 2) (half_lt k w p) (half_lt k g q)))
