-- Binary digits: one set, one cleared, one looked at, and the number that they are the digits of.
use mathlib.Core.Path.{◌≡◌, refl, sym, ap, ◌∙◌}
use mathlib.Core.List.{List, [], ◌∷◌}
use Prim.Native.Nat.{ℕ, zero, suc, ◌+◌, ◌-◌, ◌*◌, ◌/◌, ◌%◌, ◌^◌, ◌<◌, min, max}
use native.Mathlib.Nat.{pow-suc, max-zero, zero-max, min-zero, suc-max-suc, min-le_left, mod-eq_of_lt, one-mul, div-one}
use native.Mathlib.Omega.{arith}
use lib.ListN.{length, get_or, set, get_or-eq_default}
use lib.Pow.{pow-lt, shr-shr, shl_exact}
use lib.Bits.{bit_and, bit_or, and_step, or_step, or_zero_r, and_mask}
use Rattle.transactions.specs.NumberSet.{digits}

-- ---- the lowest digit and the others, of what the bit operations give

pub digit_lt : (n : ℕ) → n % 2 < 2
digit_lt n = omega arith

lowest_of : (x d : ℕ) → d < 2 → (x * 2 + d) % 2 ≡ d
lowest_of x d h = omega arith

others_of : (x d : ℕ) → d < 2 → (x * 2 + d) / 2 ≡ x
others_of x d h = omega arith

pub max_digit : (a b : ℕ) → a < 2 → b < 2 → max a b < 2
max_digit zero b p q = rw (zero-max b) q
max_digit (suc a) zero p q = rw (max-zero (suc a)) p
max_digit (suc a) (suc b) p q = let y : a ≡ 0 = omega arith in let z : b ≡ 0 = omega arith in rw (suc-max-suc a b, y, z) (omega arith)

min_digit : (a b : ℕ) → a < 2 → min a b < 2
min_digit a b p = omega (arith, min-le_left a b)

pub or_lowest : (a b : ℕ) → bit_or a b % 2 ≡ max (a % 2) (b % 2)
or_lowest a b = rw (or_step a b) (lowest_of _ _ (max_digit (a % 2) (b % 2) (digit_lt a) (digit_lt b)))

pub or_others : (a b : ℕ) → bit_or a b / 2 ≡ bit_or (a / 2) (b / 2)
or_others a b = rw (or_step a b) (others_of _ _ (max_digit (a % 2) (b % 2) (digit_lt a) (digit_lt b)))

and_lowest : (a b : ℕ) → bit_and a b % 2 ≡ min (a % 2) (b % 2)
and_lowest a b = rw (and_step a b) (lowest_of _ _ (min_digit (a % 2) (b % 2) (digit_lt a)))

and_others : (a b : ℕ) → bit_and a b / 2 ≡ bit_and (a / 2) (b / 2)
and_others a b = rw (and_step a b) (others_of _ _ (min_digit (a % 2) (b % 2) (digit_lt a)))

-- the complement among suc k digits
pub not_lowest : (k x : ℕ) → x < 2 ^ suc k → (2 ^ suc k - 1 - x) % 2 ≡ 1 - x % 2
not_lowest k x h = omega (arith, pow-suc 2 k)

pub not_others : (k x : ℕ) → x < 2 ^ suc k → (2 ^ suc k - 1 - x) / 2 ≡ 2 ^ k - 1 - x / 2
not_others k x h = omega (arith, pow-suc 2 k)

pow_even : (n : ℕ) → 2 ^ suc n % 2 ≡ 0
pow_even n = rw pow-suc (omega arith)

pow_half : (n : ℕ) → 2 ^ suc n / 2 ≡ 2 ^ n
pow_half n = rw pow-suc (omega arith)

pub half_lt : (k w : ℕ) → w < 2 ^ suc k → w / 2 < 2 ^ k
half_lt k w h = omega (arith, pow-suc 2 k)

pub max_one : (a : ℕ) → a < 2 → max a 1 ≡ 1
max_one zero h = refl
max_one (suc a) h = let z : a ≡ 0 = omega arith in rw z

min_one : (a : ℕ) → a < 2 → min a 1 ≡ a
min_one zero h = refl
min_one (suc a) h = let z : a ≡ 0 = omega arith in rw z

-- ---- digits

pub length_digits : (k w : ℕ) → length (digits k w) ≡ k
unfolding digits
length_digits zero w = refl
length_digits (suc k) w = ap suc (length_digits k (w / 2))

pub digit_small : (k w n : ℕ) → get_or (digits k w) n 0 < 2
unfolding digits
digit_small zero w zero = omega arith
digit_small zero w (suc n) = omega arith
digit_small (suc k) w zero = digit_lt w
digit_small (suc k) w (suc n) = digit_small k (w / 2) n

pub digit_past : (k w n : ℕ) → k < suc n → get_or (digits k w) n 0 ≡ 0
digit_past k w n h = get_or-eq_default (digits k w) 0 (rw (length_digits k w) (omega arith))

-- one looked at
pub digit_at : (k w n : ℕ) → n < k → w / 2 ^ n % 2 ≡ get_or (digits k w) n 0
unfolding digits
digit_at zero w n h = absurd (omega arith)
digit_at (suc k) w zero h = ap (λ x. x % 2) (div-one w)
digit_at (suc k) w (suc n) h =
    let next : 1 + n ≡ suc n = omega arith in
    ap (λ x. x % 2) (sym (shr-shr w 1 n ∙ ap (λ x. w / 2 ^ x) next)) ∙ digit_at k (w / 2) n (omega arith)

-- a number's bit, as it is shifted there
pub bit_is : (n : ℕ) → n < 16 → (1 * 2 ^ n) % 65536 ≡ 2 ^ n
bit_is n h = shl_exact 1 n 16 (omega arith) (omega arith) ∙ one-mul (2 ^ n)

-- one set
pub digits_set : (k w n : ℕ) → n < k → digits k (bit_or w (2 ^ n)) ≡ set (digits k w) n 1
unfolding digits
digits_set zero w n h = absurd (omega arith)
digits_set (suc k) w zero h = simp (or_lowest, or_others, max_one (w % 2) (digit_lt w), or_zero_r)
digits_set (suc k) w (suc n) h = simp (or_lowest, or_others, pow_even, pow_half, max-zero, digits_set k (w / 2) n (omega arith))

-- one cleared
pub digits_clear : (k w n : ℕ) → n < k → w < 2 ^ k → digits k (bit_and w (2 ^ k - 1 - 2 ^ n)) ≡ set (digits k w) n 0
unfolding digits
digits_clear zero w n h f = absurd (omega arith)
digits_clear (suc k) w zero h f =
    let p : 1 < 2 ^ suc k = pow-lt {i = 0} {j = suc k} h in
    let all : 2 ^ k - 1 - 0 ≡ 2 ^ k - 1 = omega arith in
    simp (and_lowest, and_others, not_lowest k 1 p, not_others k 1 p, min-zero)
    (ap (λ x. 0 ∷ digits k x) (ap (bit_and (w / 2)) all ∙ and_mask (w / 2) k ∙ mod-eq_of_lt (half_lt k w f)))
digits_clear (suc k) w (suc n) h f =
    let p : 2 ^ suc n < 2 ^ suc k = pow-lt h in
    simp (
      and_lowest,
      and_others,
      not_lowest k (2 ^ suc n) p,
      not_others k (2 ^ suc n) p,
      pow_even,
      pow_half,
      min_one (w % 2) (digit_lt w),
      digits_clear k (w / 2) n (omega arith) (half_lt k w f),
    )

-- one left as it is
pub digits_kept : (k w n : ℕ) {x : ℕ} → get_or (digits k w) n 0 ≡ x → digits k w ≡ set (digits k w) n x
digits_kept k w n e = sym (ap (set (digits k w) n) (sym e) ∙ own (digits k w) n)
  where
    own : (xs : List ℕ) (n : ℕ) → set xs n (get_or xs n 0) ≡ xs
    own [] zero = refl
    own [] (suc n) = refl
    own (x ∷ xs) zero = refl
    own (x ∷ xs) (suc n) = ap (λ l. x ∷ l) (own xs n)

-- they tell the number
pub digits_same : (k a b : ℕ) → a < 2 ^ k → b < 2 ^ k → digits k a ≡ digits k b → a ≡ b
unfolding digits
digits_same zero a b p q e = omega arith
digits_same (suc k) a b p q e =
    let h : a % 2 ≡ b % 2 = cc in
    let t : digits k (a / 2) ≡ digits k (b / 2) = cc in
    let i = digits_same k (a / 2) (b / 2) (half_lt k a p) (half_lt k b q) t in
    omega arith
