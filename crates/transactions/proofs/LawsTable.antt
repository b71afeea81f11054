-- Tables and the numbers that they show.
use mathlib.Core.Path.{◌≡◌, refl, sym, ap, ap₂, ◌∙◌}
use mathlib.Core.Bool.{Bool, true, false, not, ◌&&◌}
use mathlib.Core.List.{List, [], ◌∷◌}
use Prim.Native.Nat.{ℕ, zero, suc, ◌%◌, ◌^◌, ◌<◌, ◌≤◌}
use native.Mathlib.Omega.{arith}
use borrow.Author.Tests.{eqb-false, not-true, ltb-true, ltb-false}
use lib.Dec.{eqb, ltb}
use lib.ListN.{get_or, set, drop}
use lib.Bits.{bit_and, bit_or}
use Rattle.std.specs.Prelude.{Some, None}
use Rattle.octets.proofs.LawsTests.{by_test, and_l, and_r, impossible}
use Rattle.transactions.specs.declared.table.Table.{Table}
use Rattle.transactions.specs.NumberSet.{digits}
use Rattle.transactions.specs.Table.{Mark, free, waiting, given_up, both, mark, marks_of, Numbers, numbers_of, mark_at, put, is_free, is_waiting, is_both, any_both, Rules, rules, first_free, lowest, free_number}
use Rattle.transactions.proofs.LawsDigits.{length_digits, digit_small, digit_past, digits_kept}
use Rattle.transactions.proofs.LawsMarks.{marks_at, marks_set, is_free_lowest, any_both_and}

-- ---- the rules

not_not : (b : Bool) → not (not b) ≡ b
not_not true = refl
not_not false = refl

pub rules_are : (t : Table) → t.waiting < 2 ^ 16 → t.given_up < 2 ^ 16
    → rules (numbers_of t) ≡ eqb (bit_or t.waiting t.given_up % 2) 0 && eqb (bit_and t.waiting t.given_up) 0
unfolding rules numbers_of digits marks_of
rules_are t p q =
    ap₂ (λ x y. x && not y) (is_free_lowest t.waiting t.given_up) (any_both_and 16 t.waiting t.given_up p q)
    ∙ ap (λ x. eqb (bit_or t.waiting t.given_up % 2) 0 && x) (not_not _)

-- where they are kept, 0 is free and no number is both
pub zero_free : (d : Numbers) → rules d ≡ true → mark_at d 0 ≡ free
unfolding rules
zero_free d e = only_free (mark_at d 0) (and_l (is_free (mark_at d 0)) _ e)
  where
    only_free : (m : Mark) → is_free m ≡ true → m ≡ free
    only_free free f = refl
    only_free waiting f = impossible cc
    only_free given_up f = impossible cc
    only_free both f = impossible cc

no_both : (ms : List Mark) (n : ℕ) → any_both ms ≡ false → is_both (get_or ms n free) ≡ false
unfolding any_both
no_both [] zero e = refl
no_both [] (suc n) e = refl
no_both (m ∷ ms) zero e = by_test (is_both m) (λ t. cc) (λ f. f)
no_both (m ∷ ms) (suc n) e = no_both ms n (by_test (is_both m) (λ t. cc) (λ f. cc))

pub never_both : (d : Numbers) (n : ℕ) → rules d ≡ true → is_both (mark_at d n) ≡ false
unfolding rules
never_both d n e = no_both d.marks n (not-true (any_both d.marks) (and_r (is_free (mark_at d 0)) _ e))

pub rules_told : (d : Numbers) → rules d ≡ true → Rules d
rules_told d e = record { zero = zero_free d e; apart = λ n b. let no = never_both d n e in let yes = ap is_both b in impossible cc }

-- ---- a number's mark by its two digits

module _ (t : Table) (n : ℕ) where
  -- whether it waits, and whether it was given up
  abbrev pub waits : ℕ
  waits = get_or (digits 16 t.waiting) n 0

  abbrev pub gave : ℕ
  gave = get_or (digits 16 t.given_up) n 0

  mark_is : mark_at (numbers_of t) n ≡ mark waits gave
  unfolding numbers_of
  mark_is = marks_at (digits 16 t.waiting) (digits 16 t.given_up) n (length_digits 16 t.waiting ∙ sym (length_digits 16 t.given_up))

  pub mark_at_lem : {x y : ℕ} → waits ≡ x → gave ≡ y → mark_at (numbers_of t) n ≡ mark x y
  mark_at_lem p q = mark_is ∙ ap₂ mark p q

  -- a digit that is not 1
  pub no_waits : eqb waits 1 ≡ false → waits ≡ 0
  no_waits e = let h = eqb-false waits 1 e in omega (arith, digit_small 16 t.waiting n)

  pub no_gave : eqb gave 1 ≡ false → gave ≡ 0
  no_gave e = let h = eqb-false gave 1 e in omega (arith, digit_small 16 t.given_up n)

  -- where the rules are kept, one of the two is 0
  one_mark : rules (numbers_of t) ≡ true → is_both (mark waits gave) ≡ false
  one_mark k = ap is_both (sym mark_is) ∙ never_both (numbers_of t) n k

  pub waits_alone : rules (numbers_of t) ≡ true → waits ≡ 1 → gave ≡ 0
  waits_alone k e = alone gave (rw e at (one_mark k))
    where
      alone : (y : ℕ) → is_both (mark 1 y) ≡ false → y ≡ 0
      alone zero f = refl
      alone (suc y) f = impossible cc

  pub gave_alone : rules (numbers_of t) ≡ true → gave ≡ 1 → waits ≡ 0
  gave_alone k e = alone waits (rw e at (one_mark k))
    where
      alone : (x : ℕ) → is_both (mark x 1) ≡ false → x ≡ 0
      alone zero f = refl
      alone (suc x) f = impossible cc

  -- one past 15 has none
  pub mark_past : 15 < n → mark_at (numbers_of t) n ≡ free
  mark_past h = mark_at_lem (digit_past 16 t.waiting n (omega arith)) (digit_past 16 t.given_up n (omega arith))

-- what does not wait is not waiting
pub not_waiting : (t : Table) (n : ℕ) → waits t n ≡ 0 → is_waiting (mark_at (numbers_of t) n) ≡ false
not_waiting t n e = ap is_waiting (mark_at_lem t n e refl) ∙ never (gave t n)
  where
    never : (y : ℕ) → is_waiting (mark 0 y) ≡ false
    never zero = refl
    never (suc y) = refl

-- ---- a number's two digits changed

abbrev pub table : ℕ → ℕ → Bool → Table
table w g r = record { waiting = w; given_up = g; resetting = r }

pub numbers_put : (t : Table) (n x y w g : ℕ) → digits 16 w ≡ set (digits 16 t.waiting) n x → digits 16 g ≡ set (digits 16 t.given_up) n y
    → numbers_of (table w g t.resetting) ≡ put (numbers_of t) n (mark x y)
unfolding numbers_of
numbers_put t n x y w g p q =
    ap (λ ms. record { marks = ms; resetting = t.resetting }) (ap₂ marks_of p q ∙ marks_set (digits 16 t.waiting) (digits 16 t.given_up) n x y)

-- one set as it was
pub waits_kept : (t : Table) (n : ℕ) {x : ℕ} → waits t n ≡ x → digits 16 t.waiting ≡ set (digits 16 t.waiting) n x
waits_kept t n e = digits_kept 16 t.waiting n e

pub gave_kept : (t : Table) (n : ℕ) {y : ℕ} → gave t n ≡ y → digits 16 t.given_up ≡ set (digits 16 t.given_up) n y
gave_kept t n e = digits_kept 16 t.given_up n e

pub resetting_is : (t : Table) {b : Bool} → t.resetting ≡ b → (numbers_of t).resetting ≡ b
unfolding numbers_of
resetting_is t e = e

-- ---- the lowest free number

first_free_lem : (ms : List Mark) → get_or ms (first_free ms) free ≡ free
unfolding first_free
first_free_lem [] = refl
first_free_lem (free ∷ ms) = refl
first_free_lem (waiting ∷ ms) = first_free_lem ms
first_free_lem (given_up ∷ ms) = first_free_lem ms
first_free_lem (both ∷ ms) = first_free_lem ms

pub lowest_free : (d : Numbers) → mark_at d (lowest d) ≡ free
unfolding lowest
lowest_free d = by d.marks
  where
    by : (ms : List Mark) → get_or ms (suc (first_free (drop 1 ms))) free ≡ free
    by [] = refl
    by (m ∷ ms) = first_free_lem ms

-- a free number is in neither set
pub free_gave : (t : Table) (n : ℕ) → mark_at (numbers_of t) n ≡ free → gave t n ≡ 0
free_gave t n e = none (waits t n) (gave t n) (sym (mark_at_lem t n refl refl) ∙ e)
  where
    none : (x y : ℕ) → mark x y ≡ free → y ≡ 0
    none zero zero f = refl
    none zero (suc y) f = impossible cc
    none (suc x) zero f = refl
    none (suc x) (suc y) f = impossible cc

-- what the code's search tells of it
pub one_free : (d : Numbers) (n : ℕ) → Some n ≡ free_number d → (n ≡ lowest d) × (n ≤ 15)
one_free d n =
    by_test (ltb 15 (lowest d)) (λ t. simp t (λ e. absurd cc))
    (λ t. simp t (λ e. let same : n ≡ lowest d = cc in (same, rw same (ltb-false 15 (lowest d) t))))

pub none_free : (d : Numbers) → None ≡ free_number d → 15 < lowest d
none_free d = by_test (ltb 15 (lowest d)) (λ t e. ltb-true 15 (lowest d) t) (λ t. simp t (λ e. absurd cc))
