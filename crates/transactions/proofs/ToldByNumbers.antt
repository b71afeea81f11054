-- PROMISE: a table is told by what it shows. The mark of a number is by its bit, of weight 2^n, in the two sets; and two tables of 16-bit
-- sets that show the same are the same. So an equation between what two tables show is one between the tables, and a refusal hands the very
-- table back.
use mathlib.Core.Path.{◌≡◌, refl, sym, ap, ap₂, ◌∙◌}
use mathlib.Core.List.{map, ◌∷◌}
use Prim.Native.Nat.{ℕ, zero, suc, ◌/◌, ◌%◌, ◌^◌, ◌<◌}
use native.Mathlib.Omega.{arith}
use Rattle.transactions.specs.declared.table.Step.{Step}
use Rattle.transactions.specs.declared.table.Table.{Table}
use Rattle.transactions.specs.NumberSet.{digits}
use Rattle.transactions.specs.Table.{Mark, free, waiting, given_up, both, mark, marks_of, Numbers, numbers_of, mark_at, result_of, refused}
use Rattle.transactions.proofs.LawsDigits.{digit_at, digits_same}
use Rattle.transactions.proofs.LawsTable.{mark_at_lem, mark_past}

pub mark_by_bits : (t : Table) (n : ℕ) → n < 16 → mark_at (numbers_of t) n ≡ mark (t.waiting / 2 ^ n % 2) (t.given_up / 2 ^ n % 2)
mark_by_bits t n h = mark_at_lem t n (sym (digit_at 16 t.waiting n h)) (sym (digit_at 16 t.given_up n h))

module _ (t : Table) (n : ℕ) (h : n < 16) where
  pub bits_free : t.waiting / 2 ^ n % 2 ≡ 0 → t.given_up / 2 ^ n % 2 ≡ 0 → mark_at (numbers_of t) n ≡ free
  bits_free p q = mark_by_bits t n h ∙ ap₂ mark p q

  pub bits_waiting : t.waiting / 2 ^ n % 2 ≡ 1 → t.given_up / 2 ^ n % 2 ≡ 0 → mark_at (numbers_of t) n ≡ waiting
  bits_waiting p q = mark_by_bits t n h ∙ ap₂ mark p q

  pub bits_given_up : t.waiting / 2 ^ n % 2 ≡ 0 → t.given_up / 2 ^ n % 2 ≡ 1 → mark_at (numbers_of t) n ≡ given_up
  bits_given_up p q = mark_by_bits t n h ∙ ap₂ mark p q

  pub bits_both : t.waiting / 2 ^ n % 2 ≡ 1 → t.given_up / 2 ^ n % 2 ≡ 1 → mark_at (numbers_of t) n ≡ both
  bits_both p q = mark_by_bits t n h ∙ ap₂ mark p q

-- a number past 15 has no mark
pub past_15 : (t : Table) (n : ℕ) → 15 < n → mark_at (numbers_of t) n ≡ free
past_15 t n h = mark_past t n h

-- ---- the sets, back from the marks

abbrev waiting_in : Mark → ℕ
waiting_in free = 0
waiting_in waiting = 1
waiting_in given_up = 0
waiting_in both = 1

abbrev given_up_in : Mark → ℕ
given_up_in free = 0
given_up_in waiting = 0
given_up_in given_up = 1
given_up_in both = 1

waiting_back : (a b : ℕ) → a < 2 → waiting_in (mark a b) ≡ a
waiting_back zero zero p = refl
waiting_back zero (suc b) p = refl
waiting_back (suc a) zero p = omega arith
waiting_back (suc a) (suc b) p = omega arith

given_up_back : (a b : ℕ) → b < 2 → given_up_in (mark a b) ≡ b
given_up_back zero zero p = refl
given_up_back zero (suc b) p = omega arith
given_up_back (suc a) zero p = refl
given_up_back (suc a) (suc b) p = omega arith

all_waiting : (k a b : ℕ) → map waiting_in (marks_of (digits k a) (digits k b)) ≡ digits k a
unfolding digits marks_of
all_waiting zero a b = refl
all_waiting (suc k) a b = ap₂ ◌∷◌ (waiting_back (a % 2) (b % 2) (omega arith)) (all_waiting k (a / 2) (b / 2))

all_given_up : (k a b : ℕ) → map given_up_in (marks_of (digits k a) (digits k b)) ≡ digits k b
unfolding digits marks_of
all_given_up zero a b = refl
all_given_up (suc k) a b = ap₂ ◌∷◌ (given_up_back (a % 2) (b % 2) (omega arith)) (all_given_up k (a / 2) (b / 2))

-- a table of the code: its sets have sixteen bits
pub record Fits (t : Table) : Type 0 where
  pub waiting : t.waiting < 2 ^ 16
  pub given_up : t.given_up < 2 ^ 16

pub told_by_numbers : (s t : Table) → Fits s → Fits t → numbers_of s ≡ numbers_of t → s ≡ t
unfolding numbers_of
told_by_numbers s t p q e =
    let m = ap (λ (d : Numbers). d.marks) e in
    let w : s.waiting ≡ t.waiting =
    digits_same 16 s.waiting t.waiting p.waiting q.waiting
    (sym (all_waiting 16 s.waiting s.given_up) ∙ ap (map waiting_in) m ∙ all_waiting 16 t.waiting t.given_up) in
    let g : s.given_up ≡ t.given_up =
    digits_same 16 s.given_up t.given_up p.given_up q.given_up
    (sym (all_given_up 16 s.waiting s.given_up) ∙ ap (map given_up_in) m ∙ all_given_up 16 t.waiting t.given_up) in
    let r : s.resetting ≡ t.resetting = ap (λ (d : Numbers). d.resetting) e in
    λ i. record { waiting = w i; given_up = g i; resetting = r i }

-- so a refusal hands the very table back
pub refused_same : (r : Step) (t : Table) (n : ℕ) → Fits r.table → Fits t → result_of r ≡ refused n (numbers_of t) → r.table ≡ t
refused_same r t n p q e = told_by_numbers r.table t p q (ap (λ z. z.numbers) e)
