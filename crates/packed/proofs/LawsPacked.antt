-- Laws of packed integers, over the number of octets.
use mathlib.Core.Path.{◌≡◌, refl, ap}
use mathlib.Core.Bool.{false}
use mathlib.Core.List.{List, [], ◌∷◌}
use Prim.Native.Nat.{ℕ, zero, suc, ◌+◌, ◌*◌, ◌-◌, ◌/◌, ◌%◌, ◌^◌, ◌<◌, ◌≤◌}
use native.Mathlib.Omega.{arith}
use Rattle.std.proofs.Common.{add-one}
use native.Mathlib.Nat.{mul-add, mul_assoc, pow-succ', one-le-pow, mul-le-mul_left}
use borrow.Author.Tests.{lt-ltb, le-ltb, ltb-true, ltb-false, eqb-false, ne_eqb}
use lib.Dec.{eqb, ltb}
use lib.ListN.{length, get_or, take, drop, drop_of_length-le}
use Rattle.octets.proofs.LawsLists.{drop_next}
use Rattle.octets.proofs.LawsTests.{by_test}
use Rattle.packed.specs.Packed.{packed, packed_in, joined, number_in, max_packed, read}
use Rattle.packed.specs.declared.Fault.TheVariants.{RanOut}
use Rattle.packed.specs.declared.Packed.{Packed}
use Rattle.packed.specs.declared.Fault.{Fault}
use Rattle.std.specs.Prelude.{Result, Ok, Err}

-- ---- writing

pub packed_last : (k n : ℕ) → n < 128 → packed_in k n ≡ n ∷ []
unfolding packed_in
packed_last zero n h = refl
packed_last (suc k) n h = rw (lt-ltb n 128 h)

pub packed_more : (k n : ℕ) → 128 ≤ n → packed_in (suc k) n ≡ (n % 128 + 128) ∷ packed_in k (n / 128)
unfolding packed_in
packed_more k n h = rw (le-ltb n 128 h)

pub size_in : (k n : ℕ) → (1 ≤ length (packed_in k n)) × (length (packed_in k n) ≤ suc k)
unfolding packed_in
size_in zero n = omega arith
size_in (suc k) n =
    by_test (ltb n 128) (λ e. simp e (omega arith)) (λ e. let rest = size_in k (n / 128) in simp e (omega arith))

-- room for one octet more changes nothing where the number fits
pub packed_room : (k n : ℕ) → n < 128 ^ suc k → packed_in k n ≡ packed_in (suc k) n
packed_room zero n h = rw (packed_last 0 n h, packed_last 1 n h)
packed_room (suc k) n h =
    by_test (ltb n 128)
    (λ e. let last : n < 128 = ltb-true n 128 e in rw (packed_last (suc k) n last, packed_last (suc (suc k)) n last))
    (λ e. let more : 128 ≤ n = ltb-false n 128 e in
    let less : n < 128 * 128 ^ suc k = rw (pow-succ' 128 (suc k)) at h in
    rw (packed_more k n more, packed_more (suc k) n more, packed_room k (n / 128) (omega arith)))

pub packed_one : (n : ℕ) → n < 128 → packed n ≡ n ∷ []
unfolding packed
packed_one n h = packed_last 2 n h

pub packed_next : (n : ℕ) → n ≤ max_packed → 128 ≤ n → packed n ≡ (n % 128 + 128) ∷ packed (n / 128)
unfolding packed
packed_next n most h = rw (packed_more 1 n h, packed_room 1 (n / 128) (omega arith))

-- ---- reading

-- two joinings are one, which is how a loop reads on
pub joined_joined : (n scale low : ℕ) (r : Result Packed Fault) → joined n scale (joined low 128 r) ≡ joined (n + scale * low) (scale * 128) r
unfolding joined
joined_joined n scale low (Err f) = refl
joined_joined n scale low (Ok p) =
    by_test (eqb p.number 0)
    (λ e. rw e)
    (λ e. let pos : eqb (low + 128 * p.number) 0 ≡ false = ne_eqb (low + 128 * p.number) 0 (λ z. eqb-false p.number 0 e (omega arith)) in
    rw (e, pos) (ap (λ k. read k p.next) (omega (arith, mul-add scale low (128 * p.number), mul_assoc scale 128 p.number))))

-- two readings that are one have one number and one place
pub same_read : (n next m to : ℕ) → read n next ≡ read m to → (n ≡ m) × (next ≡ to)
same_read n next m to e =
    let one : Packed = record { number = n; next = next } in
    let other : Packed = record { number = m; next = to } in
    let same : one ≡ other = cc in
    (ap (λ p. p.number) same, ap (λ p. p.next) same)

-- no more than so many octets are read
pub number_take : (k at : ℕ) (xs : List ℕ) → number_in k at (take k xs) ≡ number_in k at xs
unfolding number_in
number_take zero at xs = refl
number_take (suc k) at [] = refl
number_take (suc k) at (x ∷ xs) = rw (number_take k (at + 1) xs)

module _ (s : List ℕ) (at : ℕ) where
  pub number_none : (k : ℕ) → 0 < k → length s ≤ at → number_in k at (drop at s) ≡ Err RanOut
  unfolding number_in
  number_none zero pos h = elim pos [ ]
  number_none (suc k) pos h = rw drop_of_length-le

  pub number_last : (k : ℕ) → 0 < k → at < length s → get_or s at 0 < 128 → number_in k at (drop at s) ≡ read (get_or s at 0) (at + 1)
  unfolding number_in
  number_last zero pos h l = elim pos [ ]
  number_last (suc k) pos h l = rw (drop_next s at h, lt-ltb (get_or s at 0) 128 l)

  pub number_more : (k : ℕ) → 0 < k → at < length s → 128 ≤ get_or s at 0
      → number_in k at (drop at s) ≡ joined (get_or s at 0 - 128) 128 (number_in (k - 1) (at + 1) (drop (at + 1) s))
  unfolding number_in
  number_more zero pos h l = elim pos [ ]
  number_more (suc k) pos h l = let one : suc k - 1 ≡ k = omega arith in rw (one, drop_next s at h, le-ltb (get_or s at 0) 128 l)

-- ---- what is left to read

-- the answer, where so many octets are joined to a number, and `rest` is what the octets after them stand for
abbrev pub read_on : ℕ → ℕ → Result Packed Fault → Result Packed Fault
read_on zero number rest = rest
read_on (suc octets) number rest = joined number (128 ^ suc octets) rest

pub read_none : (k number : ℕ) (f : Fault) → read_on k number (Err f) ≡ Err f
unfolding joined
read_none zero number f = refl
read_none (suc k) number f = refl

pub read_last : (k number n next : ℕ) → (k ≡ 0 → number ≡ 0) → (n ≡ 0 → k ≡ 0) → read_on k number (read n next) ≡ read (number + 128 ^ k * n) next
unfolding joined
read_last zero number n next none some = rw (none refl) (ap (λ m. read m next) (omega arith))
read_last (suc k) number n next none some = rw (ne_eqb n 0 (λ z. omega (arith, some z))) refl

pub read_more : (k number low : ℕ) (rest : Result Packed Fault) → (k ≡ 0 → number ≡ 0)
    → read_on k number (joined low 128 rest) ≡ read_on (k + 1) (number + 128 ^ k * low) rest
read_more zero number low rest none = rw (none refl) (ap (λ n. joined n 128 rest) (omega arith))
read_more (suc k) number low rest none =
    let up : 128 ^ suc k * 128 ≡ 128 ^ suc (suc k) = omega (arith, pow-succ' 128 (suc k)) in
    rw (add-one (suc k)) (rw up at (joined_joined number (128 ^ suc k) low rest))

-- the scale of the octet at an index, of three
pub scale_at : (k : ℕ) → k < 3 → get_or (1 ∷ 128 ∷ 16384 ∷ []) k 0 ≡ 128 ^ k
scale_at zero h = refl
scale_at (suc zero) h = refl
scale_at (suc (suc zero)) h = refl
scale_at (suc (suc (suc k))) h = absurd (omega arith)

pub scale_more : (k : ℕ) → 1 < 128 ^ k → 0 < k
scale_more zero h = absurd (omega arith)
scale_more (suc k) h = omega arith

pub scale_one : (k : ℕ) → 128 ^ k ≤ 1 → k ≡ 0
scale_one zero h = refl
scale_one (suc k) h = absurd (omega (arith, pow-succ' 128 k, one-le-pow k 128 (omega arith)))

-- seven bits more fit below the next scale
pub low_more : (k n x : ℕ) → n < 128 ^ k → x < 128 → n + 128 ^ k * x < 128 ^ (k + 1)
low_more k n x low seven = rw (add-one k) (omega (arith, pow-succ' 128 k, mul-le-mul_left (128 ^ k) (let few : x ≤ 127 = omega arith in few)))
