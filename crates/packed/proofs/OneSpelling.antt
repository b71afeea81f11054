-- PROMISE: each number has one spelling. Whatever is read is what is written for the number read, goes on and stays within the list; an
-- octet below 128 is a number by itself; the answer depends on the at most three octets from the place; and at a place at or past the end the octets ran out.
use mathlib.Core.Path.{◌≡◌, sym, ap, ◌∙◌}
use mathlib.Core.List.{List, [], ◌∷◌, ◌++◌}
use Prim.Native.Nat.{ℕ, zero, suc, ◌+◌, ◌*◌, ◌-◌, ◌/◌, ◌%◌, ◌^◌, ◌<◌, ◌≤◌}
use native.Mathlib.Omega.{arith}
use native.Mathlib.Nat.{add-zero, pow-succ', one-le-pow}
use borrow.Author.Tests.{ltb-true, ltb-false, lt-ltb, eqb-false}
use lib.Dec.{eqb, ltb}
use lib.ListN.{length, get_or, take, drop, length-drop}
use lib.Seq.{take-append_seam, get_or-drop}
use Rattle.octets.specs.Octets.{Octets}
use Rattle.octets.proofs.LawsLists.{drop_next, octets_drop}
use Rattle.octets.proofs.LawsTests.{by_test, impossible}
use Rattle.packed.specs.Packed.{packed, packed_in, joined, number_in, packed_at, max_packed, read}
use Rattle.packed.specs.declared.Fault.TheVariants.{RanOut}
use Rattle.packed.specs.declared.Packed.{Packed}
use Rattle.packed.specs.declared.Fault.{Fault}
use Rattle.std.specs.Prelude.{Result, Ok, Err}
use Rattle.packed.proofs.LawsPacked.{packed_last, packed_more, packed_room, number_none, number_take, same_read}

-- what a reading of n up to `next` tells of the octets from `at` on
pub record Spelled (xs : List ℕ) (at n next : ℕ) : Type 0 where
  pub most : n ≤ max_packed
  pub end : next ≡ at + length (packed n)
  pub inside : next ≤ length xs
  pub octets : take (length (packed n)) (drop at xs) ≡ packed n

-- a number that is joined is joined from one that is not 0
from_joined : {P : Type 0} (low scale n next : ℕ) (r : Result Packed Fault) → joined low scale r ≡ read n next
    → ((m : ℕ) → r ≡ read m next → (m ≡ 0 → ⊥) → low + scale * m ≡ n → P) → P
unfolding joined
from_joined low scale n next (Err f) e go = impossible cc
from_joined low scale n next (Ok p) e go =
    by_test (eqb p.number 0)
    (λ t. impossible (cc (rw t at e)))
    (λ t. let same = same_read _ _ _ _ (rw t at e) in go p.number (ap (λ to. read p.number to) same.1) (eqb-false p.number 0 t) same.0)

-- a reading goes on, and stays within its octets
placed : (k at n next : ℕ) (xs : List ℕ) → number_in k at xs ≡ read n next → (at < next) × (next ≤ at + length xs)
unfolding number_in
placed zero at n next xs e = impossible cc
placed (suc k) at n next [] e = impossible cc
placed (suc k) at n next (x ∷ xs) e =
    by_test (ltb x 128)
    (λ t. let same = same_read _ _ _ _ (rw t at e) in omega (arith, same.1))
    (λ t. from_joined (x - 128) 128 n next (number_in k (at + 1) xs) (rw t at e)
    (λ m r some sum. let rest = placed k (at + 1) m next xs r in omega arith))

pub place_after : (xs : List ℕ) (at n next : ℕ) → packed_at xs at ≡ read n next → (at < next) × (next ≤ length xs)
unfolding packed_at
place_after xs at n next e = let p = placed 3 at n next (drop at xs) e in omega (arith, length-drop at xs)

-- with room for one octet more than is read, so that the cases are two
spelled : (k at n next : ℕ) (xs : List ℕ) → Octets xs → number_in k at xs ≡ read n next
    → (n < 128 ^ k) × (next ≡ at + length (packed_in k n)) × (packed_in k n ++ drop (length (packed_in k n)) xs ≡ xs)
unfolding number_in
spelled zero at n next xs o e = impossible cc
spelled (suc k) at n next [] o e = impossible cc
spelled (suc k) at n next (x ∷ xs) o e =
    by_test (ltb x 128)
    (λ t. let both = same_read _ _ _ _ (rw t at e) in
    let same : n ≡ x = sym both.0 in
    let after : next ≡ at + 1 = sym both.1 in
    let last : n < 128 = omega (arith, ltb-true x 128 t) in
    let power : 1 ≤ 128 ^ k = one-le-pow k 128 (omega arith) in
    rw (packed_last (suc k) n last) (rw (pow-succ' 128 k) (omega arith), omega arith, ap (λ y. y ∷ xs) same))
    (λ t. from_joined (x - 128) 128 n next (number_in k (at + 1) xs) (rw t at e)
    (λ m r some sum. let rest = spelled k (at + 1) m next xs (λ j. o (suc j)) r in
    let high : 128 ≤ x = ltb-false x 128 t in
    let octet : x < 256 = o zero in
    let low : n % 128 + 128 ≡ x = omega arith in
    let more : n / 128 ≡ m = omega arith in
    rw (packed_more k n (omega arith), low, more) (rw (pow-succ' 128 k) (omega arith), omega arith, ap (λ ys. x ∷ ys) rest.2)))

pub one_spelling : (xs : List ℕ) (at n next : ℕ) → Octets xs → packed_at xs at ≡ read n next → Spelled xs at n next
unfolding packed_at packed
one_spelling xs at n next o e =
    let s = spelled 3 at n next (drop at xs) (octets_drop at xs o) e in
    let s' = rw (← (packed_room 2 n s.0)) at s in
    record {
      most = omega arith;
      end = s'.1;
      inside = (place_after xs at n next e).1;
      octets = rw (← s'.2) (take-append_seam (packed n) _);
    }

first_octet : (k at n next : ℕ) (xs : List ℕ) → number_in k at xs ≡ read n next → n < 128 → (get_or xs 0 0 ≡ n) × (next ≡ at + 1)
unfolding number_in
first_octet zero at n next xs e h = impossible cc
first_octet (suc k) at n next [] e h = impossible cc
first_octet (suc k) at n next (x ∷ xs) e h =
    by_test (ltb x 128)
    (λ t. let same = same_read _ _ _ _ (rw t at e) in (same.0, sym same.1))
    (λ t. from_joined (x - 128) 128 n next (number_in k (at + 1) xs) (rw t at e) (λ m r some sum. absurd (some (omega arith))))

-- a number below 128 is the one octet at the place
pub one_octet : (xs : List ℕ) (at n next : ℕ) → packed_at xs at ≡ read n next → n < 128 → (get_or xs at 0 ≡ n) × (next ≡ at + 1)
unfolding packed_at
one_octet xs at n next e h = rw (get_or-drop at xs 0 0, add-zero at) at (first_octet 3 at n next (drop at xs) e h)

-- and an octet below 128 is a number by itself
pub octet_alone : (xs : List ℕ) (at : ℕ) → at < length xs → get_or xs at 0 < 128 → packed_at xs at ≡ read (get_or xs at 0) (at + 1)
unfolding packed_at number_in
octet_alone xs at h l = rw (drop_next xs at h, lt-ltb (get_or xs at 0) 128 l)

pub same_octets : (xs ys : List ℕ) (at : ℕ) → take 3 (drop at xs) ≡ take 3 (drop at ys) → packed_at xs at ≡ packed_at ys at
unfolding packed_at
same_octets xs ys at e = sym (number_take 3 at (drop at xs)) ∙ ap (number_in 3 at) e ∙ number_take 3 at (drop at ys)

pub past_end : (xs : List ℕ) (at : ℕ) → length xs ≤ at → packed_at xs at ≡ Err RanOut
unfolding packed_at
past_end xs at h = number_none xs at 3 (omega arith) h
