-- Laws of little-endian numbers, over the width.
use mathlib.Core.Path.{◌≡◌, refl, ap, subst, ◌∙◌}
use mathlib.Core.List.{List, [], ◌∷◌, ◌++◌}
use Prim.Native.Nat.{ℕ, zero, suc, ◌+◌, ◌-◌, ◌/◌, ◌%◌, ◌^◌, ◌<◌, ◌≤◌}
use native.Mathlib.Omega.{arith}
use native.Mathlib.Nat.{pow-succ', pow-le-pow_right}
use native.Mathlib.Numerals.{add-one}
use lib.ListN.{length, take, drop, set, length-append}
use Rattle.std.proofs.lemmas.List.{length-take, length_push, get_or-append-add}
use lib.Seq.{sets, drop-drop}
use Rattle.octets.specs.Octets.{Octets}
use Rattle.octets.specs.LittleEndian.{le, le_at, le_octets}
use Rattle.octets.proofs.LawsWriting.{sets_whole}
use Rattle.octets.proofs.LawsLists.{octets_drop, octets_take}

pub length_le : (width n : ℕ) → length (le_octets width n) ≡ width
unfolding le_octets
length_le zero n = refl
length_le (suc width) n = ap suc (length_le width (n / 256))

-- so many octets stand for a number below that power of 256
pub le_bound : (xs : List ℕ) → Octets xs → le xs < 256 ^ length xs
unfolding le
le_bound [] o = omega arith
le_bound (x ∷ xs) o =
    let low : x < 256 = o zero in
    let rest : le xs < 256 ^ length xs = le_bound xs (λ k. o (suc k)) in
    rw (pow-succ' 256 (length xs)) (omega arith)

-- ---- reading the octets of a part from the last to the first

octets_behind : (xs ys : List ℕ) → Octets (xs ++ ys) → Octets ys
octets_behind xs ys o k = rw (get_or-append-add xs ys k 0) at (o (length xs + k))

-- where an octet of at most four is left, at most three were read, so that one more does not wrap
pub le_small : (s : List ℕ) (at width : ℕ) (xs read : List ℕ) (x : ℕ) → Octets s → width ≤ 4 → take width (drop at s) ≡ (xs ++ x ∷ []) ++ read
    → le read < 256 ^ 3
le_small s at width xs read x o most e =
    let part : Octets ((xs ++ x ∷ []) ++ read) = subst Octets e (octets_take width (drop at s) (octets_drop at s o)) in
    let low : le read < 256 ^ length read = le_bound read (octets_behind (xs ++ x ∷ []) read part) in
    let few : length read ≤ 3 = omega (arith, ap length e, length-take width (drop at s), length-append (xs ++ x ∷ []) read, length_push xs x) in
    let more : 256 ^ length read ≤ 256 ^ 3 = pow-le-pow_right (omega arith) few in
    omega arith

-- ---- writing from the first octet to the last

-- what is left to write, with its first octet written
pub le_put : (l : List ℕ) (i width n : ℕ) → i < width
    → sets (set l i (n % 256)) (i + 1) (le_octets (width - (i + 1)) (n / 256)) ≡ sets l i (le_octets (width - i) n)
unfolding le_octets
le_put l i width n h =
    let one : width - i ≡ suc (width - (i + 1)) = omega arith in
    rw (one, add-one)

-- a part that was written whole is what was written
pub le_whole : (l part : List ℕ) (i width n m : ℕ) → width ≤ i → length part ≡ width
    → sets l i (le_octets (width - i) m) ≡ sets part 0 (le_octets width n) → l ≡ le_octets width n
unfolding le_octets
le_whole l part i width n m done size e =
    let none : width - i ≡ 0 = omega arith in
    let written : l ≡ sets part 0 (le_octets width n) = rw none at e in
    written ∙ sets_whole (le_octets width n) part (omega (arith, length_le width n))

-- ---- what stands from a place on

-- a number's place, counted from there
pub le_drop : (xs : List ℕ) (at i width : ℕ) → le_at (drop at xs) i width ≡ le_at xs (at + i) width
unfolding le_at
le_drop xs at i width = rw (drop-drop i at xs)
