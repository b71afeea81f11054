-- Laws of lists that the code's places and parts ask for.
use mathlib.Core.Path.{◌≡◌, ap}
use mathlib.Core.List.{List, [], ◌∷◌, ◌++◌}
use Prim.Native.Nat.{ℕ, zero, suc, ◌+◌, ◌-◌, ◌<◌, ◌≤◌}
use native.Mathlib.Omega.{arith}
use Rattle.std.proofs.lemmas.Grind.{common_steps}
use native.Mathlib.Numerals.{add-one}
use lib.ListN.{length, get_or, take, drop, length-drop}
use lib.Seq.{drop-cons, take_all}
use Rattle.octets.specs.Octets.{Octets}

pub empty : (xs : List ℕ) → length xs ≡ 0 → xs ≡ []
empty xs e = grind (arith, common_steps)

-- one element of what is left of a list, with the code's i + 1
pub drop_next : (xs : List ℕ) (i : ℕ) → i < length xs → drop i xs ≡ get_or xs i 0 ∷ drop (i + 1) xs
drop_next xs i h = rw (add-one, drop-cons xs i 0)

-- what is left of a list, as the code's &xs[i..] cuts it
pub take_rest : (xs : List ℕ) (i : ℕ) → take (length xs - i) (drop i xs) ≡ drop i xs
take_rest xs i = grind (arith, common_steps, take_all)

-- a part of a list, as the code's &xs[at..at + width] cuts it
pub part_length : (xs : List ℕ) (at width : ℕ) → at + width ≤ length xs → length (take (at + width - at) (drop at xs)) ≡ width
part_length xs at width h = grind (arith, common_steps)

-- what is left of a list, by its first element
pub front : (xs : List ℕ) (at x : ℕ) (ys : List ℕ) → drop at xs ≡ x ∷ ys → (get_or xs at 0 ≡ x) × (at < length xs) × (drop (at + 1) xs ≡ ys)
front xs at x ys e =
    let h : at < length xs = omega (arith, length-drop at xs, ap length e) in
    let d = drop_next xs at h in
    (cc, h, cc)

pub octets_drop : (n : ℕ) (xs : List ℕ) → Octets xs → Octets (drop n xs)
octets_drop n xs o k = grind (arith, common_steps)

pub octets_take : (n : ℕ) (xs : List ℕ) → Octets xs → Octets (take n xs)
octets_take n xs o k = grind (arith, common_steps)

pub octets_more : (x : ℕ) (xs : List ℕ) → x < 256 → Octets xs → Octets (x ∷ xs)
octets_more x xs h o zero = h
octets_more x xs h o (suc k) = o k

pub octets_append : (xs ys : List ℕ) → Octets xs → Octets ys → Octets (xs ++ ys)
octets_append xs ys p q k = grind (arith, common_steps)
