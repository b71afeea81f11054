-- PROMISE: little-endian octets are read back as the number written, and written back as the octets read; once over the width.
use mathlib.Core.Path.{◌≡◌, refl, ap, ap₂, ◌∙◌}
use mathlib.Core.List.{List, [], ◌∷◌}
use Prim.Native.Nat.{ℕ, zero, suc, ◌+◌, ◌*◌, ◌/◌, ◌%◌, ◌^◌, ◌<◌}
use native.Mathlib.Omega.{arith}
use native.Mathlib.Nat.{pow-succ'}
use lib.ListN.{length}
use Rattle.octets.specs.Octets.{Octets}
use Rattle.octets.specs.LittleEndian.{le, le_octets}

-- a number that fits the width is read back
pub number_back : (width n : ℕ) → n < 256 ^ width → le (le_octets width n) ≡ n
unfolding le le_octets
number_back zero n h = omega arith
number_back (suc width) n h =
    let less : n < 256 * 256 ^ width = rw (pow-succ' 256 width) at h in
    let rest : le (le_octets width (n / 256)) ≡ n / 256 = number_back width (n / 256) (omega arith) in
    omega arith

-- octets are written back
pub octets_back : (xs : List ℕ) → Octets xs → le_octets (length xs) (le xs) ≡ xs
unfolding le le_octets
octets_back [] o = refl
octets_back (x ∷ xs) o =
    let low : x < 256 = o zero in
    let head : (x + 256 * le xs) % 256 ≡ x = omega arith in
    let tail : (x + 256 * le xs) / 256 ≡ le xs = omega arith in
    ap₂ (λ y ys. y ∷ ys) head (ap (le_octets (length xs)) tail ∙ octets_back xs (λ k. o (suc k)))
