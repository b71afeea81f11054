-- PROMISE: the transmit power's range is 01's, a signed octet from -40 to 8.
use mathlib.Core.Path.{◌≡◌}
use mathlib.Core.Bool.{Bool, false, cond}
use Prim.Native.Nat.{ℕ, ◌-◌}
use native.Mathlib.Omega.{arith}
use lib.Dec.{ltb, leb}
use Rattle.property.specs.Number.{numbers, number_at, within}

-- "A signed octet from 128 to 255 means itself less 256": it is at least -40 where it lacks at most 40 of 256
unfoldable pub from_minus40_to8 : ℕ → Bool
from_minus40_to8 x = cond (ltb 255 x) false (cond (ltb x 128) (leb x 8) (leb (256 - x) 40))

pub signed_range : (x : ℕ) → within (number_at 2) x ≡ from_minus40_to8 x
unfolding numbers within from_minus40_to8
signed_range x = grind arith
