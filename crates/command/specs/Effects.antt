-- What a body on a link that is set up does to the whole box, told by its octets (01, Whole histories).
use Rattle.std.specs.Prelude.{ℕ, Bool, cond, ◌&&◌, List, eqb, leb, length, get_or}
use Rattle.device.specs.declared.view.Effect.{Effect}
use Rattle.device.specs.declared.view.Effect.TheVariants.{None, Reset, Powered}

-- "A reset is a checked body, on a link set up, whose second octet is 01"
unfoldable pub is_reset : List ℕ → Bool
is_reset b = eqb (get_or b 1 0) 1

-- "a checked body .. of four octets, the last three 03, 07 and 0 to 4"
unfoldable pub is_power : List ℕ → Bool
is_power b = eqb (length b) 4 && (eqb (get_or b 1 0) 3 && (eqb (get_or b 2 0) 7 && leb (get_or b 3 0) 4))

-- of a body on a link set up
unfoldable pub effect_of : List ℕ → Effect
effect_of b = cond (is_reset b) Reset (cond (is_power b) (Powered (get_or b 3 0)) None)
