-- Assisting ports, as octets: each a little-endian number of two.
use Rattle.std.specs.Prelude.{ℕ, Bool, true, not, ◌*◌, ◌&&◌, List, [], ◌∷◌, ltb, length, Option, Some, None, cond}
use Rattle.octets.specs.LittleEndian.{le}
use Rattle.octets.specs.Finding.{before}

-- the 16-bit little-endian numbers that octets stand for; an octet left over is none
unfoldable pub ports_in : List ℕ → List ℕ
ports_in [] = []
ports_in (x ∷ []) = []
ports_in (x ∷ y ∷ xs) = le (x ∷ y ∷ []) ∷ ports_in xs

-- a number is among some
unfoldable pub holds : ℕ → List ℕ → Bool
holds v xs = ltb (before v xs) (length xs)

-- "ports distinct"
unfoldable pub distinct : List ℕ → Bool
distinct [] = true
distinct (x ∷ xs) = not (holds x xs) && distinct xs

-- where a port's two octets begin, if it is among some
unfoldable pub port_place : ℕ → List ℕ → Option ℕ
port_place v xs = cond (holds v (ports_in xs)) (Some (2 * before v (ports_in xs))) None
