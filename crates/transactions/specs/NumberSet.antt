-- Sets of transaction numbers as the bits of a number (01, Places and their forms).
use Rattle.std.specs.Prelude.{List, [], ◌∷◌, ℕ, zero, suc, ◌/◌, ◌%◌}

-- the k lowest binary digits of a number, the lowest first: number n is in the set where the digit at place n is 1
unfoldable pub digits : ℕ → ℕ → List ℕ
digits zero bits = []
digits (suc k) bits = bits % 2 ∷ digits k (bits / 2)
