-- Numbers as octets, the least significant first (000, section 3: "All multi-octet values are little-endian").
use Rattle.std.specs.Prelude.{ℕ, zero, suc, ◌+◌, ◌*◌, ◌/◌, ◌%◌, List, [], ◌∷◌, take, drop}

-- the number that octets stand for
unfoldable pub le : List ℕ → ℕ
le [] = 0
le (x ∷ xs) = x + 256 * le xs

-- the number in the `width` octets from a place on
unfoldable pub le_at : List ℕ → ℕ → ℕ → ℕ
le_at xs at width = le (take width (drop at xs))

-- the `width` low octets of a number
unfoldable pub le_octets : ℕ → ℕ → List ℕ
le_octets zero n = []
le_octets (suc width) n = n % 256 ∷ le_octets width (n / 256)
