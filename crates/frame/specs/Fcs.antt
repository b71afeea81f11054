-- The 16-bit frame check sequence of RFC 1662, section C.1, bit by bit (01, Octets on the wire: "start all ones, low bit first,
-- complement sent").
use Rattle.std.specs.Prelude.{cond, ℕ, zero, suc, ◌/◌, ◌%◌, eqb}
use mathlib.Core.List.{List, [], ◌∷◌, foldl}
use Rattle.std.specs.Int.Bits.{bit_xor}

-- one bit: the register's low bit goes out, and where it was 1 the polynomial x^16 + x^12 + x^5 + 1, bits reversed, comes in
unfoldable pub fcs_bit : ℕ → ℕ
fcs_bit r = cond (eqb (r % 2) 1) (bit_xor (r / 2) 0x8408) (r / 2)

unfoldable pub fcs_bits : ℕ → ℕ → ℕ
fcs_bits zero r = r
fcs_bits (suc n) r = fcs_bits n (fcs_bit r)

-- one octet: eight bits, the lowest first
unfoldable pub fcs_octet : ℕ → ℕ → ℕ
fcs_octet r b = fcs_bits 8 (bit_xor r b)

-- what eight bits leave of n numbers, from x on; and of each octet from 0 to 255, the table of section C.2
unfoldable pub fcs_entries : ℕ → ℕ → List ℕ
fcs_entries x zero = []
fcs_entries x (suc n) = fcs_bits 8 x ∷ fcs_entries (suc x) n

unfoldable pub fcs_table : List ℕ
fcs_table = fcs_entries 0 256

-- the register after octets
unfoldable pub fcs_from : ℕ → List ℕ → ℕ
fcs_from r xs = foldl fcs_octet r xs

-- the check of a body
unfoldable pub fcs : List ℕ → ℕ
fcs body = bit_xor (fcs_from 0xffff body) 0xffff
