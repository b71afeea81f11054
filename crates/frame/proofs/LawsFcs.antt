-- Laws of the frame check: it fits its two octets.
use mathlib.Core.List.{List, [], ◌∷◌}
use Prim.Native.Nat.{ℕ, zero, suc, ◌/◌, ◌%◌, ◌<◌}
use native.Mathlib.Omega.{arith}
use lib.Dec.{eqb}
use lib.Bits.{bit_xor, xor_lt}
use Rattle.octets.specs.Octets.{Octets}
use Rattle.octets.proofs.LawsTests.{by_test}
use Rattle.frame.specs.Fcs.{fcs_bit, fcs_bits, fcs_octet, fcs_from, fcs}

bit_bound : (r : ℕ) → r < 65536 → fcs_bit r < 65536
unfolding fcs_bit
bit_bound r h = by_test (eqb (r % 2) 1) (λ t. simp t (xor_lt 16 (r / 2) 0x8408 (omega arith) (omega arith))) (λ t. simp t (omega arith))

bits_bound : (n r : ℕ) → r < 65536 → fcs_bits n r < 65536
unfolding fcs_bits
bits_bound zero r h = h
bits_bound (suc n) r h = bits_bound n (fcs_bit r) (bit_bound r h)

from_bound : (xs : List ℕ) (r : ℕ) → Octets xs → r < 65536 → fcs_from r xs < 65536
unfolding fcs_from fcs_octet
from_bound [] r o h = h
from_bound (x ∷ xs) r o h =
    let octet : x < 256 = o zero in
    from_bound xs (fcs_octet r x) (λ k. o (suc k)) (bits_bound 8 (bit_xor r x) (xor_lt 16 r x h (omega arith)))

pub fcs_bound : (xs : List ℕ) → Octets xs → fcs xs < 65536
unfolding fcs
fcs_bound xs o = xor_lt 16 (fcs_from 0xffff xs) 0xffff (from_bound xs 0xffff o (omega arith)) (omega arith)
