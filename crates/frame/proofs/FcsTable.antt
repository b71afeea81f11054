-- PROMISE: one lookup is RFC 1662's eight bit steps. Whether a step brings the polynomial in is settled by the low octet alone, so the
-- high one moves down and meets what the low one leaves, which stands in the table.
use mathlib.Core.Path.{◌≡◌, refl, sym, ap, ◌∙◌}
use Prim.Native.Nat.{ℕ, zero, suc, ◌+◌, ◌*◌, ◌/◌, ◌%◌, ◌^◌, ◌<◌}
use native.Mathlib.Omega.{arith}
use native.Mathlib.Nat.{add-zero, zero-add, mul-one}
use lib.Bits.{bit_xor, xor_shr, xor_mod, xor_shifted, shifted_half, shifted_even}
use lib.Dec.{eqb}
use lib.ListN.{get_or}
use lib.Pow.{split}
use Rattle.octets.proofs.LawsTests.{by_test}
use Rattle.frame.specs.declared.fcs_table.TheConstants.{FCS_TABLE}
use Rattle.frame.specs.Fcs.{fcs_bit, fcs_bits, fcs_octet, fcs_entries, fcs_table}
use Rattle.frame.proofs.LawsXor.{xor_assoc}

-- n steps: what was joined above the n low bits moves down, and is joined to what the steps leave of the rest
bits_out : (n h l : ℕ) → fcs_bits n (bit_xor (h * 2 ^ n) l) ≡ bit_xor h (fcs_bits n l)
unfolding fcs_bits fcs_bit
bits_out zero h l = ap (λ x. bit_xor x l) (mul-one h)
bits_out (suc n) h l =
    let odd : bit_xor (h * 2 ^ suc n) l % 2 ≡ l % 2 = xor_mod (h * 2 ^ suc n) l 1 ∙ ap (λ x. bit_xor x (l % 2)) (shifted_even h n) in
    let half : bit_xor (h * 2 ^ suc n) l / 2 ≡ bit_xor (h * 2 ^ n) (l / 2)
    = xor_shr (h * 2 ^ suc n) l 1 ∙ ap (λ x. bit_xor x (l / 2)) (shifted_half h n) in
    by_test (eqb (l % 2) 1)
    (λ t. rw (odd, half, t) (ap (fcs_bits n) (xor_assoc (h * 2 ^ n) (l / 2) _) ∙ bits_out n h _))
    (λ t. rw (odd, half, t) (bits_out n h (l / 2)))

pub eight_bits : (x : ℕ) → fcs_bits 8 x ≡ bit_xor (x / 256) (fcs_bits 8 (x % 256))
eight_bits x = ap (fcs_bits 8) (sym (xor_shifted (x / 256) 8 (x % 256) (omega arith) ∙ split x 8)) ∙ bits_out 8 (x / 256) (x % 256)

-- ---- the table

entries_at : (x n k : ℕ) → k < n → get_or (fcs_entries x n) k 0 ≡ fcs_bits 8 (x + k)
unfolding fcs_entries
entries_at x zero k h = absurd (omega arith)
entries_at x (suc n) zero h = ap (fcs_bits 8) (sym (add-zero x))
entries_at x (suc n) (suc k) h = entries_at (suc x) n k (omega arith) ∙ ap (fcs_bits 8) (omega arith)

pub table_at : (k : ℕ) → k < 256 → get_or fcs_table k 0 ≡ fcs_bits 8 k
unfolding fcs_table
table_at k h = entries_at 0 256 k h ∙ ap (fcs_bits 8) (zero-add k)

pub one_lookup : (register octet : ℕ) → let x = bit_xor register octet in
    bit_xor (x / 256) (get_or fcs_table (x % 256) 0) ≡ fcs_octet register octet
unfolding fcs_octet
one_lookup register octet =
    let x = bit_xor register octet in ap (bit_xor (x / 256)) (table_at (x % 256) (omega arith)) ∙ sym (eight_bits x)

-- the code's table is that one: all of its 256 entries are computed
pub the_entries : FCS_TABLE ≡ fcs_table
unfolding fcs_table fcs_entries fcs_bits fcs_bit
the_entries = refl

pub looked_up : (register octet : ℕ) → let x = bit_xor register octet in
    bit_xor (x / 256) (get_or FCS_TABLE (x % 256) 0) ≡ fcs_octet register octet
looked_up register octet =
    let x = bit_xor register octet in ap (λ table. bit_xor (x / 256) (get_or table (x % 256) 0)) the_entries ∙ one_lookup register octet
