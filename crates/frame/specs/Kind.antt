-- The octets of the wire by kind (01, Octets on the wire).
use Rattle.std.specs.Prelude.{Bool, cond, ◌||◌, ℕ, eqb}
use Rattle.frame.specs.declared.kind.OctetKind.{OctetKind}
use Rattle.frame.specs.declared.kind.OctetKind.TheVariants.{Flag, Escape, Skipped, Plain}

-- "0x7E is the flag, 0x7D the escape"
unfoldable pub is_flag : ℕ → Bool
is_flag b = eqb b 0x7e

unfoldable pub is_escape : ℕ → Bool
is_escape b = eqb b 0x7d

-- "A reader skips bare 11, 13 and F8"
unfoldable pub is_skipped : ℕ → Bool
is_skipped b = eqb b 0x11 || eqb b 0x13 || eqb b 0xf8

-- the kind that the code goes by
unfoldable pub kind_of : ℕ → OctetKind
kind_of b = cond (is_flag b) Flag (cond (is_escape b) Escape (cond (is_skipped b) Skipped Plain))
