-- A written frame (01, Octets on the wire): "a flag, the escaped body and check, and a flag".
use Rattle.std.specs.Prelude.{cond, ◌||◌, List, [], ◌∷◌, ◌++◌, ℕ, length, drop}
use Rattle.std.specs.Int.Bits.{bit_xor}
use Rattle.octets.specs.Runs.{each}
use Rattle.octets.specs.LittleEndian.{le_octets}
use Rattle.frame.specs.Kind.{is_flag, is_escape, is_skipped}
use Rattle.frame.specs.Fcs.{fcs}

-- "7D and then the octet xor 0x20 for each of 7E, 7D, 11, 13, F8"; any other octet as it is
unfoldable pub sent : ℕ → List ℕ
sent b = cond (is_flag b || is_escape b || is_skipped b) (0x7d ∷ bit_xor b 0x20 ∷ []) (b ∷ [])

unfoldable pub stuffed : List ℕ → List ℕ
stuffed xs = each sent xs

-- a body and its check, "low octet first"
unfoldable pub with_check : List ℕ → List ℕ
with_check body = body ++ le_octets 2 (fcs body)

unfoldable pub frame : List ℕ → List ℕ
frame body = 0x7e ∷ stuffed (with_check body) ++ (0x7e ∷ [])

-- what the writer gives: how many octets it wrote, and the whole output
pub record Written : Type 0 where
  pub count : ℕ
  pub output : List ℕ

abbrev pub written : ℕ → List ℕ → Written
written n out = record { count = n; output = out }

-- the frame at the front, and behind it what the output held
unfoldable pub writing : List ℕ → List ℕ → Written
writing body out = written (length (frame body)) (frame body ++ drop (length (frame body)) out)
