-- What the host sends, and its frames (02, T-06).
use Rattle.std.specs.Prelude.{Bool, cond, not, ◌&&◌, Option, Some, None, List, [], ◌∷◌, ◌++◌, ◌≢◌, ℕ, ◌+◌, ◌*◌, ◌≤◌, eqb, ltb, leb, length}
use Rattle.octets.specs.Body.{max_body}
use Rattle.packed.specs.Packed.{packed, max_packed}
use Rattle.frame.specs.Frame.{frame, Written, written, writing}
use Rattle.transactions.specs.Table.{max_number}

-- ---- bodies

-- 01, Commands: "Header: two bits 10, two bits link, four bits transaction"
abbrev pub header : ℕ → ℕ → ℕ
header link number = 128 + 16 * link + number

-- a command's number, packed, and its payload behind the header
abbrev pub command_body : ℕ → ℕ → ℕ → List ℕ → List ℕ
command_body link number command payload = header link number ∷ packed command ++ payload

-- "a host that sends resets as 80 01"
abbrev pub reset_body : List ℕ
reset_body = 0x80 ∷ 0x01 ∷ []

-- a link and a number that a header has room for, the number one that is handed out; a command that can be packed, and is not 1, RESET: "every
-- other command" goes "under a number opened for it alone"
pub record Sendable (l n c : ℕ) : Type 0 where
  pub link : l ≤ 3
  pub from_1 : 1 ≤ n
  pub most : n ≤ 15
  pub packs : c ≤ 2097151
  pub other : c ≢ 1

abbrev pub max_link : ℕ
max_link = 3

-- the test that decides it (proofs/LawsWriting.antt)
unfoldable pub is_sendable : ℕ → ℕ → ℕ → Bool
is_sendable link number command =
    leb link max_link && leb 1 number && leb number max_number && leb command max_packed && not (eqb command 1)

-- ---- their frames

abbrev pub nothing : List ℕ → Written
nothing out = written 0 out

-- the code's answer as a count; 0 is no length of a frame, and never a Some
abbrev pub count_of : Option ℕ → ℕ
count_of (Some n) = n
count_of None = 0

-- where a frame fits, it stands at the front of the output; where not, the output is left as it was
unfoldable pub writing_fitting : List ℕ → List ℕ → Written
writing_fitting body out = cond (ltb (length out) (length (frame body))) (nothing out) (writing body out)

unfoldable pub writing_command : ℕ → ℕ → ℕ → List ℕ → List ℕ → Written
writing_command link number command payload out =
    cond (is_sendable link number command)
    (cond (ltb max_body (length (command_body link number command payload))) (nothing out)
    (writing_fitting (command_body link number command payload) out))
    (nothing out)

abbrev pub writing_reset : List ℕ → Written
writing_reset out = writing_fitting reset_body out
