-- A record of a capture log (02, T-05): "the mark 53 50, a direction octet (0 to the box, 1 from it), a 16-bit little-endian length from 2 to
-- 1,300, and the unframed body".
use Rattle.std.specs.Prelude.{Bool, ◌&&◌, List, ◌∷◌, ◌++◌, ℕ, ◌≤◌, leb, length}
use Rattle.octets.specs.Body.{min_body, max_body}
use Rattle.octets.specs.LittleEndian.{le_octets}
use Rattle.octets.specs.Ranges.{is_between}
use Rattle.capture.specs.declared.records.Direction.{Direction}
use Rattle.capture.specs.declared.records.Direction.TheVariants.{ToBox, FromBox}
use Rattle.capture.specs.declared.records.Record.{Record}

-- what a record holds
pub record Entry : Type 0 where
  pub direction : ℕ
  pub body : List ℕ

abbrev pub entry : ℕ → List ℕ → Entry
entry direction body = record { direction = direction; body = body }

abbrev pub to_box : ℕ
to_box = 0

abbrev pub from_box : ℕ
from_box = 1

-- the octet of the code's direction
abbrev pub octet_of : Direction → ℕ
octet_of ToBox = to_box
octet_of FromBox = from_box

abbrev pub record_of : Entry → List ℕ
record_of e = 0x53 ∷ 0x50 ∷ e.direction ∷ le_octets 2 (length e.body) ++ e.body

-- how many octets stand before the body
abbrev pub head_size : ℕ
head_size = 5

-- a record where it stands in a log, its direction by 02's number: where its body starts, how many octets that has, and the place after it
pub record Located : Type 0 where
  pub direction : ℕ
  pub start : ℕ
  pub len : ℕ
  pub next : ℕ

abbrev pub located : Record → Located
located r = record { direction = octet_of r.direction; start = r.start; len = r.len; next = r.next }

-- a direction, and how many octets a body has
abbrev pub is_in_range : ℕ → ℕ → Bool
is_in_range direction len = leb direction from_box && is_between min_body max_body len

-- an entry that can be recorded
pub record Good (e : Entry) : Type 0 where
  pub direction : e.direction ≤ from_box
  pub least : min_body ≤ length e.body
  pub most : length e.body ≤ max_body
