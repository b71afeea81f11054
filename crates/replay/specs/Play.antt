-- A log's records replayed (02, T-05): "A program replays a log's to-box records from standard input through 01's program box and prints a line
-- for each from-box record: `yes` if the record just before is to-box and this is its reply, else `no`."
use Rattle.std.specs.Prelude.{Bool, cond, Option, Some, None, ◌≡◌, ℕ, ◌/◌, eqb}
use mathlib.Core.List.{List, [], ◌∷◌, ◌++◌, foldl}
use Rattle.octets.specs.Body.{header_of}
use Rattle.octets.specs.Comparing.{is_same}
use Rattle.octets.specs.Runs.{each, emitted}
use Rattle.capture.specs.Records.{Entry, to_box}
use Rattle.device.specs.declared.state.Device.{Device}
use Rattle.engine.specs.Engine.{engine}
use Rattle.engine.specs.Merged.{device_after}

-- ---- between two records

-- the box, and its reply to the record just before; no octets, which no body has, where there is none
pub record State : Type 0 where
  pub device : Device
  pub reply : List ℕ

abbrev pub silent : Device → State
silent d = record { device = d; reply = [] }

-- ---- a record

-- a body to the box; where its top bits are not 10 it never reaches the engine (01: "dropped: top two header bits not 10")
unfoldable pub delivered : Device → List ℕ → State
delivered d b = cond (eqb (header_of b / 64) 2) (record { device = (engine d b).device; reply = (engine d b).reply }) (silent d)

unfoldable pub next : State → Entry → State
next s e = cond (eqb e.direction to_box) (delivered s.device e.body) (silent s.device)

-- the line for a record from the box: yes or no
unfoldable pub line_for : State → Entry → List Bool
line_for s e = cond (eqb e.direction to_box) [] (is_same s.reply e.body ∷ [])

-- the same of what the code gives: whether a record from the box is the reply
abbrev pub yes_or_no : Option Bool → List Bool
yes_or_no None = []
yes_or_no (Some is_reply) = is_reply ∷ []

-- ---- records one after the other

unfoldable pub after_all : State → List Entry → State
after_all s es = foldl next s es

unfoldable pub lines_from : State → List Entry → List Bool
lines_from s es = emitted line_for next s es

-- from a box, and nothing before the first record
abbrev pub replayed : Device → List Entry → List Bool
replayed d es = lines_from (silent d) es

-- ---- told by the records alone

-- the bodies that reach the box, in order
unfoldable pub request_in : Entry → List (List ℕ)
request_in e = cond (eqb e.direction to_box) (cond (eqb (header_of e.body / 64) 2) (e.body ∷ []) []) []

unfoldable pub requests_in : List Entry → List (List ℕ)
requests_in es = each request_in es

-- behind these records, "the record just before is to-box and this is its reply": the engine's, on the box that the bodies before it leave
pub record IsReply (d : Device) (es : List Entry) (a : Entry) : Type 0 where
  pub before : List Entry
  pub request : Entry
  pub just_before : es ≡ before ++ (request ∷ [])
  pub goes_to_box : request.direction ≡ 0
  pub top : header_of request.body / 64 ≡ 2
  pub reply : a.body ≡ (engine (device_after d (requests_in before)) request.body).reply
