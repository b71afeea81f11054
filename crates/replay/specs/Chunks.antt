-- A log's octets, read a record at a time. A chunk is what is read for one record: its head, and then the body that the head announces.
use Rattle.std.specs.Prelude.{Bool, true, false, cond, ◌&&◌, List, [], ◌∷◌, map, ℕ, ◌+◌, ◌≤◌, eqb, length, take}
use Rattle.capture.specs.Records.{Entry, head_size}
use Rattle.capture.specs.Reading.{length_in, read_front}
use Rattle.capture.specs.Logs.{entry_of}
use Rattle.replay.specs.Play.{State, after_all, lines_from}

-- how many octets of a body are to come behind five octets that are a good head: their record is cut off (22), and nothing else is wrong with
-- it. Behind any others none
unfoldable pub body_left : List ℕ → ℕ
body_left xs = cond (eqb (length xs) head_size && eqb (read_front xs).number 22) (length_in xs) 0

-- octets that reach no further than the record that they begin with
unfoldable pub IsChunk : List ℕ → Type 0
IsChunk xs = length xs ≤ head_size + body_left (take head_size xs)

-- ---- chunks played one after the other

-- the record at the front of a chunk, if there is one
unfoldable pub entry_in : List ℕ → List Entry
entry_in xs = map (entry_of xs) (read_front xs).found

abbrev pub is_none : List Entry → Bool
is_none [] = true
is_none (e ∷ es) = false

unfoldable pub after_chunk : State → List ℕ → State
after_chunk s xs = after_all s (entry_in xs)

unfoldable pub chunk_lines : State → List ℕ → List Bool
chunk_lines s xs = lines_from s (entry_in xs)
