-- Reading the record at a place of a log (02, T-05).
use Rattle.std.specs.Prelude.{Bool, cond, Option, Some, None, Result, Ok, Err, ◌&&◌, List, [], ◌∷◌, map, ℕ, ◌+◌, eqb, ltb, length, get_or, drop}
use Rattle.octets.specs.LittleEndian.{le_at}
use Rattle.capture.specs.declared.records.Record.{Record}
use Rattle.capture.specs.declared.reading.ReadError.{ReadError}
use Rattle.capture.specs.declared.reading.ReadError.TheVariants.{BadMark, CutOff, OutOfRange}
use Rattle.capture.specs.Records.{head_size, Located, located, is_in_range}

-- ---- an answer by 02's numbers: that of a refusal, else 0; and the record that was found, or none

pub record Report : Type 0 where
  pub number : ℕ
  pub found : List Located

abbrev pub one : Located → Report
one r = record { number = 0; found = r ∷ [] }

abbrev pub no_record : ℕ → Report
no_record n = record { number = n; found = [] }

-- 02's number of a refusal
abbrev pub number_of : ReadError → ℕ
number_of BadMark = 21
number_of CutOff = 22
number_of OutOfRange = 23

abbrev pub reported : Result (Option Record) ReadError → Report
reported (Ok (Some r)) = one (located r)
reported (Ok None) = no_record 0
reported (Err e) = no_record (number_of e)

-- ---- the record at the front of octets

abbrev pub has_mark : List ℕ → Bool
has_mark xs = eqb (get_or xs 0 0) 0x53 && eqb (get_or xs 1 0) 0x50

abbrev pub direction_in : List ℕ → ℕ
direction_in xs = get_or xs 2 0

-- "a 16-bit little-endian length"
abbrev pub length_in : List ℕ → ℕ
length_in xs = le_at xs 3 2

abbrev pub record_in : List ℕ → Located
record_in xs = record { direction = direction_in xs; start = head_size; len = length_in xs; next = head_size + length_in xs }

-- "order 22, 21, 23 when reading"; "Cut off means fewer than five octets left or, where mark, direction and length are good, fewer than the
-- length demands"; where none is left, there are no more: "At the end exactly"
abbrev pub read_front : List ℕ → Report
read_front xs =
    cond (eqb (length xs) 0) (no_record 0)
    (cond (ltb (length xs) head_size) (no_record 22)
    (cond (has_mark xs)
    (cond (is_in_range (direction_in xs) (length_in xs))
    (cond (ltb (length xs) (head_size + length_in xs)) (no_record 22) (one (record_in xs)))
    (no_record 23))
    (no_record 21)))

-- ---- at a place, from which places are counted on

abbrev pub shifted : ℕ → Located → Located
shifted n r = record { direction = r.direction; start = n + r.start; len = r.len; next = n + r.next }

abbrev pub placed : ℕ → Report → Report
placed n r = record { number = r.number; found = map (shifted n) r.found }

-- "a place past the end is 22 when reading"
abbrev pub read_at : List ℕ → ℕ → Report
read_at log at = cond (ltb (length log) at) (no_record 22) (placed at (read_front (drop at log)))
