-- Whole logs (02, T-05): "A log is a run of records".
use mathlib.Core.List.{List, [], ◌∷◌, foldl}
use Rattle.std.specs.Prelude.{ℕ, zero, suc, length, take, drop}
use Rattle.octets.specs.Runs.{each, emitted}
use Rattle.capture.specs.Records.{Entry, record_of, Located, Good}
use Rattle.capture.specs.Reading.{read_front}
use Rattle.capture.specs.Writing.{writing}
use Rattle.capture.specs.Writing as writing

unfoldable pub log_of : List Entry → List ℕ
log_of es = each record_of es

pub data AllGood : List Entry → Type 0 where
  none : AllGood []
  more : {e : Entry} {es : List Entry} → Good e → AllGood es → AllGood (e ∷ es)

-- ---- a log read from its front

-- what a record of a log holds
unfoldable pub entry_of : List ℕ → Located → Entry
entry_of log r = record { direction = r.direction; body = take r.len (drop r.start log) }

-- the records up to the first fault, and its number: 21, 22 or 23, or 0 where there is none
pub record Entries : Type 0 where
  pub entries : List Entry
  pub fault : ℕ

abbrev pub ended : ℕ → Entries
ended n = record { entries = []; fault = n }

abbrev pub with_entry : Entry → Entries → Entries
with_entry e r = record { entries = e ∷ r.entries; fault = r.fault }

-- by what is answered at the front: nothing more where there is no record, else what the record holds, and the rest from its next place on
unfoldable pub entries_by : List ℕ → List Located → ℕ → (ℕ → Entries) → Entries
entries_by log [] number rest = ended number
entries_by log (r ∷ rs) number rest = with_entry (entry_of log r) (rest r.next)

-- a record has seven octets at least, so that as many records as octets are enough
unfoldable pub entries_within : ℕ → List ℕ → Entries
entries_within zero log = ended 0
entries_within (suc n) log = entries_by log (read_front log).found (read_front log).number (λ next. entries_within n (drop next log))

unfoldable pub entries_in : List ℕ → Entries
entries_in log = entries_within (length log) log

-- ---- a log written record by record from place 0 on, each from the place that the last call returned

-- before the first call
abbrev pub unwritten : List ℕ → writing.Report
unwritten space = record { number = 0; next = 0; space = space }

unfoldable pub write_next : writing.Report → Entry → writing.Report
write_next w e = writing w.space w.next e.direction e.body

-- the numbers that the calls answer
abbrev pub numbers_from : writing.Report → List Entry → List ℕ
numbers_from w es = emitted (λ v e. (write_next v e).number ∷ []) write_next w es

-- what the last one tells and leaves
unfoldable pub write_all : List ℕ → List Entry → writing.Report
write_all space es = foldl write_next (unwritten space) es
