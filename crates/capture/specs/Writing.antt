-- Writing a record into lent space (02, T-05).
use Rattle.std.specs.Prelude.{cond, Result, Ok, Err, List, ℕ, ◌+◌, ltb, length}
use Rattle.std.proofs.lemmas.List.Edits.{sets}
use Rattle.capture.specs.declared.writing.WriteError.{WriteError}
use Rattle.capture.specs.declared.writing.WriteError.TheVariants.{OutOfRange, NoRoom}
use Rattle.capture.specs.Records.{entry, record_of, is_in_range}

-- 02's number of a refusal
abbrev pub number_of : WriteError → ℕ
number_of OutOfRange = 23
number_of NoRoom = 24

-- what a call tells, and every octet of the space that it was lent
pub record Report : Type 0 where
  pub number : ℕ
  pub next : ℕ
  pub space : List ℕ

-- refusals "return zero for every count" (01, Octets on the wire)
abbrev pub refused : ℕ → List ℕ → Report
refused n space = record { number = n; next = 0; space = space }

abbrev pub reported : Result ℕ WriteError → List ℕ → Report
reported (Ok next) space = record { number = 0; next = next; space = space }
reported (Err e) space = refused (number_of e) space

-- the record from a place on; every other octet stays
abbrev pub put : List ℕ → ℕ → List ℕ → Report
put space at xs = record { number = 0; next = at + length xs; space = sets space at xs }

-- order "23, 24 when writing"; "24 no room", and "a place past the end is .. 24 when writing"
abbrev pub writing : List ℕ → ℕ → ℕ → List ℕ → Report
writing space at direction body =
    let xs = record_of (entry direction body) in
    cond (is_in_range direction (length body))
    (cond (ltb (length space) (at + length xs)) (refused 24 space) (put space at xs))
    (refused 23 space)
