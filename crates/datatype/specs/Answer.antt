-- What the reader of typed payloads answers (01, Octets on the wire, the table of numbers; Type strings).
use Rattle.std.specs.Prelude.{cond, Option, None, Result, Ok, Err, List, ◌++◌, ℕ, ◌*◌, ltb, length, drop}
use Rattle.packed.specs.declared.Fault.{Fault}
use Rattle.typestring.specs.Grammar.{Items}
use Rattle.typestring.specs.Parse.{Parsed, malformed, parsed, type_of}
use Rattle.datatype.specs.declared.reading.Refusal.{Refusal}
use Rattle.datatype.specs.declared.reading.Refusal.TheVariants.{Malformed, Misfit, ShortList}
use Rattle.datatype.specs.Reading.{Leaf, numbers, Reading, misfit, upto, filling, part_reads}

-- "a payload at most 1,300 octets"
abbrev pub max_payload : ℕ
max_payload = 1300

-- a list of so many numbers has room for the leaves of any payload: there are never more of them than octets of the longest
abbrev pub max_numbers : ℕ
max_numbers = 3 * max_payload

-- a refusal by its number, with "an extra item", the cause (02, T-07), or leaves
pub data Outcome : Type 0 where
  refused : ℕ → Option Fault → Outcome
  leaves : List Leaf → Outcome

-- "17 means that the list has fewer than three numbers for each leaf"
unfoldable pub listed : ℕ → Reading → Outcome
listed room (misfit w) = refused 16 w
listed room (upto p ls) = cond (ltb room (3 * length ls)) (refused 17 None) (leaves ls)

-- a tree over a whole payload: "A reading consumes everything"
abbrev pub payload_reads : Items → List ℕ → Reading
payload_reads t payload = filling (length payload) (part_reads t payload 0)

-- "Order 15, 16, 17", for a list of so many numbers
unfoldable pub result : Parsed → List ℕ → ℕ → Outcome
result malformed payload room = refused 15 None
result (parsed t s) payload room = cond (ltb max_payload (length payload)) (refused 16 None) (listed room (payload_reads t payload))

-- of a type string, a payload and a list
abbrev pub answer_to : List ℕ → List ℕ → List ℕ → Outcome
answer_to types payload list = result (type_of types) payload (length list)

-- 01's number of an answer and its count of leaves: "answer 0 on success, this one with the number of leaves"; refusals "return zero
-- for every count"; and the cause
pub record Report : Type 0 where
  pub number : ℕ
  pub count : ℕ
  pub cause : Option Fault

abbrev pub reported : Result ℕ Refusal → Report
reported (Ok n) = record { number = 0; count = n; cause = None }
reported (Err Malformed) = record { number = 15; count = 0; cause = None }
reported (Err (Misfit w)) = record { number = 16; count = 0; cause = w }
reported (Err ShortList) = record { number = 17; count = 0; cause = None }

unfoldable pub report_of : Outcome → Report
report_of (refused n w) = record { number = n; count = 0; cause = w }
report_of (leaves ls) = record { number = 0; count = length ls; cause = None }

-- "numbers past the last leaf keep what they held"; refusals "write nothing"
unfoldable pub filled : List ℕ → Outcome → List ℕ
filled list (refused n w) = list
filled list (leaves ls) = numbers ls ++ drop (length (numbers ls)) list
