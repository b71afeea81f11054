-- What the functions below the public call rely on and give.
use Rattle.std.specs.Prelude.{cond, None, Result, Ok, List, ◌≡◌, ℕ, ◌+◌, ◌*◌, ◌≤◌, eqb, length}
use Rattle.std.proofs.lemmas.List.Edits.{sets}
use Rattle.typestring.specs.Grammar.{Item, Items, max_octets}
use Rattle.typestring.specs.Calls.{PartFrom, ItemFrom}
use Rattle.datatype.specs.declared.leaf.Span.{Span}
use Rattle.datatype.specs.declared.leaf.Misfit.{Misfit}
use Rattle.datatype.specs.declared.list.Read.{Read}
use Rattle.datatype.specs.Leaf.{unfit}
use Rattle.datatype.specs.Reading.{Reading, misfit, upto, numbers, item_reads, part_reads}
use Rattle.datatype.specs.Answer.{max_payload}

-- places within their slices, and no more leaves so far than octets were passed
pub record Room (types part : List ℕ) (at from leaves : ℕ) : Type 0 where
  pub few : length types ≤ max_octets
  pub placed : at ≤ length types
  pub short : length part ≤ max_payload
  pub within : from ≤ length part
  pub counted : leaves ≤ from + at

-- a span within a payload
abbrev pub Small : Span → Type 0
Small s = (s.start ≤ max_payload) × (s.size ≤ max_payload)

-- a place that is reached, and so many leaves up to it
abbrev pub reached : ℕ → ℕ → Result Read Misfit
reached next leaves = Ok (record { next = next; leaves = leaves })

-- the answer is that of a reading, and its leaves' numbers stand in the list as far as it goes, behind those of the leaves before
abbrev pub Did : Reading → List ℕ → List ℕ → ℕ → Result Read Misfit → Type 0
Did (misfit w) list list' leaves r = r ≡ unfit w
Did (upto p ls) list list' leaves r = (r ≡ reached p (leaves + length ls)) × (list' ≡ sets list (3 * leaves) (numbers ls))

-- a reading of a part has to reach its end
abbrev pub filling_to : ℕ → Read → Result Read Misfit
filling_to stop r = cond (eqb r.next stop) (Ok r) (unfit None)

-- whatever part, or item, is printed at a place, the answer is that of its reading
abbrev pub ReadsPart : List ℕ → ℕ → List ℕ → ℕ → List ℕ → List ℕ → ℕ → Result Read Misfit → Type 0
ReadsPart s depth part from list list' leaves r = (t : Items) → PartFrom s depth t → Did (part_reads t part from) list list' leaves r

abbrev pub ReadsItem : List ℕ → ℕ → List ℕ → ℕ → List ℕ → List ℕ → ℕ → Result Read Misfit → Type 0
ReadsItem s depth part from list list' leaves r = (i : Item) → ItemFrom s depth i → Did (item_reads i part from) list list' leaves r
