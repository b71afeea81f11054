-- The reader of a line of hex, letter by letter. What a line is to spell is told apart from it, in Spelling.
use Rattle.std.specs.Prelude.{true, false, cond, Option, Some, None, ℕ, ◌+◌, ◌-◌, ◌*◌, ◌%◌, ltb, eqb, length, set}
use mathlib.Core.List.{List, foldl}
use Rattle.octets.specs.Ranges.{is_between}
use Rattle.lines.specs.declared.reader.Stage.{Stage}
use Rattle.lines.specs.declared.reader.Stage.TheVariants.{Start, Half, Octet, Space, Wrong}
use Rattle.lines.specs.declared.reader.LineReader.{LineReader}
use Rattle.lines.specs.declared.reader.HexLine.{HexLine}
use Rattle.lines.specs.declared.reader.HexLine.TheVariants.{Octets, More}
use Rattle.lines.specs.Spelling.{space}

-- ---- letters

-- 0 to 9, a to f and A to F
abbrev pub digit_of : ℕ → Option ℕ
digit_of c =
    cond (is_between 0x30 0x39 c) (Some (c - 0x30))
    (cond (is_between 0x61 0x66 c) (Some (c - 0x61 + 10))
    (cond (is_between 0x41 0x46 c) (Some (c - 0x41 + 10)) None))

-- ---- states

abbrev pub fresh : LineReader
fresh = record { stage = Start; count = 0; more = false }

-- the same reader at another stage of the line
abbrev pub at : LineReader → Stage → LineReader
at r p = record { stage = p; count = r.count; more = r.more }

-- a reader with the space that it is lent
pub record Keeping : Type 0 where
  pub reader : LineReader
  pub out : List ℕ

abbrev pub keeping : LineReader → List ℕ → Keeping
keeping r out = record { reader = r; out = out }

-- ---- one letter

-- an octet is kept where there is room for it; where there is none, it is told that there are more
abbrev pub with_octet : Keeping → ℕ → Keeping
with_octet h x =
    cond (ltb h.reader.count (length h.out))
    (keeping (record { stage = Octet; count = h.reader.count + 1; more = h.reader.more }) (set h.out h.reader.count x))
    (keeping (record { stage = Octet; count = h.reader.count; more = true }) h.out)

-- the first digit of an octet, and the second one; what is no digit has no business there
abbrev pub half_of : Option ℕ → Stage
half_of (Some v) = Half v
half_of None = Wrong

abbrev pub first : LineReader → ℕ → LineReader
first r c = at r (half_of (digit_of c))

abbrev pub completed : Keeping → ℕ → Option ℕ → Keeping
completed h high (Some low) = with_octet h (high % 16 * 16 + low)
completed h high None = keeping (at h.reader Wrong) h.out

abbrev pub second : Keeping → ℕ → ℕ → Keeping
second h high c = completed h high (digit_of c)

-- behind an octet there may be a space; wherever else an octet may start, there must be its first digit
abbrev pub step_from : Stage → Keeping → ℕ → Keeping
step_from Start h c = keeping (first h.reader c) h.out
step_from (Half high) h c = second h high c
step_from Octet h c = keeping (cond (eqb c space) (at h.reader Space) (first h.reader c)) h.out
step_from Space h c = keeping (first h.reader c) h.out
step_from Wrong h c = h

abbrev pub step : Keeping → ℕ → Keeping
step h c = step_from h.reader.stage h c

-- ---- a line

-- one piece of it
abbrev pub reading : Keeping → List ℕ → Keeping
reading h text = foldl step h text

-- where it is in order: how many octets are kept, and whether there are more
abbrev pub good_line : LineReader → HexLine
good_line r = cond r.more (More r.count) (Octets r.count)

-- its end: it may end behind an octet, or before its first letter
abbrev pub answer_at : Stage → LineReader → Option HexLine
answer_at Start r = Some (good_line r)
answer_at (Half high) r = None
answer_at Octet r = Some (good_line r)
answer_at Space r = None
answer_at Wrong r = None

abbrev pub answer_of : LineReader → Option HexLine
answer_of r = answer_at r.stage r

-- what it comes to, and the lent space after it
pub record Outcome : Type 0 where
  pub answer : Option HexLine
  pub out : List ℕ

abbrev pub outcome : Option HexLine → List ℕ → Outcome
outcome a out = record { answer = a; out = out }

abbrev pub at_end : Keeping → Outcome
at_end h = outcome (answer_of h.reader) h.out

-- a whole line, read at once into the lent space
abbrev pub read_line : List ℕ → List ℕ → Outcome
read_line text out = at_end (reading (keeping fresh out) text)
