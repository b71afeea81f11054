-- Where values stand in a payload (01, Type strings). A part of the payload is the octets up to the part's end; places count from the
-- payload's first octet.
use Rattle.std.specs.Prelude.{cond, Option, Some, None, Result, Ok, Err, List, ℕ, ◌+◌, ◌-◌, ltb, leb, length, get_or, take, drop}
use Rattle.octets.specs.LittleEndian.{le_at}
use Rattle.octets.specs.Finding.{before}
use Rattle.utf8.specs.Utf8.{is_utf8}
use Rattle.packed.specs.Packed.{packed_at}
use Rattle.packed.specs.declared.Fault.{Fault}
use Rattle.packed.specs.declared.Packed.{Packed}
use Rattle.typestring.specs.declared.kind.Value.{Value}
use Rattle.typestring.specs.declared.kind.Value.TheVariants as value
use Rattle.datatype.specs.declared.leaf.Span.{Span}
use Rattle.datatype.specs.declared.leaf.Misfit.{Misfit}

-- what is told of a place: a value's start, length and the place after it, or that nothing fits there, with a cause
abbrev pub stands : ℕ → ℕ → ℕ → Result Span Misfit
stands start size next = Ok (record { start = start; size = size; next = next })

abbrev pub unfit : {A : Type 0} → Option Fault → Result A Misfit
unfit w = Err (record { cause = w })

-- so many octets from a place on
unfoldable pub fixed_at : ℕ → List ℕ → ℕ → Result Span Misfit
fixed_at width part from = cond (ltb (length part - from) width) (unfit None) (stands from width (from + width))

-- "A b that isn't 00 or 01 ... [is] 16"; behind the part's end `get_or` gives 0, and there is no octet
unfoldable pub bool_at : List ℕ → ℕ → Result Span Misfit
bool_at part from = cond (leb (get_or part from 0) 1) (fixed_at 1 part from) (unfit None)

-- a "good packed integer", its own octets being the leaf; of no other value is there a cause (02, T-07)
unfoldable pub number_span : ℕ → Result Packed Fault → Result Span Misfit
number_span from (Err f) = unfit (Some f)
number_span from (Ok p) = stands from (p.next - from) p.next

-- so many octets of text, which are UTF-8 (02, T-01), and behind them a zero; "the zero of U [isn't] part of a leaf"
unfoldable pub text_at : ℕ → List ℕ → ℕ → Result Span Misfit
text_at size part from =
    cond (ltb (from + size) (length part))
    (cond (is_utf8 (take size (drop from part))) (stands from size (from + size + 1)) (unfit None)) (unfit None)

-- "d and t carry a 16-bit little-endian length of their contents"; "lengths ... aren't part of a leaf"
unfoldable pub counted_at : List ℕ → ℕ → Result Span Misfit
counted_at part from =
    cond (ltb (length part - from) 2) (unfit None)
    (cond (ltb (length part - (from + 2)) (le_at part from 2)) (unfit None)
    (stands (from + 2) (le_at part from 2) (from + 2 + le_at part from 2)))

unfoldable pub span_of : Value → List ℕ → ℕ → Result Span Misfit
span_of value.Bool part from = bool_at part from
span_of (value.Fixed width) part from = fixed_at width part from
span_of value.Packed part from = number_span from (packed_at part from)
span_of value.Text part from = text_at (before 0 (drop from part)) part from
span_of value.Counted part from = counted_at part from

-- "D and A run to the end of the enclosing part"
abbrev pub rest_of : List ℕ → ℕ → Span
rest_of part from = record { start = from; size = length part - from; next = length part }
