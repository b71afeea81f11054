-- A line as it comes in, octet by octet, and the event that it is when it has ended.
use Rattle.std.specs.Prelude.{Bool, true, false, cond, Option, Some, None, List, [], ◌∷◌, ℕ, ◌+◌, eqb, ltb, length, get_or, set, take, drop, replicate}
use Rattle.octets.specs.Scanning.{all_below}
use Rattle.lines.specs.Reader.{Keeping, keeping, fresh as fresh_hex, reading, answer_of}
use Rattle.lines.specs.declared.reader.HexLine.{HexLine}
use Rattle.lines.specs.declared.reader.HexLine.TheVariants.{Octets, More}
use Rattle.transaction_script.specs.declared.event.Event.{Event}
use Rattle.transaction_script.specs.declared.event.Event.TheVariants.{Nothing, Body}
use Rattle.transaction_script.specs.declared.line.Line.{Line}
use Rattle.transaction_script.specs.Event.{starts_with, event_of}

-- `table 0008 0010 resetting` has 25 octets, and one more is kept
abbrev pub max_text : ℕ
max_text = 26

-- with the space behind it
abbrev pub body_word : List ℕ
body_word = 0x62 ∷ 0x6f ∷ 0x64 ∷ 0x79 ∷ 0x20 ∷ []

abbrev pub body_at : ℕ
body_at = 5

-- ---- octet by octet

-- a line with the space that is lent for its octets in hex
pub record Coming : Type 0 where
  pub line : Line
  pub space : List ℕ

abbrev pub coming : Line → List ℕ → Coming
coming l space = record { line = l; space = space }

abbrev pub fresh : Line
fresh = record { text = replicate max_text 0; len = 0; blank = true; hex = fresh_hex }

-- what is read as hex stands behind the first five octets
unfoldable pub hex_after : Coming → ℕ → Keeping
hex_after k c =
    cond (ltb k.line.len body_at) (keeping k.line.hex k.space) (reading (keeping k.line.hex k.space) (c ∷ []))

unfoldable pub text_after : Line → ℕ → List ℕ
text_after l c = cond (ltb l.len max_text) (set l.text l.len c) l.text

unfoldable pub len_after : Line → ℕ
len_after l = cond (ltb l.len max_text) (l.len + 1) l.len

unfoldable pub blank_after : Line → ℕ → Bool
blank_after l c = cond (eqb c 0x20) l.blank false

unfoldable pub taking : Coming → ℕ → Coming
taking k c =
    let h = hex_after k c in
    coming (record { text = text_after k.line c; len = len_after k.line; blank = blank_after k.line c; hex = h.reader }) h.out

-- ---- when it has ended

-- a body has one octet or more; of one longer than the space, as many octets as the space holds
abbrev pub body_event : Option HexLine → Option Event
body_event (Some (Octets count)) = cond (eqb count 0) None (Some (Body count))
body_event (Some (More count)) = Some (Body count)
body_event None = None

unfoldable pub event_at : Line → Option Event
event_at l =
    cond l.blank (Some Nothing)
    (cond (eqb (get_or l.text 0 0) 0x23) (Some Nothing)
    (cond (starts_with (take l.len l.text) body_word) (body_event (answer_of l.hex)) (event_of (take l.len l.text))))

-- ---- by its text alone

-- a line of spaces alone, or of nothing, and one that begins with `#` ask for nothing; what begins with `body ` is its octets in hex, by the
-- reader of such lines with a space of 1,301 octets
unfoldable pub is_blank : List ℕ → Bool
is_blank text = all_below (length text) (λ i. eqb (get_or text i 0) 0x20)

unfoldable pub event_in : List ℕ → List ℕ → Option Event
event_in text space =
    cond (is_blank text) (Some Nothing)
    (cond (eqb (get_or text 0 0) 0x23) (Some Nothing)
    (cond (starts_with text body_word) (body_event (answer_of (reading (keeping fresh_hex space) (drop body_at text)).reader)) (event_of text)))

unfoldable pub body_in : List ℕ → List ℕ → List ℕ
body_in text space = (reading (keeping fresh_hex space) (drop body_at text)).out
