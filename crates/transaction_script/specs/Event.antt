-- What a line asks for: the words of the script, letter by letter.
use Rattle.std.specs.Prelude.{Bool, true, false, cond, ◌&&◌, Option, Some, None, ℕ, ◌+◌, ◌-◌, ◌*◌, eqb, ltb, length, get_or, take, drop}
use Rattle.std.specs.Option.{option_or}
use mathlib.Core.List.{List, [], ◌∷◌, foldl}
use Rattle.octets.specs.Comparing.{common_front, is_same}
use Rattle.octets.specs.Ranges.{is_between}
use Rattle.lines.specs.Reader.{read_line}
use Rattle.lines.specs.declared.reader.HexLine.{HexLine}
use Rattle.lines.specs.declared.reader.HexLine.TheVariants.{Octets, More}
use Rattle.transaction_script.specs.declared.event.Event.{Event}
use Rattle.transaction_script.specs.declared.event.Event.TheVariants.{Open, Reset, GiveUp, Fresh, Put}

-- ---- the words

abbrev pub open_word : List ℕ
open_word = 0x6f ∷ 0x70 ∷ 0x65 ∷ 0x6e ∷ []

abbrev pub reset_word : List ℕ
reset_word = 0x72 ∷ 0x65 ∷ 0x73 ∷ 0x65 ∷ 0x74 ∷ []

abbrev pub fresh_word : List ℕ
fresh_word = 0x66 ∷ 0x72 ∷ 0x65 ∷ 0x73 ∷ 0x68 ∷ []

-- with the space behind them
abbrev pub give_up_words : List ℕ
give_up_words = 0x67 ∷ 0x69 ∷ 0x76 ∷ 0x65 ∷ 0x20 ∷ 0x75 ∷ 0x70 ∷ 0x20 ∷ []

abbrev pub table_word : List ℕ
table_word = 0x74 ∷ 0x61 ∷ 0x62 ∷ 0x6c ∷ 0x65 ∷ 0x20 ∷ []

abbrev pub steady_word : List ℕ
steady_word = 0x73 ∷ 0x74 ∷ 0x65 ∷ 0x61 ∷ 0x64 ∷ 0x79 ∷ []

abbrev pub resetting_word : List ℕ
resetting_word = 0x72 ∷ 0x65 ∷ 0x73 ∷ 0x65 ∷ 0x74 ∷ 0x74 ∷ 0x69 ∷ 0x6e ∷ 0x67 ∷ []

unfoldable pub starts_with : List ℕ → List ℕ → Bool
starts_with text word = eqb (common_front text word) (length word)

-- ---- numbers

-- a number with a digit more, if it is still at most 255; none stays none
unfoldable pub with_digit : ℕ → ℕ → Option ℕ
with_digit n c = cond (is_between 0x30 0x39 c) (cond (ltb 255 (n * 10 + (c - 0x30))) None (Some (n * 10 + (c - 0x30)))) None

abbrev pub digit_more : Option ℕ → ℕ → Option ℕ
digit_more (Some n) c = with_digit n c
digit_more None c = None

-- a decimal of 0 to 255 without leading zeros
unfoldable pub decimal_in : List ℕ → Option ℕ
decimal_in text =
    cond (eqb (length text) 0) None
    (cond (eqb (get_or text 0 0) 0x30 && ltb 1 (length text)) None (foldl digit_more (Some 0) text))

-- two octets in hex, the high one first
abbrev pub bits_of : Option HexLine → List ℕ → Option ℕ
bits_of (Some (Octets count)) xs = cond (eqb count 2) (Some (get_or xs 0 0 * 256 + get_or xs 1 0)) None
bits_of (Some (More count)) xs = None
bits_of None xs = None

unfoldable pub bits_in : List ℕ → Option ℕ
bits_in text = let o = read_line text (0 ∷ 0 ∷ []) in bits_of o.answer o.out

-- ---- events

abbrev pub give_up : Option ℕ → Option Event
give_up (Some n) = Some (GiveUp n)
give_up None = None

unfoldable pub give_up_event : List ℕ → Option Event
give_up_event text = give_up (decimal_in text)

-- the word behind two sets of bits
unfoldable pub resetting_in : List ℕ → Option Bool
resetting_in word = cond (is_same word steady_word) (Some false) (cond (is_same word resetting_word) (Some true) None)

abbrev pub put : Option ℕ → Option ℕ → Option Bool → Option Event
put (Some w) (Some g) (Some r) = Some (Put (record { waiting = w; given_up = g; resetting = r }))
put (Some w) (Some g) None = None
put (Some w) None r = None
put None g r = None

-- four digits, a space, four digits, a space, and the word
unfoldable pub table_event : List ℕ → Option Event
table_event text =
    cond (ltb (length text) 10) None
    (cond (eqb (get_or text 4 0) 0x20)
    (cond (eqb (get_or text 9 0) 0x20) (put (bits_in (take 4 text)) (bits_in (take 4 (drop 5 text))) (resetting_in (drop 10 text))) None)
    None)

-- of a line that is one word
unfoldable pub word_event : List ℕ → Option Event
word_event text =
    cond (is_same text open_word) (Some Open) (cond (is_same text reset_word) (Some Reset) (cond (is_same text fresh_word) (Some Fresh) None))

-- of a line whose first words have something behind them
unfoldable pub longer_event : List ℕ → Option Event
longer_event text =
    cond (starts_with text give_up_words) (give_up_event (drop 8 text))
    (cond (starts_with text table_word) (table_event (drop 6 text)) None)

-- of a line that is neither blank nor a comment nor a body; none where it is no event
unfoldable pub event_of : List ℕ → Option Event
event_of text = option_or (word_event text) (longer_event text)
