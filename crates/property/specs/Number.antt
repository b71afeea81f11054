-- 01, The property table: the numbers.
use Rattle.std.specs.Prelude.{ℕ, ◌^◌, ◌-◌, Bool, true, false, cond, List, [], ◌∷◌, map, ltb, leb, get_or}
use Rattle.property.specs.declared.number.Number.{Number}
use Rattle.property.specs.declared.status.Status.TheVariants.{Ok, InvalidArgument, ParseError}

-- "a bool not 00 or 01: 9"
abbrev pub bool : Number
bool = record { width = 1; low = 0; high = 1; top = 255; outside = ParseError; default = 0 }

-- a number of so many octets, from low to high: "value out of range: 3"
abbrev pub number : ℕ → ℕ → ℕ → ℕ → Number
number width low high default = record { width = width; low = low; high = high; top = 256 ^ width - 1; outside = InvalidArgument; default = default }

-- how many of the table's values a link holds as plain numbers, each in a slot
abbrev pub slot_count : ℕ
slot_count = 9

-- by slot, each with its property
abbrev pub entries : List (ℕ × Number)
entries =
    (32, bool) ∷  -- PHY enabled
    (33, number 1 11 26 11) ∷  -- channel
    (37, number 1 216 8 0) ∷  -- transmit power, -40 to 8 (proofs/SignedRange.antt)
    (54, number 2 0 65535 65535) ∷  -- PAN id
    (65, bool) ∷  -- interface up
    (66, bool) ∷  -- stack up
    (94, number 1 0 255 0) ∷  -- Thread mode
    (5376, number 4 0 4294967295 240) ∷  -- child timeout
    (5377, number 2 0 65535 65534) ∷  -- RLOC16
    []

unfoldable pub numbers : List Number
numbers = map (λ e. e.1) entries

unfoldable pub ids : List ℕ
ids = map (λ e. e.0) entries

-- 7 power state
abbrev pub power_state : Number
power_state = number 1 0 4 4

-- the value past the end of the numbers
abbrev pub no_number : Number
no_number = record { width = 0; low = 0; high = 0; top = 0; outside = Ok; default = 0 }

abbrev pub number_at : ℕ → Number
number_at slot = get_or numbers slot no_number

-- the slots of "65 interface up" and "66 stack up"
abbrev pub interface_up : ℕ
interface_up = 4

abbrev pub stack_up : ℕ
stack_up = 5

-- from low to high; where low is above high, from low over the top of the width to high
unfoldable pub within : Number → ℕ → Bool
within n v =
    cond (ltb n.top v) false
    (cond (leb n.low n.high) (cond (ltb v n.low) false (leb v n.high))
    (cond (leb v n.high) true (leb n.low v)))
