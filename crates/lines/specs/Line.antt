-- A body as a line of text (01, Bodies and their replies): "in lower-case hex, a space between octets, one line each".
use Rattle.std.specs.Prelude.{cond, List, [], ◌∷◌, ◌++◌, ℕ, ◌/◌, ◌%◌, eqb, length, get_or}

-- 0 to 9 and a to f
abbrev pub digits : List ℕ
digits =
    0x30 ∷ 0x31 ∷ 0x32 ∷ 0x33 ∷ 0x34 ∷ 0x35 ∷ 0x36 ∷ 0x37 ∷ 0x38 ∷ 0x39 ∷ 0x61 ∷ 0x62 ∷ 0x63 ∷ 0x64 ∷ 0x65 ∷ 0x66 ∷ []

-- behind an octet a space, and behind the last, where none is left, the end of the line
abbrev pub separator : ℕ → ℕ
separator left = cond (eqb left 0) 0x0a 0x20

abbrev pub shown : ℕ → ℕ → List ℕ
shown x left = get_or digits (x / 16) 0 ∷ get_or digits (x % 16) 0 ∷ separator left ∷ []

-- each octet of a body so, end to end; of no octets, nothing
unfoldable pub line_of : List ℕ → List ℕ
line_of [] = []
line_of (x ∷ xs) = shown x (length xs) ++ line_of xs
