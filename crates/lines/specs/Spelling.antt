-- What a text spells: octets of two hex digits each, in lower or upper case, with one space or none between two of them.
use Rattle.std.specs.Prelude.{◌≡◌, List, [], ◌∷◌, ℕ, ◌/◌, ◌%◌, ◌<◌, get_or}
use Rattle.lines.specs.Line.{digits}

abbrev pub space : ℕ
space = 0x20

abbrev pub line_end : ℕ
line_end = 0x0a

-- 0 to 9 and A to F
unfoldable pub capitals : List ℕ
capitals =
    0x30 ∷ 0x31 ∷ 0x32 ∷ 0x33 ∷ 0x34 ∷ 0x35 ∷ 0x36 ∷ 0x37 ∷ 0x38 ∷ 0x39 ∷ 0x41 ∷ 0x42 ∷ 0x43 ∷ 0x44 ∷ 0x45 ∷ 0x46 ∷ []

-- a letter that is the digit of a value
pub data Digit (c v : ℕ) : Type 0 where
  lower : v < 16 → get_or digits v 0 ≡ c → Digit c v
  upper : v < 16 → get_or capitals v 0 ≡ c → Digit c v

-- two letters that spell an octet: the digit of its sixteens, then that of its ones
pub record Two (h l x : ℕ) : Type 0 where
  pub high : Digit h (x / 16)
  pub low : Digit l (x % 16)

-- a text of no letters spells zero octets; an octet stands last, or the next one follows it, directly or behind one space
pub data Spells : List ℕ → List ℕ → Type 0 where
  none : Spells [] []
  last : {h l x : ℕ} → Two h l x → Spells (h ∷ l ∷ []) (x ∷ [])
  joined : {h l x y : ℕ} {text ys : List ℕ} → Two h l x → Spells text (y ∷ ys) → Spells (h ∷ l ∷ text) (x ∷ y ∷ ys)
  spaced : {h l x y : ℕ} {text ys : List ℕ} → Two h l x → Spells text (y ∷ ys) → Spells (h ∷ l ∷ space ∷ text) (x ∷ y ∷ ys)

-- octets that a text spells
pub record Spelled (text : List ℕ) : Type 0 where
  pub octets : List ℕ
  pub spells : Spells text octets
