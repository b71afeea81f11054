-- Characters as octets: RFC 3629, section 3.
use Rattle.std.specs.Prelude.{Bool, true, cond, ◌||◌, List, [], ◌∷◌, ◌≡◌, ℕ, zero, suc, ◌+◌, ◌-◌, ◌*◌, ◌/◌, ◌%◌, leb, get_or, take}
use Rattle.octets.specs.Ranges.{is_between}
use Rattle.octets.specs.Runs.{each}

-- a scalar value, the number of a character: 0 to 10FFFF without D800 to DFFF
unfoldable pub is_scalar : ℕ → Bool
is_scalar c = is_between 0x0000 0xD7FF c || is_between 0xE000 0x10FFFF c

-- 10xxxxxx: an octet with the six low bits of a number
abbrev pub six_bits : ℕ → ℕ
six_bits n = 0x80 + n % 64

-- a number's bits, filled in from the lowest on: six in each of so many tails, from the last to the first, and the others in the first octet,
-- behind its leading bits; then the octets that follow
abbrev pub filled : ℕ → ℕ → ℕ → List ℕ → List ℕ
filled bits zero c xs = (bits + c) ∷ xs
filled bits (suc n) c xs = filled bits n (c / 64) (six_bits c ∷ xs)

-- the table's four ranges of numbers; the last ends at 10FFFF, since no scalar value is above
unfoldable pub octets_of : ℕ → List ℕ
octets_of c =
    cond (leb c 0x7F) (c ∷ [])  -- 0xxxxxxx
    (cond (leb c 0x7FF) (filled 0xC0 1 c [])  -- 110xxxxx 10xxxxxx
    (cond (leb c 0xFFFF) (filled 0xE0 2 c [])  -- 1110xxxx 10xxxxxx 10xxxxxx
    (filled 0xF0 3 c [])))  -- 11110xxx 10xxxxxx 10xxxxxx 10xxxxxx

-- ---- and back: a first octet's leading bits tell how many tails are its own, and the other bits, end to end, are the number

abbrev pub with_tails : ℕ → List ℕ → ℕ
with_tails n [] = n
with_tails n (y ∷ ys) = with_tails (n * 64 + (y - 0x80)) ys

-- the number of the character at the front
unfoldable pub character_at : List ℕ → ℕ
character_at [] = 0
character_at (x ∷ ys) =
    cond (leb x 0x7F) x
    (cond (leb x 0xDF) (with_tails (x - 0xC0) (take 1 ys)) (cond (leb x 0xEF) (with_tails (x - 0xE0) (take 2 ys)) (with_tails (x - 0xF0) (take 3 ys))))

-- ---- lists of characters

abbrev pub Scalars : List ℕ → Type 0
Scalars cs = (k : ℕ) → is_scalar (get_or cs k 0) ≡ true

abbrev pub encoded : List ℕ → List ℕ
encoded cs = each octets_of cs

-- the characters that octets stand for
pub record Decoded (xs : List ℕ) : Type 0 where
  pub characters : List ℕ
  pub scalars : Scalars characters
  pub octets : xs ≡ encoded characters
