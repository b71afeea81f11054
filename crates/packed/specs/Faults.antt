-- Why octets are no packed integer (02, T-07): the three faults by the octets from a place on, without a reader; and that a shorter spelling
-- exists, by what is written and read.
use Rattle.std.specs.Prelude.{List, [], ◌∷◌, ◌≡◌, ℕ, suc, ◌+◌, ◌*◌, ◌%◌, ◌<◌, ◌≤◌, length, get_or, take, drop}
use Rattle.packed.specs.Packed.{packed, packed_at, read}

-- at a place there is an octet that has the top bit set, or one that is 0
pub record TopBit (xs : List ℕ) (at : ℕ) : Type 0 where
  pub there : at < length xs
  pub top : 128 ≤ get_or xs at 0

pub record IsZero (xs : List ℕ) (at : ℕ) : Type 0 where
  pub there : at < length xs
  pub octet : get_or xs at 0 ≡ 0

-- "the octets ran out (no octet, or one or two that all have the top bit set)"
pub data RunsOut (xs : List ℕ) (at : ℕ) : Type 0 where
  no_octet : length xs ≤ at → RunsOut xs at
  only_one : length xs ≡ at + 1 → TopBit xs at → RunsOut xs at
  only_two : length xs ≡ at + 2 → TopBit xs at → TopBit xs (at + 1) → RunsOut xs at

-- "a third octet still had its top bit set"
pub record GoesOn (xs : List ℕ) (at : ℕ) : Type 0 where
  pub first : TopBit xs at
  pub second : TopBit xs (at + 1)
  pub third : TopBit xs (at + 2)

-- the last octet is 0, and it is not the first
pub data EndsInZero (xs : List ℕ) (at : ℕ) : Type 0 where
  in_second : TopBit xs at → IsZero xs (at + 1) → EndsInZero xs at
  in_third : TopBit xs at → TopBit xs (at + 1) → IsZero xs (at + 2) → EndsInZero xs at

-- the number that octets stand for: "Seven bits an octet, least significant first"
unfoldable pub sevens : List ℕ → ℕ
sevens [] = 0
sevens (x ∷ xs) = x % 128 + 128 * sevens xs

-- "a shorter spelling exists": some octets stand there, three at most, with the "top bit set on all but the last"; they stand for a number;
-- and what is written for that number, which is read as that number, has fewer octets
pub record HasShorter (xs : List ℕ) (at : ℕ) : Type 0 where
  pub more : ℕ
  pub most : more ≤ 2
  pub tops : (i : ℕ) → i < more → TopBit xs (at + i)
  pub there : at + more < length xs
  pub last : get_or xs (at + more) 0 < 128
  pub number : ℕ
  pub stands : sevens (take (suc more) (drop at xs)) ≡ number
  pub reads : packed_at (packed number) 0 ≡ read number (length (packed number))
  pub fewer : length (packed number) < suc more
