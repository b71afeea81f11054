-- Packed unsigned integers (01, Packed integers; 000, section 3.2), and why octets are none (02, T-07).
use Rattle.std.specs.Prelude.{ℕ, Result, Ok, Err, zero, suc, ◌+◌, ◌*◌, ◌-◌, ◌/◌, ◌%◌, cond, List, [], ◌∷◌, eqb, ltb, drop}
use Rattle.packed.specs.declared.Fault.{Fault}
use Rattle.packed.specs.declared.Fault.TheVariants.{RanOut, GoesOn, NotShortest}
use Rattle.packed.specs.declared.Packed.{Packed}

-- a number in at most `more` + 1 octets: seven bits an octet, least significant first, top bit set on all but the last, fewest octets
unfoldable pub packed_in : ℕ → ℕ → List ℕ
packed_in zero n = n ∷ []
packed_in (suc more) n = cond (ltb n 128) (n ∷ []) ((n % 128 + 128) ∷ packed_in more (n / 128))

-- "1 to 3 octets, 0 to 2,097,151"
abbrev pub max_packed : ℕ
max_packed = 2097151

unfoldable pub packed : ℕ → List ℕ
packed n = packed_in 2 n

-- a number that is read, and the place after it
abbrev pub read : ℕ → ℕ → Result Packed Fault
read n next = Ok (record { number = n; next = next })

-- `low` and, `scale` times, the number that the octets after it stand for; if that is 0, "a shorter spelling exists"
unfoldable pub joined : ℕ → ℕ → Result Packed Fault → Result Packed Fault
joined low scale (Err f) = Err f
joined low scale (Ok p) = cond (eqb p.number 0) (Err NotShortest) (read (low + scale * p.number) p.next)

-- the number in at most so many octets, which stand from a place on; none where there would be one more (of three: "a third octet still had
-- its top bit set"), or where "the octets ran out"
unfoldable pub number_in : ℕ → ℕ → List ℕ → Result Packed Fault
number_in zero at xs = Err GoesOn
number_in (suc most) at [] = Err RanOut
number_in (suc most) at (x ∷ xs) = cond (ltb x 128) (read x (at + 1)) (joined (x - 128) 128 (number_in most (at + 1) xs))

-- the packed integer at a place of a list
unfoldable pub packed_at : List ℕ → ℕ → Result Packed Fault
packed_at xs at = number_in 3 at (drop at xs)
