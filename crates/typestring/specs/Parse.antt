-- The tree of a type string, found from the left (01, Type strings). That it is the grammar's is proved: proofs/Grammatical.antt.
use Rattle.std.specs.Prelude.{Bool, true, false, cond, Option, Some, None, List, [], ◌∷◌, ℕ, zero, suc, eqb, ltb, length}
use Rattle.typestring.specs.declared.kind.ItemKind.{ItemKind}
use Rattle.typestring.specs.declared.kind.ItemKind.TheVariants as kind
use Rattle.typestring.specs.Kind.{kind_of}
use Rattle.typestring.specs.Grammar.{Item, Items, value, rest, struct, array, end, more, final, max_open, max_octets}

-- items, or one item, with the octets that follow; or neither
pub data Parsed : Type 0 where
  malformed : Parsed
  parsed : Items → List ℕ → Parsed

pub data Head : Type 0 where
  no_item : Head
  one : Item → List ℕ → Head

-- a part ends at a closing bracket or at the string's end
unfoldable pub ends_part : List ℕ → Bool
ends_part [] = true
ends_part (c ∷ s) = eqb c 41

-- a part in brackets, with the closing one passed
unfoldable pub passed : Parsed → Parsed
passed malformed = malformed
passed (parsed t []) = malformed
passed (parsed t (c ∷ s)) = parsed t s

-- the brackets behind a t or an A, `part` being how a part is parsed
unfoldable pub inside : (ℕ → Bool → List ℕ → Parsed) → ℕ → Bool → List ℕ → Parsed
inside part zero in_array s = malformed
inside part (suc left) in_array [] = malformed
inside part (suc left) in_array (c ∷ s) = cond (eqb c 40) (cond (ends_part s) malformed (passed (part left in_array s))) malformed

-- a part in brackets as the item of its t or A
unfoldable pub headed : (Items → Item) → Parsed → Head
headed item malformed = no_item
headed item (parsed t s) = one (item t) s

-- the item of a letter of some kind, with what follows the letter
unfoldable pub item_of : (ℕ → Bool → List ℕ → Parsed) → Option ItemKind → ℕ → ℕ → Bool → List ℕ → Head
item_of part (Some (kind.Value v)) letter left in_array s = one (value letter v) s
item_of part (Some kind.Rest) letter left in_array s = cond in_array no_item (one rest s)
item_of part (Some kind.Struct) letter left in_array s = headed struct (inside part left false s)
item_of part (Some kind.Array) letter left in_array s = cond in_array no_item (headed array (inside part left true s))
item_of part None letter left in_array s = no_item

-- the item at the front of a string
unfoldable pub item_in : (ℕ → Bool → List ℕ → Parsed) → ℕ → Bool → List ℕ → Head
item_in part left in_array [] = no_item
item_in part left in_array (c ∷ s) = item_of part (kind_of c) c left in_array s

-- an item in front of those after it
unfoldable pub joined : Item → Parsed → Parsed
joined i malformed = malformed
joined i (parsed t s) = parsed (more i t) s

-- what follows an item: a final one ends the part
unfoldable pub follow : (List ℕ → Parsed) → Head → Parsed
follow part no_item = malformed
follow part (one i s) = cond (final i) (cond (ends_part s) (parsed (more i end) s) malformed) (joined i (part s))

-- a part; the first number bounds how often items are asked for, and one more than the octets is enough
unfoldable pub part_in : ℕ → ℕ → Bool → List ℕ → Parsed
part_in zero left in_array s = malformed
part_in (suc n) left in_array s = cond (ends_part s) (parsed end s) (follow (part_in n left in_array) (item_in (part_in n) left in_array s))

unfoldable pub part_at : ℕ → Bool → List ℕ → Parsed
part_at left in_array s = part_in (suc (length s)) left in_array s

unfoldable pub item_at : ℕ → Bool → List ℕ → Head
item_at left in_array s = item_in part_at left in_array s

-- a part that is the whole string
unfoldable pub whole : Parsed → Parsed
whole malformed = malformed
whole (parsed t []) = parsed t []
whole (parsed t (c ∷ s)) = malformed

-- "A string has at most 64 octets"
unfoldable pub type_of : List ℕ → Parsed
type_of types = cond (ltb max_octets (length types)) malformed (whole (part_at max_open false types))

abbrev pub is_type : Parsed → Bool
is_type malformed = false
is_type (parsed t s) = true
