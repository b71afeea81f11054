-- What a tree reads in a payload (01, Type strings).
use Rattle.std.specs.Prelude.{cond, Option, None, Result, Ok, Err, List, [], ◌∷◌, ◌++◌, ℕ, zero, suc, ◌+◌, ◌-◌, ◌≤◌, eqb, ltb, length, take}
use Rattle.octets.specs.Runs.{each}
use Rattle.packed.specs.declared.Fault.{Fault}
use Rattle.typestring.specs.Grammar.{Item, Items, value, rest, struct, array, end, more}
use Rattle.datatype.specs.declared.leaf.Span.{Span}
use Rattle.datatype.specs.declared.leaf.Misfit.{Misfit}
use Rattle.datatype.specs.Leaf.{span_of, counted_at, rest_of}

-- "three a leaf: ASCII letter code, start in the payload, length"
pub record Leaf : Type 0 where
  pub letter : ℕ
  pub start : ℕ
  pub size : ℕ

abbrev pub leaf_of : ℕ → ℕ → ℕ → Leaf
leaf_of c s n = record { letter = c; start = s; size = n }

-- the numbers of leaves, in order
unfoldable pub numbers : List Leaf → List ℕ
numbers = each (λ leaf. leaf.letter ∷ leaf.start ∷ leaf.size ∷ [])

-- leaves that stand one behind the other, from a place up to another
abbrev pub InOrder : ℕ → List Leaf → ℕ → Type 0
InOrder from [] stop = from ≤ stop
InOrder from (leaf ∷ ls) stop = (from ≤ leaf.start) × InOrder (leaf.start + leaf.size) ls stop

-- the payload does not fit, with the cause of the first fault, or the place reached and the leaves up to it
pub data Reading : Type 0 where
  misfit : Option Fault → Reading
  upto : ℕ → List Leaf → Reading

unfoldable pub prefixed : List Leaf → Reading → Reading
prefixed ls (misfit w) = misfit w
prefixed ls (upto p ms) = upto p (ls ++ ms)

-- one reading, and another from where it stopped
unfoldable pub and_then : Reading → (ℕ → Reading) → Reading
and_then (misfit w) go = misfit w
and_then (upto p ls) go = prefixed ls (go p)

-- "A reading consumes everything, inside each t too": it stops at the part's end
unfoldable pub filling : ℕ → Reading → Reading
filling stop (misfit w) = misfit w
filling stop (upto p ls) = cond (eqb p stop) (upto p ls) (misfit None)

-- a value that stands in the payload is a leaf
unfoldable pub leaf_reads : ℕ → Result Span Misfit → Reading
leaf_reads letter (Err m) = misfit m.cause
leaf_reads letter (Ok s) = upto s.next (leaf_of letter s.start s.size ∷ [])

-- the contents of a t, `go` being how they are read from a start to an end
unfoldable pub contents : Result Span Misfit → (ℕ → ℕ → Reading) → Reading
contents (Err m) go = misfit m.cause
contents (Ok s) go = filling s.next (go s.start s.next)

-- elements up to a place; the first number bounds them, and the octets there are enough, as no element takes none
unfoldable pub elements : ℕ → (ℕ → Reading) → ℕ → ℕ → Reading
elements zero go from stop = upto from []
elements (suc n) go from stop = cond (ltb from stop) (and_then (go from) (λ p. elements n go p stop)) (upto from [])

-- what an item, and the items of a part, read from a place on: "D and A run to the end of the enclosing part"
unfoldable mutual
  pub item_reads : Item → List ℕ → ℕ → Reading
  item_reads (value letter v) part from = leaf_reads letter (span_of v part from)
  item_reads rest part from = leaf_reads 68 (Ok (rest_of part from))
  item_reads (struct t) part from = contents (counted_at part from) (λ start stop. part_reads t (take stop part) start)
  item_reads (array t) part from = elements (length part - from) (λ p. part_reads t part p) from (length part)

  pub part_reads : Items → List ℕ → ℕ → Reading
  part_reads end part from = upto from []
  part_reads (more i t) part from = and_then (item_reads i part from) (λ p. part_reads t part p)
