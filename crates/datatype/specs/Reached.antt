-- Which item of a tree is reached at which place of a payload, everything before it fitting (02, T-07, "the first fault from the left").
use Rattle.std.specs.Prelude.{Err, List, ◌≡◌, ℕ, ◌<◌, ◌≤◌, length, take}
use Rattle.packed.specs.Packed.{packed_at}
use Rattle.packed.specs.declared.Fault.{Fault}
use Rattle.typestring.specs.Grammar.{Item, Items, value, struct, array, more}
use Rattle.typestring.specs.declared.kind.Value.TheVariants as value
use Rattle.datatype.specs.Leaf.{counted_at, stands}
use Rattle.datatype.specs.Reading.{Leaf, upto, item_reads, part_reads}

-- elements of an A fit one behind the other, from a place up to another
pub data Fit (t : Items) (part : List ℕ) : ℕ → ℕ → Type 0 where
  fit_none : {from : ℕ} → Fit t part from from
  fit_more : {from p q : ℕ} {ls : List Leaf} → from < length part → part_reads t part from ≡ upto p ls → Fit t part p q → Fit t part from q

-- an item stands at a place of a part, among the items that read a part from a place on
pub data Reached (x : Item) (inner : List ℕ) (place : ℕ) : Items → List ℕ → ℕ → Type 0 where
  -- it is the first of them
  here : {t : Items} → Reached x inner place (more x t) inner place
  -- or it stands behind one that fits,
  behind : {i : Item} {t : Items} {part : List ℕ} {from p : ℕ} {ls : List Leaf} → item_reads i part from ≡ upto p ls
      → Reached x inner place t part p → Reached x inner place (more i t) part from
  -- in a t that does not overrun its part,
  in_struct : {u t : Items} {part : List ℕ} {from start size next : ℕ} → counted_at part from ≡ stands start size next
      → Reached x inner place u (take next part) start → Reached x inner place (more (struct u) t) part from
  -- or in an A, behind elements that fit
  in_array : {u t : Items} {part : List ℕ} {from q : ℕ} → Fit u part from q → q < length part
      → Reached x inner place u part q → Reached x inner place (more (array u) t) part from

-- the first fault in a payload is that of a packed integer: of an i, at a place of a part, which is the payload up to the part's end
pub record IntegerFault (t : Items) (payload : List ℕ) (f : Fault) : Type 0 where
  pub stop : ℕ
  pub place : ℕ
  pub within : stop ≤ length payload
  pub inside : place ≤ stop
  pub reached : Reached (value 105 value.Packed) (take stop payload) place t payload 0
  pub fault : packed_at (take stop payload) place ≡ Err f
