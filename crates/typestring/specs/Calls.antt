-- What the functions on type strings rely on and give.
use Rattle.std.specs.Prelude.{Bool, true, false, Option, Some, None, List, ◌∷◌, ◌++◌, ◌≡◌, ℕ, ◌+◌, ◌≤◌, ◌<◌, length, drop}
use Rattle.typestring.specs.declared.check.Step.{Step}
use Rattle.typestring.specs.declared.check.Step.TheVariants as step
use Rattle.typestring.specs.Grammar.{Item, Items, print, print_item, final, ItemRules, PartRules}
use Rattle.typestring.specs.Parse.{Parsed, malformed, parsed, Head, no_item, one, ends_part}

-- ---- the check

-- the part that was parsed from a place ends at the place found
abbrev pub Scanned : List ℕ → ℕ → Parsed → Option ℕ → Type 0
Scanned types at p None = p ≡ malformed
Scanned types at p (Some next) = (at ≤ next) × (next ≤ length types) × ((t : Items) × (p ≡ parsed t (drop next types)))

-- the item that was parsed at a place ends at the place found, and is final or not
abbrev pub Stepped : List ℕ → ℕ → Head → Option Step → Type 0
Stepped types at h None = h ≡ no_item
Stepped types at h (Some (step.Next next)) = (at < next) × (next ≤ length types) × ((i : Item) × (h ≡ one i (drop next types)) × (final i ≡ false))
Stepped types at h (Some (step.Last next)) = (at < next) × (next ≤ length types) × ((i : Item) × (h ≡ one i (drop next types)) × (final i ≡ true))

-- ---- places of a tree

-- a part's tree is printed at the front of a string, and there the part ends
pub record PartFrom (s : List ℕ) (depth : ℕ) (t : Items) : Type 0 where
  pub behind : List ℕ
  pub printed : s ≡ print t ++ behind
  pub rules : PartRules t depth false
  pub ends : ends_part behind ≡ true

-- an item's tree is printed at the front of a string
pub record ItemFrom (s : List ℕ) (depth : ℕ) (i : Item) : Type 0 where
  pub behind : List ℕ
  pub printed : s ≡ print_item i ++ behind
  pub rules : ItemRules i depth false

-- a part's tree is printed in brackets, the opening one passed
pub record InBrackets (s : List ℕ) (t : Items) : Type 0 where
  pub depth : ℕ
  pub in_array : Bool
  pub behind : List ℕ
  pub printed : s ≡ print t ++ 41 ∷ behind
  pub rules : PartRules t depth in_array

-- whatever item, or part in brackets, is printed at a place, it ends at another
abbrev pub EndsItem : List ℕ → ℕ → ℕ → Type 0
EndsItem s at next = (i : Item) (depth : ℕ) → ItemFrom s depth i → next ≡ at + length (print_item i)

abbrev pub EndsBrackets : List ℕ → ℕ → ℕ → Type 0
EndsBrackets s at next = (t : Items) → InBrackets s t → next ≡ at + length (print t) + 1
