-- Laws of printed trees.
use mathlib.Core.Path.{◌≡◌, refl}
use mathlib.Core.Bool.{Bool, true, false}
use mathlib.Core.List.{List, [], ◌∷◌, ◌++◌}
use Prim.Native.Nat.{ℕ}
use borrow.Author.Tests.{ne_eqb}
use Rattle.octets.proofs.LawsTests.{impossible}
use Rattle.typestring.specs.declared.kind.Value.{Value}
use Rattle.typestring.specs.declared.kind.ItemKind.TheVariants as kind
use Rattle.std.specs.Prelude.{Some, None}
use Rattle.typestring.specs.Kind.{kind_of}
use Rattle.typestring.specs.Grammar.{Item, Items, value, rest, struct, array, end, more, print_item, ItemRules, PartRules}
use Rattle.typestring.specs.Parse.{ends_part}

pub bracket_shut : (r : List ℕ) → ends_part (41 ∷ r) ≡ true
unfolding ends_part
bracket_shut r = refl

pub end_shut : ends_part [] ≡ true
unfolding ends_part
end_shut = refl

-- a letter is no bracket
pub no_bracket : (letter b : ℕ) (v : Value) → kind_of letter ≡ Some (kind.Value v) → kind_of b ≡ None → letter ≡ b → ⊥
no_bracket letter b v k o e = impossible cc

-- no part ends where an item stands
pub item_open : (i : Item) (left : ℕ) (in_array : Bool) (r : List ℕ) → ItemRules i left in_array → ends_part (print_item i ++ r) ≡ false
unfolding ends_part print_item ItemRules kind_of
item_open (value c v) left in_array r k = ne_eqb c 41 (no_bracket c 41 v k refl)
item_open rest left in_array r k = refl
item_open (struct t) left in_array r k = refl
item_open (array t) left in_array r k = refl

-- what may stand directly inside A(..) may stand anywhere
pub relax : (t : Items) (left : ℕ) → PartRules t left true → PartRules t left false
unfolding PartRules
relax end left k = tt
relax (more i t) left k = (relax_item i left k.0, k.1, relax t left k.2)
  where
    relax_item : (i : Item) (left : ℕ) → ItemRules i left true → ItemRules i left false
    relax_item (value c v) left k = k
    relax_item rest left k = refl
    relax_item (struct t) left k = k
    relax_item (array t) left k = (refl, k.1, k.2, k.3)
