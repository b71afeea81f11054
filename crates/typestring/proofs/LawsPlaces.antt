-- Trees that are printed at a place of a string: how a part begins, what an item's first octet tells, and what is in its brackets.
use mathlib.Core.Path.{◌≡◌, refl, sym, ap, ◌∙◌}
use mathlib.Core.Bool.{true, false}
use mathlib.Core.List.{List, [], ◌∷◌, ◌++◌, append_assoc}
use Prim.Native.Nat.{ℕ, ◌+◌, ◌-◌, ◌≤◌, ◌<◌}
use native.Mathlib.Omega.{arith}
use lib.ListN.{length, get_or, drop, length-append, length-drop}
use lib.Seq.{drop-append_seam, drop-drop}
use Rattle.octets.proofs.LawsLists.{front}
use Rattle.octets.proofs.LawsTests.{impossible}
use Rattle.typestring.specs.declared.kind.ItemKind.{ItemKind}
use Rattle.typestring.specs.declared.kind.ItemKind.TheVariants as kind
use Rattle.typestring.specs.declared.kind.Value.{Value}
use Rattle.std.specs.Prelude.{Some}
use Rattle.typestring.specs.Kind.{kind_of}
use Rattle.typestring.specs.Grammar.{Item, Items, value, rest, struct, array, end, more, print, print_item, HasItem, ItemRules, PartRules}
use Rattle.typestring.specs.Parse.{ends_part}
use Rattle.typestring.specs.Calls.{PartFrom, ItemFrom}
use Rattle.typestring.proofs.LawsGrammar.{item_open, relax, bracket_shut}

-- ---- parts

-- where a part ends it has no items
pub part_ended : (s : List ℕ) (depth : ℕ) (t : Items) → ends_part s ≡ true → PartFrom s depth t → t ≡ end
unfolding print PartRules
part_ended s depth end shut w = refl
part_ended s depth (more i t) shut w =
    let e : s ≡ print_item i ++ (print t ++ w.behind) = w.printed ∙ append_assoc (print_item i) (print t) w.behind in
    let going : ends_part s ≡ false = rw e (item_open i depth false (print t ++ w.behind) w.rules.0) in
    impossible cc

-- elsewhere it has an item, and what is left of the part behind it
pub part_item : (s : List ℕ) (depth : ℕ) (t : Items) → ends_part s ≡ false → PartFrom s depth t
    → (i : Item) × (u : Items) × (t ≡ more i u) × ItemFrom s depth i × PartFrom (drop (length (print_item i)) s) depth u
unfolding print PartRules
part_item s depth end going w = impossible (cc (w.printed, w.ends))
part_item s depth (more i u) going w =
    let e : s ≡ print_item i ++ (print u ++ w.behind) = w.printed ∙ append_assoc (print_item i) (print u) w.behind in (
      i,
      u,
      refl,
      record { behind = print u ++ w.behind; printed = e; rules = w.rules.0 },
      record { behind = w.behind; printed = rw e (drop-append_seam (print_item i) (print u ++ w.behind)); rules = w.rules.2; ends = w.ends },
    )

-- an item's kind
abbrev pub kind_is : Item → ItemKind
kind_is (value c v) = kind.Value v
kind_is rest = kind.Rest
kind_is (struct t) = kind.Struct
kind_is (array t) = kind.Array

-- the first octet of an item is in the string, and tells its kind
pub item_first : (types : List ℕ) (at depth : ℕ) (i : Item) → ItemFrom (drop at types) depth i → (kind_of (get_or types at 0) ≡ Some (kind_is i)) × (at < length types)
unfolding kind_of print_item ItemRules
item_first types at depth (value c v) w = let h = front types at c w.behind w.printed in (ap kind_of h.0 ∙ w.rules, h.1)
item_first types at depth rest w = let h = front types at 68 w.behind w.printed in (ap kind_of h.0, h.1)
item_first types at depth (struct t) w = let h = front types at 116 _ w.printed in (ap kind_of h.0, h.1)
item_first types at depth (array t) w = let h = front types at 65 _ w.printed in (ap kind_of h.0, h.1)

same_letter : (types : List ℕ) (at depth : ℕ) (c : ℕ) (v : Value) → ItemFrom (drop at types) depth (value c v) → get_or types at 0 ≡ c
unfolding print_item
same_letter types at depth c v w = (front types at c w.behind w.printed).0

-- the part in the brackets of t and A
pub inner_printed : (types : List ℕ) (at c : ℕ) (t : Items) (behind : List ℕ) → drop at types ≡ (c ∷ 40 ∷ (print t ++ 41 ∷ [])) ++ behind
    → drop (at + 2) types ≡ print t ++ 41 ∷ behind
inner_printed types at c t behind e = sym (drop-drop 2 at types) ∙ ap (drop 2) e ∙ append_assoc (print t) (41 ∷ []) behind

inner_part : (types : List ℕ) (at depth c : ℕ) (t : Items) (behind : List ℕ) → drop at types ≡ (c ∷ 40 ∷ (print t ++ 41 ∷ [])) ++ behind
    → PartRules t depth false → PartFrom (drop (at + 2) types) depth t
inner_part types at depth c t behind e k =
    record {
      behind = 41 ∷ behind;
      printed = inner_printed types at c t behind e;
      rules = k;
      ends = bracket_shut behind;
    }

pub struct_inner : (types : List ℕ) (at depth : ℕ) (t : Items) → ItemFrom (drop at types) depth (struct t)
    → (0 < depth) × (at + 2 ≤ length types) × PartFrom (drop (at + 2) types) (depth - 1) t
unfolding print_item ItemRules
struct_inner types at depth t w =
    (w.rules.0, omega (arith, length-drop at types, ap length w.printed), inner_part types at (depth - 1) 116 t w.behind w.printed w.rules.2)

pub array_inner : (types : List ℕ) (at depth : ℕ) (t : Items) → ItemFrom (drop at types) depth (array t)
    → (0 < depth) × (at + 2 ≤ length types) × PartFrom (drop (at + 2) types) (depth - 1) t × PartRules t (depth - 1) true × HasItem t
unfolding print_item ItemRules
array_inner types at depth t w = (
  w.rules.1,
  omega (arith, length-drop at types, ap length w.printed),
  inner_part types at (depth - 1) 65 t w.behind w.printed (relax t (depth - 1) w.rules.3),
  w.rules.3,
  w.rules.2,
)

-- an item has octets, all of them in the string
pub item_place : (types : List ℕ) (at depth : ℕ) (i : Item) → ItemFrom (drop at types) depth i
    → (0 < length (print_item i)) × (at + length (print_item i) ≤ length types)
unfolding print_item
item_place types at depth i w =
    (some i, omega (arith, (item_first types at depth i w).1, length-drop at types, length-append (print_item i) w.behind, ap length w.printed))
  where
    some : (i : Item) → 0 < length (print_item i)
    some (value c v) = omega arith
    some rest = omega arith
    some (struct t) = omega arith
    some (array t) = omega arith

-- ---- items by the kind of their letter

module _ (types : List ℕ) (at depth : ℕ) where
  -- a letter of one kind stands at no item of another
  unlike : {P : Type 0} (i : Item) (j : ItemKind) → ItemFrom (drop at types) depth i → kind_of (get_or types at 0) ≡ Some j → (kind_is i ≡ j → ◌≡◌ {A = ℕ} 0 1) → P
  unlike i j w e clash = absurd (omega (arith, clash (let same : kind_is i ≡ j = cc (sym (item_first types at depth i w).0 ∙ e) in same)))

  pub is_struct : (i : Item) → ItemFrom (drop at types) depth i → kind_of (get_or types at 0) ≡ Some kind.Struct → (t : Items) × (i ≡ struct t)
  is_struct (struct t) w e = (t, refl)
  is_struct (value c v) w e = unlike (value c v) kind.Struct w e (λ f. cc)
  is_struct rest w e = unlike rest kind.Struct w e (λ f. cc)
  is_struct (array t) w e = unlike (array t) kind.Struct w e (λ f. cc)

  pub is_array : (i : Item) → ItemFrom (drop at types) depth i → kind_of (get_or types at 0) ≡ Some kind.Array → (t : Items) × (i ≡ array t)
  is_array (array t) w e = (t, refl)
  is_array (value c v) w e = unlike (value c v) kind.Array w e (λ f. cc)
  is_array rest w e = unlike rest kind.Array w e (λ f. cc)
  is_array (struct t) w e = unlike (struct t) kind.Array w e (λ f. cc)

  pub is_value : (i : Item) (v : Value) → ItemFrom (drop at types) depth i → kind_of (get_or types at 0) ≡ Some (kind.Value v) → i ≡ value (get_or types at 0) v
  is_value (value c u) v w e =
      let same : u ≡ v = cc (item_first types at depth (value c u) w).0 in
      cc (same_letter types at depth c u w)
  is_value rest v w e = unlike rest (kind.Value v) w e (λ f. cc)
  is_value (struct t) v w e = unlike (struct t) (kind.Value v) w e (λ f. cc)
  is_value (array t) v w e = unlike (array t) (kind.Value v) w e (λ f. cc)
