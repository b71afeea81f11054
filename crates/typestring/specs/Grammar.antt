-- The grammar of type strings, over trees (01, Type strings). A string is well-formed if it is the print of a tree that keeps the rules.
use Rattle.std.specs.Prelude.{Bool, true, false, Some, List, [], ◌∷◌, ◌++◌, ◌≡◌, ℕ, ◌-◌, ◌<◌, ◌≤◌, length}
use Rattle.typestring.specs.declared.kind.Value.{Value}
use Rattle.typestring.specs.declared.kind.ItemKind.TheVariants as kind
use Rattle.typestring.specs.Kind.{kind_of}

mutual
  -- a letter with what it stands for, D, t(..) or A(..)
  pub data Item : Type 0 where
    value : ℕ → Value → Item
    rest : Item
    struct : Items → Item
    array : Items → Item

  -- the items of one part: the whole string, or what stands in a pair of brackets
  pub data Items : Type 0 where
    end : Items
    more : Item → Items → Items

-- how a tree is written: "t(...) and A(...)"
unfoldable mutual
  pub print_item : Item → List ℕ
  print_item (value letter v) = letter ∷ []
  print_item rest = 68 ∷ []
  print_item (struct t) = 116 ∷ 40 ∷ (print t ++ 41 ∷ [])
  print_item (array t) = 65 ∷ 40 ∷ (print t ++ 41 ∷ [])

  pub print : Items → List ℕ
  print end = []
  print (more i t) = print_item i ++ print t

-- "D and A run to the end of the enclosing part"
abbrev pub final : Item → Bool
final (value letter v) = false
final rest = true
final (struct t) = false
final (array t) = true

abbrev pub HasItem : Items → Type 0
HasItem end = ⊥
HasItem (more i t) = Unit {0}

-- The rules of an item and of a part. The number is how many brackets more may be opened, and the Bool tells a part that stands directly
-- inside A(...).
unfoldable mutual
  pub ItemRules : Item → ℕ → Bool → Type 0
  -- "all of them these letters and brackets"
  ItemRules (value letter v) left in_array = kind_of letter ≡ Some (kind.Value v)
  -- "Directly inside A(...) there is no D and no A"
  ItemRules rest left in_array = in_array ≡ false
  -- "Brackets hold at least one item and at most four are open at once"
  ItemRules (struct t) left in_array = (0 < left) × HasItem t × PartRules t (left - 1) false
  ItemRules (array t) left in_array = (in_array ≡ false) × (0 < left) × HasItem t × PartRules t (left - 1) true

  pub PartRules : Items → ℕ → Bool → Type 0
  PartRules end left in_array = Unit {0}
  -- D and A "must stand last in it"
  PartRules (more i t) left in_array = ItemRules i left in_array × (final i ≡ true → t ≡ end) × PartRules t left in_array

-- "at most four are open at once"
abbrev pub max_open : ℕ
max_open = 4

-- "A string has at most 64 octets"
abbrev pub max_octets : ℕ
max_octets = 64

-- a string of the grammar, with its tree
pub record TypeString (types : List ℕ) (tree : Items) : Type 0 where
  pub printed : print tree ≡ types
  pub rules : PartRules tree max_open false
  pub short : length types ≤ max_octets
