-- PROMISE: the strings that are accepted are those of the grammar. Whatever tree is found prints to the string and keeps the rules; and
-- every tree that keeps them and prints in at most 64 octets is found.
use mathlib.Core.Path.{◌≡◌, refl, sym, ap, ◌∙◌}
use mathlib.Core.Bool.{Bool, true, false}
use mathlib.Core.List.{List, [], ◌∷◌, ◌++◌, append_assoc, append-nil}
use Prim.Native.Nat.{ℕ, zero, suc, ◌-◌, ◌<◌, ◌≤◌}
use native.Mathlib.Omega.{arith}
use borrow.Author.Tests.{eqb-true, ltb-false, le-ltb}
use lib.Dec.{eqb, ltb}
use lib.ListN.{length}
use Rattle.octets.proofs.LawsTests.{by_test, impossible}
use Rattle.typestring.specs.declared.kind.ItemKind.{ItemKind}
use Rattle.typestring.specs.declared.kind.ItemKind.TheVariants as kind
use Rattle.std.specs.Prelude.{Option, Some, None}
use Rattle.typestring.specs.Kind.{kind_of}
use Rattle.typestring.specs.Grammar.{Item, Items, value, rest, struct, array, end, more, print, print_item, final, HasItem, ItemRules, PartRules, TypeString, max_open, max_octets}
use Rattle.typestring.specs.Parse.{Parsed, malformed, parsed, Head, no_item, one, ends_part, passed, inside, headed, item_of, item_in, joined, follow, part_in, part_at, item_at, whole, type_of, is_type}
use Rattle.typestring.proofs.LawsKinds.{letter_of}
use Rattle.typestring.proofs.LawsGrammar.{bracket_shut, end_shut, item_open}
use Rattle.typestring.proofs.LawsParse.{part_step}

-- ---- sound

-- what a part that was found says of the octets
abbrev PartIs : ℕ → Bool → List ℕ → Items → List ℕ → Type 0
PartIs left a s t r = (s ≡ print t ++ r) × PartRules t left a × (ends_part r ≡ true)

abbrev Brackets : ℕ → Bool → List ℕ → Items → List ℕ → Type 0
Brackets left a s t r = (s ≡ 40 ∷ (print t ++ 41 ∷ r)) × (0 < left) × HasItem t × PartRules t (left - 1) a

abbrev ItemIs : ℕ → Bool → List ℕ → Item → List ℕ → Type 0
ItemIs left a s i r = (s ≡ print_item i ++ r) × ItemRules i left a

-- a closing bracket is passed behind a part that is not empty
passing : (left : ℕ) (a : Bool) (c : ℕ) (s : List ℕ) (t : Items) (r : List ℕ) (p : Parsed) → c ≡ 40 → ends_part s ≡ false
    → ((u : Items) (q : List ℕ) → p ≡ parsed u q → PartIs left a s u q) → passed p ≡ parsed t r → Brackets (suc left) a (c ∷ s) t r
unfolding passed ends_part print
passing left a c s t r malformed bracket some sound e = impossible cc
passing left a c s t r (parsed u []) bracket some sound e = impossible cc
passing left a c s t r (parsed end (d ∷ q)) bracket some sound e =
    let w = sound end (d ∷ q) refl in
    impossible (cc (w.2, ap ends_part w.0))
passing left a c s t r (parsed (more i u) (d ∷ q)) bracket some sound e =
    let w = sound (more i u) (d ∷ q) refl in
    let tree : more i u ≡ t = cc in
    let rest : q ≡ r = cc in
    let close : d ≡ 41 = eqb-true d 41 w.2 in
    let less : suc left - 1 ≡ left = omega arith in
    rw (← tree, ← rest, less) (cc w.0, omega arith, tt, w.1)

module _ (part : ℕ → Bool → List ℕ → Parsed)
    (sound_part : (left : ℕ) (a : Bool) (s : List ℕ) (t : Items) (r : List ℕ) → part left a s ≡ parsed t r → PartIs left a s t r) where
  sound_inside : (left : ℕ) (a : Bool) (s : List ℕ) (t : Items) (r : List ℕ) → inside part left a s ≡ parsed t r → Brackets left a s t r
  unfolding inside
  sound_inside zero a s t r e = impossible cc
  sound_inside (suc left) a [] t r e = impossible cc
  sound_inside (suc left) a (c ∷ s) t r e =
      by_test (eqb c 40)
      (λ bracket. let e₁ = rw bracket at e in
      by_test (ends_part s)
      (λ empty. impossible (cc (rw empty at e₁)))
      (λ some. passing left a c s t r (part left a s) (eqb-true c 40 bracket) some (λ u q. sound_part left a s u q) (rw some at e₁)))
      (λ other. impossible (cc (rw other at e)))

  sound_headed : (item : Items → Item) (left : ℕ) (a : Bool) (s : List ℕ) (i : Item) (r : List ℕ) → headed item (inside part left a s) ≡ one i r
      → (t : Items) × (i ≡ item t) × Brackets left a s t r
  unfolding headed
  sound_headed item left a s i r e = go (inside part left a s) (λ t q. sound_inside left a s t q) e
    where
      go : (p : Parsed) → ((t : Items) (q : List ℕ) → p ≡ parsed t q → Brackets left a s t q) → headed item p ≡ one i r
          → (t : Items) × (i ≡ item t) × Brackets left a s t r
      go malformed h e = impossible cc
      go (parsed t q) h e = let same : q ≡ r = cc in (t, cc, h t r (ap (parsed t) same))

  sound_kind : (left : ℕ) (a : Bool) (c : ℕ) (s : List ℕ) (i : Item) (r : List ℕ) (k : Option ItemKind) → kind_of c ≡ k → item_of part k c left a s ≡ one i r
      → ItemIs left a (c ∷ s) i r
  unfolding item_of print_item ItemRules
  sound_kind left a c s i r (Some (kind.Value v)) h e =
      let item : value c v ≡ i = cc in
      let behind : s ≡ r = cc in
      rw (← item) (ap (λ q. c ∷ q) behind, h)
  sound_kind left true c s i r (Some kind.Rest) h e = impossible cc
  sound_kind left false c s i r (Some kind.Rest) h e =
      let item : rest ≡ i = cc in
      rw (← item) (cc (letter_of c kind.Rest h), refl)
  sound_kind left a c s i r (Some kind.Struct) h e =
      let w = sound_headed struct left false s i r e in
      rw w.1 (cc (letter_of c kind.Struct h, w.2.0, append_assoc (print w.0) (41 ∷ []) r), (w.2.1, w.2.2, w.2.3))
  sound_kind left true c s i r (Some kind.Array) h e = impossible cc
  sound_kind left false c s i r (Some kind.Array) h e =
      let w = sound_headed array left true s i r e in
      rw w.1 (cc (letter_of c kind.Array h, w.2.0, append_assoc (print w.0) (41 ∷ []) r), (refl, w.2.1, w.2.2, w.2.3))
  sound_kind left a c s i r None h e = impossible cc

  sound_item : (left : ℕ) (a : Bool) (s : List ℕ) (i : Item) (r : List ℕ) → item_in part left a s ≡ one i r → ItemIs left a s i r
  unfolding item_in
  sound_item left a [] i r e = impossible cc
  sound_item left a (c ∷ s) i r e = sound_kind left a c s i r (kind_of c) refl e

ended : (left : ℕ) (a : Bool) (s : List ℕ) (t : Items) (r : List ℕ) → ends_part s ≡ true → parsed end s ≡ parsed t r → PartIs left a s t r
unfolding print PartRules
ended left a s t r shut e =
    let tree : end ≡ t = cc in
    let behind : s ≡ r = cc in
    rw (← tree, ← behind) (refl, tt, shut)

joining : (left : ℕ) (a : Bool) (s : List ℕ) (t : Items) (r : List ℕ) (i : Item) (q : List ℕ) (p : Parsed) → final i ≡ false → ItemIs left a s i q
    → ((u : Items) → p ≡ parsed u r → PartIs left a q u r) → joined i p ≡ parsed t r → PartIs left a s t r
unfolding joined print PartRules
joining left a s t r i q malformed plain item sound e = impossible cc
joining left a s t r i q (parsed u r') plain item sound e =
    let tree : more i u ≡ t = cc in
    let behind : r' ≡ r = cc in
    let w = sound u (ap (parsed u) behind) in
    let never-final : final i ≡ true → u ≡ end = λ f. impossible cc in
    rw (← tree) (cc (item.0, w.0, append_assoc (print_item i) (print u) r), (item.1, never-final, w.1), w.2)

followed : (left : ℕ) (a : Bool) (s : List ℕ) (t : Items) (r : List ℕ) (part : List ℕ → Parsed) (h : Head)
    → ((q : List ℕ) (u : Items) → part q ≡ parsed u r → PartIs left a q u r) → ((i : Item) (q : List ℕ) → h ≡ one i q → ItemIs left a s i q)
    → follow part h ≡ parsed t r → PartIs left a s t r
unfolding follow print PartRules
followed left a s t r part no_item sound item e = impossible cc
followed left a s t r part (one i q) sound item e =
    by_test (final i)
    (λ last. let e₁ = rw last at e in
    by_test (ends_part q)
    (λ shut. let e₂ = rw shut at e₁ in
    let w = item i q refl in
    let tree : more i end ≡ t = cc in
    let behind : q ≡ r = cc in
    rw (← tree, ← behind, append-nil) (w.0, (w.1, (λ f. refl), tt), shut))
    (λ going. impossible (cc (rw going at e₁))))
    (λ plain. joining left a s t r i q (part q) plain (item i q refl) (sound q) (rw plain at e))

sound_part : (n left : ℕ) (a : Bool) (s : List ℕ) (t : Items) (r : List ℕ) → part_in n left a s ≡ parsed t r → PartIs left a s t r
unfolding part_in
sound_part zero left a s t r e = impossible cc
sound_part (suc n) left a s t r e =
    by_test (ends_part s)
    (λ shut. ended left a s t r shut (rw shut at e))
    (λ going.
    followed left a s t r (part_in n left a) (item_in (part_in n) left a s) (λ q u. sound_part n left a q u r)
    (sound_item (part_in n) (sound_part n) left a s) (rw going at e))

whole_sound : (types : List ℕ) (t : Items) (r : List ℕ) (p : Parsed) → length types ≤ max_octets
    → ((u : Items) (q : List ℕ) → p ≡ parsed u q → PartIs max_open false types u q)
    → whole p ≡ parsed t r → TypeString types t
unfolding whole
whole_sound types t r malformed few sound e = impossible cc
whole_sound types t r (parsed u (c ∷ q)) few sound e = impossible cc
whole_sound types t r (parsed u []) few sound e =
    let w = sound u [] refl in
    let tree : u ≡ t = cc in
    rw (← tree) (record { printed = sym (w.0 ∙ append-nil (print u)); rules = w.1; short = few })

pub sound : (types : List ℕ) (t : Items) (r : List ℕ) → type_of types ≡ parsed t r → TypeString types t
unfolding type_of part_at
sound types t r e =
    by_test (ltb max_octets (length types))
    (λ long. impossible (cc (rw long at e)))
    (λ short.
    whole_sound types t r (part_at max_open false types) (ltb-false max_octets (length types) short) (sound_part (suc (length types)) max_open false types)
    (rw short at e))

-- ---- complete

-- a part in brackets is found where the part is
found_inside : (t : Items) (left : ℕ) (a : Bool) (r : List ℕ) → 0 < left → HasItem t → PartRules t (left - 1) a
    → part_at (left - 1) a (print t ++ 41 ∷ r) ≡ parsed t (41 ∷ r) → inside part_at left a (40 ∷ ((print t ++ 41 ∷ []) ++ r)) ≡ parsed t r
unfolding inside passed print PartRules
found_inside t zero a r room some rules e = absurd (omega arith)
found_inside end (suc left) a r room some rules e = absurd some
found_inside (more i t) (suc left) a r room some rules e =
    let less : suc left - 1 ≡ left = omega arith in
    let e' : part_at left a ((print_item i ++ print t) ++ 41 ∷ r) ≡ parsed (more i t) (41 ∷ r) = rw less at e in
    let going : ends_part ((print_item i ++ print t) ++ 41 ∷ r) ≡ false =
    rw (append_assoc (print_item i) (print t) (41 ∷ r)) (item_open i (suc left - 1) a (print t ++ 41 ∷ r) rules.0) in
    rw (append_assoc (print_item i ++ print t) (41 ∷ []) r, going, e')

mutual
  unfolding item_at item_in item_of kind_of print_item ItemRules print PartRules headed follow joined

  found_item : (i : Item) (left : ℕ) (a : Bool) (r : List ℕ) → ItemRules i left a → item_at left a (print_item i ++ r) ≡ one i r
  found_item (value c v) left a r k = rw k
  found_item rest left a r k = rw k
  found_item (struct t) left a r k = rw (found_inside t left false r k.0 k.1 k.2 (found_part t (left - 1) false (41 ∷ r) k.2 (bracket_shut r)))
  found_item (array t) left a r k = rw (k.0, found_inside t left true r k.1 k.2 k.3 (found_part t (left - 1) true (41 ∷ r) k.3 (bracket_shut r)))

  found_part : (t : Items) (left : ℕ) (a : Bool) (r : List ℕ) → PartRules t left a → ends_part r ≡ true → part_at left a (print t ++ r) ≡ parsed t r
  found_part end left a r k shut = part_step left a r ∙ rw shut
  found_part (more i t) left a r k shut =
      let r' = print t ++ r in
      rw (append_assoc (print_item i) (print t) r, part_step left a (print_item i ++ r'), item_open i left a r' k.0, found_item i left a r' k.0)
      (by_test (final i)
      (λ last. let one-item : t ≡ end = k.1 last in rw (last, one-item, shut))
      (λ plain. rw (plain, found_part t left a r k.2 shut)))

pub complete : (types : List ℕ) (t : Items) → TypeString types t → type_of types ≡ parsed t []
unfolding type_of whole
complete types t w =
    let few : length (print t) ≤ max_octets = rw w.printed w.short in
    rw (← w.printed, le-ltb max_octets (length (print t)) few, ← append-nil (print t), found_part t max_open false [] w.rules end_shut)

-- so each string has one tree
pub one_tree : (types : List ℕ) (t u : Items) → TypeString types t → TypeString types u → t ≡ u
one_tree types t u v w = cc (complete types t v, complete types u w)

pub accepts : (types : List ℕ) (t : Items) → TypeString types t → is_type (type_of types) ≡ true
accepts types t w = rw (complete types t w)

pub accepted : (types : List ℕ) → is_type (type_of types) ≡ true → (t : Items) × TypeString types t
accepted types e = go (type_of types) (sound types) e
  where
    go : (p : Parsed) → ((t : Items) (r : List ℕ) → p ≡ parsed t r → TypeString types t) → is_type p ≡ true → (t : Items) × TypeString types t
    go malformed h e = impossible cc
    go (parsed t r) h e = (t, h t r refl)
