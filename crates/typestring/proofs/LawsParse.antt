-- Laws of the parse: what follows a part or an item is shorter, and the bound on the items asked for does not matter.
use mathlib.Core.Bool.{Bool, true, false, cond}
use mathlib.Core.List.{List, [], ◌∷◌}
use mathlib.Core.Path.{◌≡◌, refl, ap, ◌∙◌}
use Prim.Native.Nat.{ℕ, zero, suc, ◌≤◌, ◌<◌}
use native.Mathlib.Omega.{arith}
use lib.Dec.{eqb}
use lib.ListN.{length}
use Rattle.octets.proofs.LawsTests.{by_test}
use Rattle.typestring.specs.declared.kind.ItemKind.{ItemKind}
use Rattle.typestring.specs.declared.kind.ItemKind.TheVariants as kind
use Rattle.std.specs.Prelude.{Option, Some, None}
use Rattle.typestring.specs.Kind.{kind_of}
use Rattle.typestring.specs.Grammar.{Item, Items, struct, array, end, final}
use Rattle.typestring.specs.Parse.{Parsed, malformed, parsed, Head, no_item, one, ends_part, passed, inside, headed, item_of, item_in, joined, follow, part_in, part_at, item_at}

-- how a part is parsed
abbrev Parser : Type 0
Parser = ℕ → Bool → List ℕ → Parsed

-- ---- what follows is shorter

-- at most so many octets follow a part, and fewer follow an item
abbrev Most : ℕ → Parsed → Type 0
Most n malformed = Unit {0}
Most n (parsed t r) = length r ≤ n

abbrev Fewer : ℕ → Head → Type 0
Fewer n no_item = Unit {0}
Fewer n (one i r) = length r < n

most_passed : (n : ℕ) (p : Parsed) → Most n p → Most n (passed p)
unfolding passed
most_passed n malformed h = tt
most_passed n (parsed t []) h = tt
most_passed n (parsed t (c ∷ r)) h = omega arith

most_joined : (i : Item) (n : ℕ) (p : Parsed) → Most n p → Most n (joined i p)
unfolding joined
most_joined i n malformed h = tt
most_joined i n (parsed t r) h = h

fewer_headed : (item : Items → Item) (m n : ℕ) (p : Parsed) → m < n → Most m p → Fewer n (headed item p)
unfolding headed
fewer_headed item m n malformed l h = tt
fewer_headed item m n (parsed t r) l h = omega arith

module _ (p : Parser) (most : (left : ℕ) (a : Bool) (s : List ℕ) (n : ℕ) → length s ≤ n → Most n (p left a s)) where
  most_inside : (left : ℕ) (a : Bool) (s : List ℕ) → Most (length s) (inside p left a s)
  unfolding inside
  most_inside zero a s = tt
  most_inside (suc left) a [] = tt
  most_inside (suc left) a (c ∷ s) =
      by_test (eqb c 40)
      (λ e. by_test (ends_part s) (λ f. rw (e, f) tt) (λ f. rw (e, f) (most_passed _ (p left a s) (most left a s _ (omega arith)))))
      (λ e. rw e tt)

  fewer_item_of : (k : Option ItemKind) (letter left : ℕ) (a : Bool) (s : List ℕ) (n : ℕ) → length s < n → Fewer n (item_of p k letter left a s)
  unfolding item_of
  fewer_item_of (Some (kind.Value v)) letter left a s n h = h
  fewer_item_of (Some kind.Rest) letter left true s n h = tt
  fewer_item_of (Some kind.Rest) letter left false s n h = h
  fewer_item_of (Some kind.Struct) letter left a s n h = fewer_headed struct _ n (inside p left false s) h (most_inside left false s)
  fewer_item_of (Some kind.Array) letter left true s n h = tt
  fewer_item_of (Some kind.Array) letter left false s n h = fewer_headed array _ n (inside p left true s) h (most_inside left true s)
  fewer_item_of None letter left a s n h = tt

  fewer_item : (left : ℕ) (a : Bool) (s : List ℕ) (n : ℕ) → length s ≤ n → Fewer n (item_in p left a s)
  unfolding item_in
  fewer_item left a [] n h = tt
  fewer_item left a (c ∷ s) n h = fewer_item_of (kind_of c) c left a s n h

  most_follow : (left : ℕ) (a : Bool) (n : ℕ) (h : Head) → Fewer n h → Most n (follow (p left a) h)
  unfolding follow
  most_follow left a n no_item l = tt
  most_follow left a n (one i r) l =
      by_test (final i)
      (λ e. by_test (ends_part r) (λ f. rw (e, f) (omega arith)) (λ f. rw (e, f) tt))
      (λ e. rw e (most_joined i n (p left a r) (most left a r n (omega arith))))

most_part : (m left : ℕ) (a : Bool) (s : List ℕ) (n : ℕ) → length s ≤ n → Most n (part_in m left a s)
unfolding part_in
most_part zero left a s n h = tt
most_part (suc m) left a s n h =
    let most = most_part m in
    by_test (ends_part s)
    (λ e. rw e h)
    (λ e. rw e (most_follow (part_in m) most left a n (item_in (part_in m) left a s) (fewer_item (part_in m) most left a s n h)))

-- ---- the bound

-- parsers that agree on what is shorter agree on an item and what follows it
module _ (p q : Parser) (n : ℕ) (same : (left : ℕ) (a : Bool) (s : List ℕ) → length s < n → p left a s ≡ q left a s) where
  inside_same : (left : ℕ) (a : Bool) (s : List ℕ) → length s ≤ n → inside p left a s ≡ inside q left a s
  unfolding inside
  inside_same zero a s h = refl
  inside_same (suc left) a [] h = refl
  inside_same (suc left) a (c ∷ s) h = rw (same left a s (omega arith))

  item_of_same : (k : Option ItemKind) (letter left : ℕ) (a : Bool) (s : List ℕ) → length s ≤ n → item_of p k letter left a s ≡ item_of q k letter left a s
  unfolding item_of
  item_of_same (Some (kind.Value v)) letter left a s h = refl
  item_of_same (Some kind.Rest) letter left a s h = refl
  item_of_same (Some kind.Struct) letter left a s h = rw (inside_same left false s h)
  item_of_same (Some kind.Array) letter left a s h = rw (inside_same left true s h)
  item_of_same None letter left a s h = refl

  item_same : (left : ℕ) (a : Bool) (s : List ℕ) → length s ≤ n → item_in p left a s ≡ item_in q left a s
  unfolding item_in
  item_same left a [] h = refl
  item_same left a (c ∷ s) h = item_of_same (kind_of c) c left a s (omega arith)

  follow_same : (left : ℕ) (a : Bool) (h : Head) → Fewer n h → follow (p left a) h ≡ follow (q left a) h
  unfolding follow
  follow_same left a no_item l = refl
  follow_same left a (one i r) l = rw (same left a r l)

  step_same : (left : ℕ) (a : Bool) (s : List ℕ) → length s ≤ n → Fewer n (item_in q left a s)
      → follow (p left a) (item_in p left a s) ≡ follow (q left a) (item_in q left a s)
  step_same left a s h l = ap (follow (p left a)) (item_same left a s h) ∙ follow_same left a (item_in q left a s) l

-- more than the octets there are is enough
part_enough : (m n left : ℕ) (a : Bool) (s : List ℕ) → length s < m → length s < n → part_in m left a s ≡ part_in n left a s
unfolding part_in
part_enough zero n left a s h l = absurd (omega arith)
part_enough (suc m) zero left a s h l = absurd (omega arith)
part_enough (suc m) (suc n) left a s h l =
    ap (cond (ends_part s) (parsed end s))
    (step_same (part_in m) (part_in n) (length s)
    (λ left a r k. part_enough m n left a r (omega arith) (omega arith))
    left a s (omega arith) (fewer_item (part_in n) (most_part n) left a s _ (omega arith)))

-- ---- a part without the bound

most_at : (left : ℕ) (a : Bool) (s : List ℕ) (n : ℕ) → length s ≤ n → Most n (part_at left a s)
unfolding part_at
most_at left a s n h = most_part (suc (length s)) left a s n h

pub part_step : (left : ℕ) (a : Bool) (s : List ℕ) → part_at left a s ≡ cond (ends_part s) (parsed end s) (follow (part_at left a) (item_at left a s))
unfolding part_in part_at item_at
part_step left a s =
    ap (cond (ends_part s) (parsed end s))
    (step_same (part_in (length s)) part_at (length s)
    (λ left a r k. part_enough (length s) (suc (length r)) left a r k (omega arith))
    left a s (omega arith) (fewer_item part_at most_at left a s _ (omega arith)))
