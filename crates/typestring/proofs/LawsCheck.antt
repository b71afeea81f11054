-- Laws of the check: what the parse is on each way through it, from a place on.
use mathlib.Core.Bool.{Bool, true, false, cond}
use mathlib.Core.List.{List, [], ◌∷◌}
use mathlib.Core.Path.{◌≡◌, refl, ap, ◌∙◌}
use Prim.Native.Nat.{ℕ, zero, suc, ◌+◌, ◌-◌, ◌≤◌, ◌<◌}
use native.Mathlib.Omega.{arith}
use borrow.Author.Tests.{eq-eqb, ne_eqb, eqb-true, eqb-false, ltb-true, ltb-false}
use lib.Dec.{eqb, ltb}
use lib.ListN.{length, get_or, drop, drop_of_length-le}
use Rattle.octets.proofs.LawsLists.{drop_next}
use Rattle.octets.proofs.LawsTests.{by_test, impossible}
use Rattle.typestring.specs.declared.kind.ItemKind.{ItemKind}
use Rattle.std.specs.Prelude.{Option, Some, None}
use Rattle.std.specs.Option.{option_eq}
use Rattle.std.specs.Bool.{then_some}
use Rattle.typestring.specs.declared.check.Step.TheVariants as step
use Rattle.typestring.specs.Kind.{kind_of}
use Rattle.typestring.specs.Grammar.{Item, Items, more, end, final}
use Rattle.typestring.specs.Parse.{Parsed, malformed, Head, one, ends_part, passed, inside, headed, item_of, item_in, joined, follow, part_at, item_at, whole, is_type}
use Rattle.typestring.specs.Calls.{Scanned, Stepped}
use Rattle.typestring.proofs.LawsParse.{part_step}

-- whatever a part is found to be from one place on, it is found to be from another on
abbrev pub Onward : List ℕ → ℕ → Bool → ℕ → ℕ → Type 0
Onward types left a next at =
    (r : Option ℕ) → Scanned types next (part_at left a (drop next types)) r → Scanned types at (part_at left a (drop at types)) r

-- a part isn't closed at the string's end
pub more_left : (types : List ℕ) (at : ℕ) → false ≡ ends_part (drop at types) → at < length types
unfolding ends_part
more_left types at e =
    by_test (ltb at (length types))
    (λ l. ltb-true at (length types) l)
    (λ l. impossible (cc (ap ends_part (drop_of_length-le types {i = at} (ltb-false at (length types) l)))))

-- the brackets at an octet, where one more may be opened
abbrev opened : ℕ → Bool → ℕ → List ℕ → Parsed
opened left a c s = cond (eqb c 40) (cond (ends_part s) malformed (passed (part_at (left - 1) a s))) malformed

inside_opened : (left : ℕ) (a : Bool) (c : ℕ) (s : List ℕ) → (left ≡ 0 → ⊥) → inside part_at left a (c ∷ s) ≡ opened left a c s
unfolding inside
inside_opened zero a c s some = absurd (some refl)
inside_opened (suc left) a c s some = let one_less : suc left - 1 ≡ left = omega arith in rw one_less

inside_empty : (left : ℕ) (a : Bool) → inside part_at left a [] ≡ malformed
unfolding inside
inside_empty zero a = refl
inside_empty (suc left) a = refl

module _ (types : List ℕ) (left : ℕ) (a : Bool) (at : ℕ) where
  -- ---- a part

  pub part_closed : at ≤ length types → true ≡ ends_part (drop at types) → Scanned types at (part_at left a (drop at types)) (Some at)
  part_closed h e = (omega arith, h, (end, part_step left a (drop at types) ∙ rw (← e)))

  module _ (goes_on : false ≡ ends_part (drop at types)) where
    part_open : {h : Head} → item_at left a (drop at types) ≡ h → part_at left a (drop at types) ≡ follow (part_at left a) h
    part_open e = part_step left a (drop at types) ∙ rw (← goes_on, e)

    pub part_bad : Stepped types at (item_at left a (drop at types)) None → Scanned types at (part_at left a (drop at types)) None
    unfolding follow
    part_bad e = part_open e

    pub part_last : (next : ℕ) → Stepped types at (item_at left a (drop at types)) (Some (step.Last next))
        → Scanned types at (part_at left a (drop at types)) (then_some (ends_part (drop next types)) next)
    unfolding follow
    part_last next (l, h, (i, e, f)) =
        by_test (ends_part (drop next types))
        (λ c. rw c (omega arith, h, (more i end, part_open e ∙ rw (f, c))))
        (λ c. rw c (part_open e ∙ rw (f, c)))

    pub part_next : (next : ℕ) → Stepped types at (item_at left a (drop at types)) (Some (step.Next next)) → Onward types left a next at
    unfolding follow joined
    part_next next (l, h, (i, e, f)) None b = part_open e ∙ rw (f, b)
    part_next next (l, h, (i, e, f)) (Some n) (m, k, (t, b)) = (omega arith, k, (more i t, part_open e ∙ rw (f, b)))

  -- ---- an item

  pub item_at_lem : {r k : Option ItemKind} → at < length types → r ≡ kind_of (get_or types at 0) → r ≡ k
      → item_at left a (drop at types) ≡ item_of part_at k (get_or types at 0) left a (drop (at + 1) types)
  unfolding item_at item_in
  item_at_lem h e k = rw (drop_next types at h, ← e, k)

  -- ---- brackets

  pub inside_none : at ≡ length types → inside part_at left a (drop at types) ≡ malformed
  inside_none e = rw (drop_of_length-le types {i = at} (omega arith)) (inside_empty left a)

  module _ (some : left ≡ 0 → ⊥) (placed : at ≤ length types) (before : at ≡ length types → ⊥) where
    inside_at : inside part_at left a (drop at types) ≡ opened left a (get_or types at 0) (drop (at + 1) types)
    inside_at = rw (drop_next types at (omega arith)) (inside_opened left a (get_or types at 0) (drop (at + 1) types) some)

    pub inside_unopened : (get_or types at 0 ≡ 40 → ⊥) → inside part_at left a (drop at types) ≡ malformed
    inside_unopened c = inside_at ∙ rw (ne_eqb _ _ c)

    pub inside_nothing : get_or types at 0 ≡ 40 → true ≡ ends_part (drop (at + 1) types) → inside part_at left a (drop at types) ≡ malformed
    inside_nothing c e = inside_at ∙ rw (eq-eqb _ _ c, ← e)

    pub inside_some : get_or types at 0 ≡ 40 → false ≡ ends_part (drop (at + 1) types)
        → inside part_at left a (drop at types) ≡ passed (part_at (left - 1) a (drop (at + 1) types))
    inside_some c e = inside_at ∙ rw (eq-eqb _ _ c, ← e)

-- what is found of a part in brackets tells of the brackets, and of their item
module _ (types : List ℕ) (at next : ℕ) {p : Parsed} (found : Scanned types (at + 1) p (Some next)) where
  pub brackets_end : {q : Parsed} → q ≡ passed p → Scanned types at q (then_some (ltb next (length types)) (next + 1))
  unfolding passed
  brackets_end e =
      by_test (ltb next (length types))
      (λ c. let here = ltb-true next (length types) c in
      rw c (omega arith, omega arith, (found.2.0, e ∙ ap passed found.2.1 ∙ rw (drop_next types next here))))
      (λ c. let cut = ltb-false next (length types) c in rw c (e ∙ ap passed found.2.1 ∙ rw (drop_of_length-le types {i = next} cut)))

  pub brackets_item : (item : Items → Item) {final-is : Bool} → ((t : Items) → final (item t) ≡ final-is)
      → {h : Head} → h ≡ headed item p
      → (at < next) × (next ≤ length types) × ((i : Item) × (h ≡ one i (drop next types)) × (final i ≡ final-is))
  unfolding headed
  brackets_item item f e = (omega arith, found.1, (item found.2.0, e ∙ ap (headed item) found.2.1, f found.2.0))

-- ---- the whole string

pub whole_ends : (types : List ℕ) (p : Parsed) (r : Option ℕ) → Scanned types 0 p r → option_eq eqb r (Some (length types)) ≡ is_type (whole p)
unfolding whole
whole_ends types p None e = rw e
whole_ends types p (Some next) (l, h, (t, e)) =
    rw e
    (by_test (eqb next (length types))
    (λ f. let here = eqb-true next (length types) f in rw (f, drop_of_length-le types {i = next} (omega arith)))
    (λ f. let more = eqb-false next (length types) f in rw (f, drop_next types next (omega arith))))
