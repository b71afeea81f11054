-- Laws of brackets in type strings: where the last of so many open ones is closed, and what an item's letter tells.
use mathlib.Core.Bool.{Bool, true, false, cond}
use mathlib.Core.Logic.{◌⊎◌, inl, inr, ⊎_elim}
use mathlib.Core.List.{List, [], ◌∷◌, ◌++◌, append_assoc}
use mathlib.Core.Path.{◌≡◌, refl, ap}
use Prim.Native.Nat.{ℕ, zero, suc, ◌+◌, ◌-◌, ◌<◌, ◌≤◌}
use native.Mathlib.Numerals.{add-one}
use native.Mathlib.Omega.{arith}
use borrow.Author.Tests.{ne_eqb}
use lib.Dec.{eqb}
use lib.ListN.{length, get_or, drop, length-append, length-drop}
use Rattle.octets.proofs.LawsLists.{drop_next, front}
use Rattle.octets.proofs.LawsTests.{by_test, impossible}
use Rattle.typestring.specs.declared.kind.Value.{Value}
use Rattle.typestring.specs.declared.kind.ItemKind.TheVariants as kind
use Rattle.std.specs.Prelude.{Some}
use Rattle.typestring.specs.Kind.{kind_of}
use Rattle.typestring.specs.Grammar.{Item, Items, value, rest, struct, array, end, more, print_item, print, ItemRules, PartRules}
use Rattle.typestring.specs.Calls.{ItemFrom, InBrackets, EndsItem, EndsBrackets}
use Rattle.typestring.proofs.LawsGrammar.{no_bracket}
use Rattle.typestring.proofs.LawsPlaces.{inner_printed}

-- ---- open brackets

-- how many are open behind an octet
abbrev pub next_open : ℕ → ℕ → ℕ
next_open c n = cond (eqb c 40) (n + 1) (cond (eqb c 41) (n - 1) n)

-- how many octets there are up to the bracket that closes the last of so many open ones, with it; brackets that lack count as if they
-- stood at the end
unfoldable pub past : List ℕ → ℕ → ℕ
past [] n = n
past (c ∷ s) zero = 0
past (c ∷ s) (suc n) = suc (past s (next_open c (suc n)))

pub past_none : (s : List ℕ) (n : ℕ) → n ≡ 0 → past s n ≡ 0
unfolding past
past_none [] n e = e
past_none (c ∷ s) zero e = refl
past_none (c ∷ s) (suc n) e = absurd (omega arith)

pub past_next : (xs : List ℕ) (at n : ℕ) → 0 < n → at < length xs
    → past (drop at xs) n ≡ suc (past (drop (at + 1) xs) (next_open (get_or xs at 0) n))
unfolding past
past_next xs at zero some h = absurd (omega arith)
past_next xs at (suc n) some h = rw (drop_next xs at h)

next_least : (c n : ℕ) → n ≤ next_open c n + 1
next_least c n =
    by_test (eqb c 40) (λ t. rw t (omega arith)) (λ t. rw t (by_test (eqb c 41) (λ u. rw u (omega arith)) (λ u. rw u (omega arith))))

-- an octet closes one bracket at most
pub past_least : (s : List ℕ) (n : ℕ) → n ≤ past s n
unfolding past
past_least [] n = omega arith
past_least (c ∷ s) zero = omega arith
past_least (c ∷ s) (suc n) =
    omega (arith, next_least c (suc n), past_least s (next_open c (suc n)))

-- brackets around octets that close all that they open
past_inside : (p : List ℕ) (n : ℕ) (s : List ℕ) → past (p ++ 41 ∷ s) (suc (suc n)) ≡ length p + past (41 ∷ s) (suc (suc n))
    → past ((p ++ 41 ∷ []) ++ s) (suc n + 1) ≡ length (p ++ 41 ∷ []) + past s (suc n)
unfolding past
past_inside p n s e =
    let one : suc (suc n) - 1 ≡ suc n = omega arith in
    rw (add-one (suc n), append_assoc, e, one, length-append) (omega arith)

-- what is printed closes all that it opens
mutual
  unfolding past print_item print ItemRules PartRules kind_of

  past_item : (i : Item) (n left : ℕ) (in_array : Bool) (s : List ℕ) → ItemRules i left in_array
      → past (print_item i ++ s) (suc n) ≡ length (print_item i) + past s (suc n)
  past_item (value letter v) n left in_array s r =
      rw (ne_eqb letter 40 (no_bracket letter 40 v r refl), ne_eqb letter 41 (no_bracket letter 41 v r refl)) (omega arith)
  past_item rest n left in_array s r = omega arith
  past_item (struct t) n left in_array s r = omega (arith, past_inside (print t) n s (past_part t (suc n) (left - 1) false (41 ∷ s) r.2))
  past_item (array t) n left in_array s r = omega (arith, past_inside (print t) n s (past_part t (suc n) (left - 1) true (41 ∷ s) r.3))

  past_part : (t : Items) (n left : ℕ) (in_array : Bool) (s : List ℕ) → PartRules t left in_array
      → past (print t ++ s) (suc n) ≡ length (print t) + past s (suc n)
  past_part end n left in_array s r = omega arith
  past_part (more i t) n left in_array s r =
      rw (append_assoc, past_item i n left in_array (print t ++ s) r.0, past_part t n left in_array s r.2, length-append) (omega arith)

pub past_brackets : (s : List ℕ) (t : Items) → InBrackets s t → past s 1 ≡ length (print t) + 1
unfolding past
past_brackets s t b = rw (b.printed, past_part t 0 b.depth b.in_array (41 ∷ b.behind) b.rules) (omega (arith, past_none b.behind 0 refl))

pub brackets_within : (xs : List ℕ) (at : ℕ) (t : Items) → InBrackets (drop at xs) t → at + past (drop at xs) 1 ≤ length xs
brackets_within xs at t b =
    omega (arith, past_brackets (drop at xs) t b, length-drop at xs, simp length-append at (ap length b.printed))

pub brackets_here : (xs : List ℕ) (at : ℕ) → ((t : Items) × InBrackets (drop at xs) t) → at < length xs
brackets_here xs at (t, b) = omega (arith, brackets_within xs at t b, past_least (drop at xs) 1)

pub ends_within : (xs : List ℕ) (at count : ℕ) → ((t : Items) × InBrackets (drop at xs) t) → EndsBrackets (drop at xs) 0 count → at + count ≤ length xs
ends_within xs at count (t, b) ends = omega (arith, ends t b, past_brackets (drop at xs) t b, brackets_within xs at t b)

-- ---- items with brackets and without

-- A and t
abbrev pub Bracketed : ℕ → Type 0
Bracketed c = (c ≡ 65) ⊎ (c ≡ 116)

-- no value has a letter of theirs
plain_letter : (letter : ℕ) (v : Value) → kind_of letter ≡ Some (kind.Value v) → Bracketed letter → ⊥
unfolding kind_of
plain_letter letter v k = ⊎_elim (λ e. impossible (cc (k, ap kind_of e))) (λ e. impossible (cc (k, ap kind_of e)))

module _ (xs : List ℕ) (at : ℕ) where
  inside : (i : Item) (depth : ℕ) → ItemFrom (drop at xs) depth i → Bracketed (get_or xs at 0)
      → (t : Items) × InBrackets (drop (at + 2) xs) t × (length (print_item i) ≡ length (print t) + 3)
  unfolding print_item ItemRules
  inside (value letter v) depth f b = absurd (plain_letter letter v f.rules (rw (front xs at letter f.behind f.printed).0 at b))
  inside rest depth f b = let d = (front xs at 68 f.behind f.printed).0 in absurd (⊎_elim (λ e. omega arith) (λ e. omega arith) b)
  inside (struct t) depth f b = (
    t,
    record { depth = depth - 1; in_array = false; behind = f.behind; printed = inner_printed xs at 116 t f.behind f.printed; rules = f.rules.2 },
    simp length-append (omega arith),
  )
  inside (array t) depth f b = (
    t,
    record { depth = depth - 1; in_array = true; behind = f.behind; printed = inner_printed xs at 65 t f.behind f.printed; rules = f.rules.3 },
    simp length-append (omega arith),
  )

  pub brackets_from : Bracketed (get_or xs at 0) → ((i : Item) × (depth : ℕ) × ItemFrom (drop at xs) depth i) → (t : Items) × InBrackets (drop (at + 2) xs) t
  brackets_from h (i, depth, f) = let b = inside i depth f h in (b.0, b.1)

  pub ends_brackets : (count : ℕ) → Bracketed (get_or xs at 0) → EndsBrackets (drop (at + 2) xs) 0 count → EndsItem (drop at xs) at (at + 2 + count)
  ends_brackets count h ends i depth f = let b = inside i depth f h in omega (arith, ends b.0 b.1)

  pub ends_single : (Bracketed (get_or xs at 0) → ⊥) → EndsItem (drop at xs) at (at + 1)
  unfolding print_item
  ends_single h (value letter v) depth f = omega arith
  ends_single h rest depth f = omega arith
  ends_single h (struct t) depth f = absurd (h (inr (front xs at 116 _ f.printed).0))
  ends_single h (array t) depth f = absurd (h (inl (front xs at 65 _ f.printed).0))
