-- The octets that a reading takes and the leaves that it finds in them.
use mathlib.Core.Path.{◌≡◌, refl, ap}
use mathlib.Core.Bool.{Bool, true, false}
use mathlib.Core.List.{List, [], ◌∷◌, ◌++◌}
use Prim.Native.Nat.{ℕ, zero, suc, ◌+◌, ◌-◌, ◌≤◌, ◌<◌}
use native.Mathlib.Omega.{arith}
use borrow.Author.Tests.{ltb-true, ltb-false}
use lib.Dec.{ltb}
use lib.ListN.{length, take, length-append}
use lib.Seq.{length-take-le}
use Rattle.octets.proofs.LawsTests.{by_test, impossible}
use Rattle.typestring.specs.Grammar.{Item, Items, value, rest, struct, array, end, more, print, HasItem, ItemRules, PartRules}
use Rattle.std.specs.Prelude.{Ok}
use Rattle.datatype.specs.Leaf.{span_of, counted_at, rest_of}
use Rattle.datatype.proofs.LawsLeaves.{same, span_fits, counted_fits}
use Rattle.datatype.specs.Reading.{Leaf, InOrder, Reading, upto, and_then, elements, item_reads, part_reads}
use Rattle.datatype.proofs.LawsReading.{both_fit, leaf_fit, one_leaf, contents_fit, elements_more}

-- the least octets that an item takes, and how many leaves it may have on them; further ones take an octet each
abbrev least : Item → ℕ
least (value c v) = 1
least rest = 0
least (struct t) = 2
least (array t) = 0

abbrev most : Item → ℕ
most (value c v) = 1
most rest = 1
most (struct t) = 1
most (array t) = 0

leasts : Items → ℕ
leasts end = 0
leasts (more i t) = least i + leasts t

mosts : Items → ℕ
mosts end = 0
mosts (more i t) = most i + mosts t

-- a reading takes at least so many octets, stays within its part, has at most so many leaves and one for each octet beyond the least, and
-- these in order
pub record Took (part : List ℕ) (from p : ℕ) (ls : List Leaf) (low high : ℕ) : Type 0 where
  pub onward : from + low ≤ p
  pub within : p ≤ length part
  pub few : length ls + low ≤ (p - from) + high
  pub ordered : InOrder from ls p

loosen : {part : List ℕ} {from p : ℕ} {ls : List Leaf} {low high low' high' : ℕ} → Took part from p ls low high → low' ≤ low → high + low' ≤ high' + low
    → Took part from p ls low' high'
loosen g a b = record { onward = omega (arith, g.onward); within = g.within; few = omega (arith, g.few); ordered = g.ordered }

-- ---- leaves in order

order_from : (from at stop : ℕ) (ls : List Leaf) → from ≤ at → InOrder at ls stop → InOrder from ls stop
order_from from at stop [] h o = omega arith
order_from from at stop (l ∷ ls) h o = (omega arith, o.1)

order_append : (from mid stop : ℕ) (ls ms : List Leaf) → InOrder from ls mid → InOrder mid ms stop → InOrder from (ls ++ ms) stop
order_append from mid stop [] ms o q = order_from from mid stop ms o q
order_append from mid stop (l ∷ ls) ms o q = (o.0, order_append (l.start + l.size) mid stop ls ms o.1 q)

-- ---- octets and leaves

took_none : (part : List ℕ) (from p : ℕ) (ls : List Leaf) → from ≤ length part → upto from [] ≡ upto p ls → Took part from p ls 0 0
took_none part from p ls room e =
    let same : from ≡ p = cc in
    let nothing : ls ≡ [] = cc in
    rw nothing (record { onward = omega arith; within = omega arith; few = omega arith; ordered = omega arith })

took_both : (part : List ℕ) (from : ℕ) (m : Reading) (go : ℕ → Reading) (p : ℕ) (ls : List Leaf) (low high low' high' : ℕ)
    → ((q : ℕ) (ms : List Leaf) → m ≡ upto q ms → Took part from q ms low high)
    → ((q : ℕ) → q ≤ length part → (ns : List Leaf) → go q ≡ upto p ns → Took part q p ns low' high')
    → and_then m go ≡ upto p ls → Took part from p ls (low + low') (high + high')
took_both part from m go p ls low high low' high' first second e =
    let w = both_fit m go p ls e in
    let a = first w.0 w.1 w.3 in
    let b = second w.0 a.within w.2 w.4 in
    record {
      onward = omega (arith, a.onward, b.onward);
      within = b.within;
      few = rw (w.5, length-append w.1 w.2) (omega (arith, a.onward, b.onward, a.few, b.few));
      ordered = rw w.5 (order_append from w.0 p w.1 w.2 a.ordered b.ordered);
    }

took_elements : (part : List ℕ) (go : ℕ → Reading) (n from p : ℕ) (ls : List Leaf)
    → ((q r : ℕ) (ms : List Leaf) → q ≤ length part → go q ≡ upto r ms → Took part q r ms 0 0)
    → from ≤ length part → elements n go from (length part) ≡ upto p ls → Took part from p ls 0 0
unfolding elements
took_elements part go zero from p ls each room e = took_none part from p ls room e
took_elements part go (suc n) from p ls each room e =
    by_test (ltb from (length part))
    (λ t.
    took_both part from (go from) (λ q. elements n go q (length part)) p ls 0 0 0 0 (λ q ms. each from q ms room)
    (λ q here ns. took_elements part go n q p ns each here) (rw t at e))
    (λ t. took_none part from p ls room (rw t at e))

-- only D has a leaf that needs no octet, and it stands last
one_spare : (i : Item) → most i ≤ 1 + least i
one_spare (value c v) = omega arith
one_spare rest = omega arith
one_spare (struct t) = omega arith
one_spare (array t) = omega arith

few_spares : (t : Items) (left : ℕ) (a : Bool) → PartRules t left a → mosts t ≤ 1 + leasts t
unfolding PartRules mosts leasts
few_spares end left a k = omega arith
few_spares (more (value c v) t) left a k = omega (arith, few_spares t left a k.2)
few_spares (more rest t) left a k = rw (k.1 refl) (omega arith)
few_spares (more (struct u) t) left a k = omega (arith, few_spares t left a k.2)
few_spares (more (array u) t) left a k = omega (arith, few_spares t left a k.2)

-- directly inside A(..) there is none, and items take octets
no_spares : (t : Items) (left : ℕ) → PartRules t left true → mosts t ≤ leasts t
unfolding PartRules ItemRules mosts leasts
no_spares end left k = omega arith
no_spares (more (value c v) t) left k = omega (arith, no_spares t left k.2)
no_spares (more rest t) left k = impossible (cc k.0)
no_spares (more (struct u) t) left k = omega (arith, no_spares t left k.2)
no_spares (more (array u) t) left k = omega (arith, no_spares t left k.2)

some_least : (t : Items) (left : ℕ) → PartRules t left true → HasItem t → 1 ≤ leasts t
unfolding PartRules ItemRules leasts
some_least end left k some = absurd some
some_least (more (value c v) t) left k some = omega arith
some_least (more rest t) left k some = impossible (cc k.0)
some_least (more (struct u) t) left k some = omega arith
some_least (more (array u) t) left k some = impossible (cc k.0.0)

mutual
  unfolding item_reads ItemRules PartRules mosts leasts

  took_item : (i : Item) (left : ℕ) (a : Bool) (part : List ℕ) (from p : ℕ) (ls : List Leaf)
      → ItemRules i left a → from ≤ length part → item_reads i part from ≡ upto p ls → Took part from p ls (least i) (most i)
  took_item (value c v) left a part from p ls k room e =
      let w = leaf_fit c (span_of v part from) p ls e in
      let f = span_fits v part from w.0 w.1 p room c k w.2 in
      rw w.3 (record { onward = omega arith; within = f.1; few = omega arith; ordered = (f.2, f.3) })
  took_item rest left a part from p ls k room e =
      let w = leaf_fit 68 (Ok (rest_of part from)) p ls e in
      let s = same _ _ _ _ _ _ w.2 in
      rw w.3 (record { onward = omega arith; within = omega arith; few = omega arith; ordered = (omega arith, omega arith) })
  took_item (struct t) left a part from p ls k room e =
      let w = contents_fit (counted_at part from) (λ start stop. part_reads t (take stop part) start) p ls e in
      let f = counted_fits part from w.0 w.1 p room w.2 in
      let size : length (take p part) ≡ p = length-take-le p part f.2 in
      let g = took_part t (left - 1) false (take p part) w.0 p ls k.2 (rw size (omega arith)) w.3 in
      record {
        onward = omega (arith, g.onward);
        within = f.2;
        few = omega (arith, g.onward, g.few, few_spares t (left - 1) false k.2);
        ordered = order_from from w.0 p ls (omega arith) g.ordered;
      }
  took_item (array t) left a part from p ls k room e =
      took_elements part (λ q. part_reads t part q) (length part - from) from p ls
      (λ q r ms here e. loosen (took_part t (left - 1) true part q r ms k.3 here e) (omega arith) (omega (arith, no_spares t (left - 1) k.3)))
      room e

  took_part : (t : Items) (left : ℕ) (a : Bool) (part : List ℕ) (from p : ℕ) (ls : List Leaf)
      → PartRules t left a → from ≤ length part → part_reads t part from ≡ upto p ls → Took part from p ls (leasts t) (mosts t)
  took_part end left a part from p ls k room e = took_none part from p ls room e
  took_part (more i t) left a part from p ls k room e =
      took_both part from (item_reads i part from) (λ q. part_reads t part q) p ls (least i) (most i) (leasts t) (mosts t)
      (λ q ms e. took_item i left a part from q ms k.0 room e) (λ q here ns e. took_part t left a part q p ns k.2 here e) e

-- ---- what callers ask

-- no element of an array takes zero octets, and it has at most a leaf for each
pub element_took : (t : Items) (left : ℕ) (part : List ℕ) (from p : ℕ) (ls : List Leaf) → PartRules t left true → HasItem t → from ≤ length part
    → part_reads t part from ≡ upto p ls → Took part from p ls 1 1
element_took t left part from p ls rules some room e =
    loosen (took_part t left true part from p ls rules room e) (some_least t left rules some) (omega (arith, no_spares t left rules))

-- so an A is an element and then the A, as long as an octet is left
pub array_more : (t : Items) (left : ℕ) (part : List ℕ) (from : ℕ) → PartRules t left true → HasItem t → from < length part
    → item_reads (array t) part from ≡ and_then (part_reads t part from) (λ p. item_reads (array t) part p)
unfolding item_reads
array_more t left part from rules some h =
    elements_more (λ p. part_reads t part p) (length part)
    (λ q r ms room e. let g = element_took t left part q r ms rules some room e in (omega (arith, g.onward), g.within)) from h

-- an item has at most one leaf more than octets, and so has a part
pub item_took : (i : Item) (left : ℕ) (a : Bool) (part : List ℕ) (from p : ℕ) (ls : List Leaf) → ItemRules i left a → from ≤ length part
    → item_reads i part from ≡ upto p ls → Took part from p ls 0 1
item_took i left a part from p ls rules room e = loosen (took_item i left a part from p ls rules room e) (omega arith) (omega (arith, one_spare i))

pub part_took : (t : Items) (left : ℕ) (a : Bool) (part : List ℕ) (from p : ℕ) (ls : List Leaf) → PartRules t left a → from ≤ length part
    → part_reads t part from ≡ upto p ls → Took part from p ls 0 1
part_took t left a part from p ls rules room e = loosen (took_part t left a part from p ls rules room e) (omega arith) (omega (arith, few_spares t left a rules))

-- where a part may have one leaf more it has neither a t nor an A: each letter is a leaf
lettered : (t : Items) (left : ℕ) (a : Bool) (part : List ℕ) (from p : ℕ) (ls : List Leaf) → PartRules t left a → leasts t < mosts t
    → part_reads t part from ≡ upto p ls → length ls ≤ length (print t)
unfolding item_reads PartRules mosts leasts print
lettered end left a part from p ls k spare e = absurd (omega arith)
lettered (more (value c v) t) left a part from p ls k spare e =
    let w = one_leaf c (span_of v part from) (λ q. part_reads t part q) p ls e in
    omega (arith, w.3, lettered t left a part w.0 p w.1 k.2 (omega arith) w.2)
lettered (more rest t) left a part from p ls k spare e =
    let w = one_leaf 68 (Ok (rest_of part from)) (λ q. part_reads t part q) p ls e in
    let nothing : w.1 ≡ [] = cc (w.2, ap (λ u. part_reads u part w.0) (k.1 refl)) in
    omega (arith, w.3, ap length nothing)
lettered (more (struct u) t) left a part from p ls k spare e = absurd (omega (arith, few_spares t left a k.2))
lettered (more (array u) t) left a part from p ls k spare e = absurd (omega (arith, ap mosts (k.1 refl)))

-- no more leaves than octets, or than letters
pub part_few : (t : Items) (left : ℕ) (a : Bool) (part : List ℕ) (from p : ℕ) (ls : List Leaf) (n : ℕ) → PartRules t left a → from ≤ length part
    → part_reads t part from ≡ upto p ls → length part ≤ n → length (print t) ≤ n → length ls ≤ n
part_few t left a part from p ls n rules room e octets letters =
    by_test (ltb (leasts t) (mosts t))
    (λ spare. omega (arith, lettered t left a part from p ls rules (ltb-true (leasts t) (mosts t) spare) e))
    (λ none. let g = took_part t left a part from p ls rules room e in omega (arith, g.within, g.few, ltb-false (leasts t) (mosts t) none))
