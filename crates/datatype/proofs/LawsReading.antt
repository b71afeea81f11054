-- Laws of readings: what two in a row, contents and elements give.
use mathlib.Core.Path.{◌≡◌, refl, sym, ap, ◌∙◌}
use mathlib.Core.List.{List, [], ◌∷◌, ◌++◌}
use Prim.Native.Nat.{ℕ, zero, suc, ◌-◌, ◌≤◌, ◌<◌}
use native.Mathlib.Omega.{arith}
use borrow.Author.Tests.{eqb-true, lt-ltb, le-ltb}
use lib.Dec.{eqb, ltb}
use lib.ListN.{length}
use Rattle.octets.proofs.LawsTests.{by_test, impossible}
use Rattle.datatype.specs.declared.leaf.Span.{Span}
use Rattle.datatype.specs.declared.leaf.Misfit.{Misfit}
use Rattle.datatype.specs.Leaf.{stands}
use Rattle.std.specs.Prelude.{Result, Ok, Err}
use Rattle.datatype.specs.Reading.{Leaf, leaf_of, Reading, misfit, upto, prefixed, and_then, filling, leaf_reads, contents, elements}

-- ---- readings taken apart

-- two readings in a row, where both fit
pub both_fit : (m : Reading) (go : ℕ → Reading) (p : ℕ) (ls : List Leaf) → and_then m go ≡ upto p ls
    → (q : ℕ) × (ms : List Leaf) × (ns : List Leaf) × (m ≡ upto q ms) × (go q ≡ upto p ns) × (ls ≡ ms ++ ns)
unfolding and_then prefixed
both_fit (misfit w) go p ls e = impossible cc
both_fit (upto q ms) go p ls e = second (go q) refl e
  where
    second : (n : Reading) → go q ≡ n → prefixed ms n ≡ upto p ls
        → (q' : ℕ) × (ms' : List Leaf) × (ns : List Leaf) × (upto q ms ≡ upto q' ms') × (go q' ≡ upto p ns) × (ls ≡ ms' ++ ns)
    second (misfit w) e f = impossible cc
    second (upto p' ns) e f = (q, ms, ns, refl, cc, cc)

pub filling_fit : (stop : ℕ) (m : Reading) (p : ℕ) (ls : List Leaf) → filling stop m ≡ upto p ls → (m ≡ upto p ls) × (p ≡ stop)
unfolding filling
filling_fit stop (misfit w) p ls e = impossible cc
filling_fit stop (upto q ms) p ls e =
    by_test (eqb q stop)
    (λ t. let e' = rw t at e in let same : q ≡ p = cc in (e', sym same ∙ eqb-true q stop t))
    (λ t. impossible (cc (rw t at e)))

pub leaf_fit : (c : ℕ) (s : Result Span Misfit) (p : ℕ) (ls : List Leaf) → leaf_reads c s ≡ upto p ls
    → (start : ℕ) × (size : ℕ) × (s ≡ stands start size p) × (ls ≡ leaf_of c start size ∷ [])
unfolding leaf_reads
leaf_fit c (Err m) p ls e = impossible cc
leaf_fit c (Ok s) p ls e = let next : s.next ≡ p = cc in (s.start, s.size, ap (stands s.start s.size) next, cc)

pub one_leaf : (c : ℕ) (s : Result Span Misfit) (go : ℕ → Reading) (p : ℕ) (ls : List Leaf) → and_then (leaf_reads c s) go ≡ upto p ls
    → (q : ℕ) × (ns : List Leaf) × (go q ≡ upto p ns) × (length ls ≡ suc (length ns))
one_leaf c s go p ls e =
    let w = both_fit (leaf_reads c s) go p ls e in
    let f = leaf_fit c s w.0 w.1 w.3 in
    (w.0, w.2, w.4, ap length (rw f.3 at w.5))

pub contents_fit : (s : Result Span Misfit) (go : ℕ → ℕ → Reading) (p : ℕ) (ls : List Leaf) → contents s go ≡ upto p ls
    → (start : ℕ) × (size : ℕ) × (s ≡ stands start size p) × (go start p ≡ upto p ls)
unfolding contents
contents_fit (Err m) go p ls e = impossible cc
contents_fit (Ok s) go p ls e =
    let w = filling_fit s.next (go s.start s.next) p ls e in
    (s.start, s.size, ap (stands s.start s.size) (sym w.1), rw (← w.1) at w.0)

then_same : (m : Reading) (f g : ℕ → Reading) → ((p : ℕ) (ls : List Leaf) → m ≡ upto p ls → f p ≡ g p) → and_then m f ≡ and_then m g
unfolding and_then
then_same (misfit w) f g h = refl
then_same (upto p ls) f g h = ap (prefixed ls) (h p ls refl)

-- ---- elements, where each takes an octet

module _ (go : ℕ → Reading) (stop : ℕ) (moves : (q r : ℕ) (ms : List Leaf) → q ≤ stop → go q ≡ upto r ms → (q < r) × (r ≤ stop)) where
  -- any bound that is enough gives the same
  elements_enough : (m n from : ℕ) → from ≤ stop → stop - from ≤ m → stop - from ≤ n → elements m go from stop ≡ elements n go from stop
  unfolding elements
  elements_enough zero zero from room a b = refl
  elements_enough zero (suc n) from room a b = rw (le-ltb from stop (omega arith))
  elements_enough (suc m) zero from room a b = rw (le-ltb from stop (omega arith))
  elements_enough (suc m) (suc n) from room a b =
      by_test (ltb from stop)
      (λ t. rw t
      (then_same (go from) (λ p. elements m go p stop) (λ p. elements n go p stop)
      (λ r ms e. let w = moves from r ms room e in elements_enough m n r w.1 (omega arith) (omega arith))))
      (λ t. rw t)

  pub elements_more : (from : ℕ) → from < stop → elements (stop - from) go from stop ≡ and_then (go from) (λ p. elements (stop - p) go p stop)
  unfolding elements
  elements_more from h =
      let one_more : stop - from ≡ suc (stop - from - 1) = omega arith in
      rw (one_more, lt-ltb from stop h)
      (then_same (go from) (λ p. elements (stop - from - 1) go p stop) (λ p. elements (stop - p) go p stop)
      (λ r ms e. let w = moves from r ms (omega arith) e in elements_enough (stop - from - 1) (stop - r) r w.1 (omega arith) (omega arith)))

pub elements_done : (go : ℕ → Reading) (n from stop : ℕ) → stop ≤ from → elements n go from stop ≡ upto from []
unfolding elements
elements_done go zero from stop h = refl
elements_done go (suc n) from stop h = rw (le-ltb from stop h)
