-- An answer of the reader, the reading that it stands for and the numbers in the list.
use mathlib.Core.Path.{◌≡◌, refl, sym, ap, ◌∙◌}
use mathlib.Core.List.{List, [], ◌∷◌, ◌++◌}
use Prim.Native.Nat.{ℕ, ◌+◌, ◌*◌}
use native.Mathlib.Omega.{arith}
use lib.Dec.{eqb}
use lib.ListN.{length, length-append}
use lib.Seq.{sets}
use Rattle.octets.proofs.LawsTests.{by_test, impossible}
use Rattle.octets.proofs.LawsRuns.{each_append}
use Rattle.octets.proofs.LawsWriting.{sets_append}
use Rattle.datatype.specs.declared.list.Read.{Read}
use Rattle.datatype.specs.declared.leaf.Misfit.{Misfit}
use Rattle.packed.specs.declared.Fault.{Fault}
use Rattle.std.specs.Prelude.{Option, Result, Ok, Err}
use Rattle.datatype.specs.Leaf.{unfit}
use Rattle.datatype.proofs.LawsLeaves.{one_cause}
use Rattle.datatype.specs.Reading.{Leaf, numbers, Reading, misfit, upto, prefixed, and_then, filling}
use Rattle.datatype.specs.Calls.{Did, reached, filling_to}

numbers_append : (ls ms : List Leaf) → numbers (ls ++ ms) ≡ numbers ls ++ numbers ms
unfolding numbers
numbers_append ls ms = each_append (λ (l : Leaf). l.letter ∷ l.start ∷ l.size ∷ []) ls ms

pub length_numbers : (ls : List Leaf) → length (numbers ls) ≡ 3 * length ls
unfolding numbers
length_numbers [] = refl
length_numbers (l ∷ ls) = omega (arith, length_numbers ls)

-- one answer, one place and number of leaves
same : (p n q k : ℕ) → reached p n ≡ reached q k → (p ≡ q) × (n ≡ k)
same p n q k e =
    let one : Read = record { next = p; leaves = n } in
    let other : Read = record { next = q; leaves = k } in
    let same : one ≡ other = cc in
    (ap (λ r. r.next) same, ap (λ r. r.leaves) same)

-- what an answer tells of the reading
pub did_misfit : (m : Reading) (l l' : List ℕ) (k : ℕ) (w : Option Fault) → Did m l l' k (unfit w) → m ≡ misfit w
did_misfit (misfit v) l l' k w d = ap misfit (sym (one_cause w v d))
did_misfit (upto p ls) l l' k w d = impossible (cc d.0)

pub did_upto : (m : Reading) (l l' : List ℕ) (k p n : ℕ) → Did m l l' k (reached p n)
    → (ls : List Leaf) × (m ≡ upto p ls) × (n ≡ k + length ls) × (l' ≡ sets l (3 * k) (numbers ls))
did_upto (misfit w) l l' k p n d = impossible (cc d)
did_upto (upto q ls) l l' k p n d = let s = same p n q (k + length ls) d.0 in (ls, ap (λ r. upto r ls) (sym s.0), s.1, d.1)

-- what is left of a reading, with the list and the leaves so far, gives its answer
abbrev pub Finishes : Reading → List ℕ → ℕ → Reading → List ℕ → ℕ → Type 0
Finishes whole l k left l₁ n = (r : Result Read Misfit) (l₂ : List ℕ) → Did left l₁ l₂ n r → Did whole l l₂ k r

-- nothing read
pub did_none : (l : List ℕ) (p k : ℕ) → Did (upto p []) l l k (reached p k)
unfolding numbers
did_none l p k = (ap (reached p) (omega arith), refl)

-- one reading after another
did_after : (ls : List Leaf) (m : Reading) (l l₁ l₂ : List ℕ) (k n : ℕ) (r : Result Read Misfit) → n ≡ k + length ls → l₁ ≡ sets l (3 * k) (numbers ls)
    → Did m l₁ l₂ n r → Did (prefixed ls m) l l₂ k r
unfolding prefixed
did_after ls (misfit w) l l₁ l₂ k n r count held d = d
did_after ls (upto p ms) l l₁ l₂ k n r count held d =
    let place : 3 * n ≡ 3 * k + length (numbers ls) = omega (arith, length_numbers ls) in (
      d.0 ∙ ap (reached p) (omega (arith, length-append ls ms)),
      rw (numbers_append ls ms) (d.1 ∙ rw (held, place) (sets_append (numbers ls) l (3 * k) (numbers ms))),
    )

pub did_then : (m : Reading) (go : ℕ → Reading) (l l₁ l₂ : List ℕ) (k p n : ℕ) (r : Result Read Misfit) → Did m l l₁ k (reached p n) → Did (go p) l₁ l₂ n r
    → Did (and_then m go) l l₂ k r
unfolding and_then
did_then m go l l₁ l₂ k p n r first second =
    let w = did_upto m l l₁ k p n first in
    rw w.1 (did_after w.0 (go p) l l₁ l₂ k n r w.2 w.3 second)

pub did_not : (m : Reading) (go : ℕ → Reading) (l l₁ l₂ : List ℕ) (k : ℕ) (w : Option Fault) → Did m l l₁ k (unfit w)
    → Did (and_then m go) l l₂ k (unfit w)
unfolding and_then
did_not m go l l₁ l₂ k w first = rw (did_misfit m l l₁ k w first) refl

-- a reading that has to reach a place, or did not fit before
abbrev pub filled_to : ℕ → Result Read Misfit → Result Read Misfit
filled_to stop (Ok r) = filling_to stop r
filled_to stop (Err m) = Err m

pub did_filling : (stop : ℕ) (m : Reading) (l l' : List ℕ) (k : ℕ) (r : Result Read Misfit) → Did m l l' k r → Did (filling stop m) l l' k (filled_to stop r)
unfolding filling
did_filling stop (misfit w) l l' k r d = rw d refl
did_filling stop (upto p ls) l l' k r d = rw d.0 (by_test (eqb p stop) (λ e. rw e (refl, d.1)) (λ e. rw e refl))
