-- Laws of where values stand: a value that stands in a part takes octets, and all it takes are the part's.
use mathlib.Core.List.{List}
use mathlib.Core.Path.{◌≡◌, refl, ap}
use Prim.Native.Nat.{ℕ, ◌+◌, ◌-◌, ◌<◌, ◌≤◌}
use native.Mathlib.Omega.{arith}
use borrow.Author.Tests.{ltb-true, ltb-false}
use lib.Dec.{ltb, leb}
use lib.ListN.{length, get_or, take, drop}
use Rattle.octets.proofs.LawsTests.{by_test, impossible}
use Rattle.octets.specs.Finding.{before}
use Rattle.octets.specs.LittleEndian.{le_at}
use Rattle.utf8.specs.Utf8.{is_utf8}
use Rattle.packed.specs.Packed.{packed_at}
use Rattle.packed.specs.declared.Packed.{Packed}
use Rattle.packed.specs.declared.Fault.{Fault}
use Rattle.std.specs.Prelude.{Option, Some, Result, Ok, Err}
use Rattle.packed.proofs.OneSpelling.{place_after}
use Rattle.typestring.specs.declared.kind.Value.{Value}
use Rattle.typestring.specs.declared.kind.Value.TheVariants as value
use Rattle.typestring.specs.declared.kind.ItemKind.TheVariants as kind
use Rattle.typestring.specs.Kind.{kind_of}
use Rattle.typestring.proofs.LawsKinds.{letter_of}
use Rattle.datatype.specs.declared.leaf.Span.{Span}
use Rattle.datatype.specs.declared.leaf.Misfit.{Misfit}
use Rattle.datatype.specs.Leaf.{fixed_at, bool_at, number_span, text_at, counted_at, span_of, stands, unfit}

-- ---- one span, one misfit

pub same : (a b c start size next : ℕ) → stands a b c ≡ stands start size next → (a ≡ start) × (b ≡ size) × (c ≡ next)
same a b c start size next e =
    let one : Span = record { start = a; size = b; next = c } in
    let other : Span = record { start = start; size = size; next = next } in
    let same : one ≡ other = cc in
    (ap (λ s. s.start) same, ap (λ s. s.size) same, ap (λ s. s.next) same)

pub one_cause : {A : Type 0} (v w : Option Fault) → unfit {A = A} v ≡ unfit w → v ≡ w
one_cause v w e =
    let one : Misfit = record { cause = v } in
    let other : Misfit = record { cause = w } in
    let same : one ≡ other = cc in
    ap (λ m. m.cause) same

module _ (part : List ℕ) (from start size next : ℕ) where
  abbrev Fits : Type 0
  Fits = (from < next) × (next ≤ length part) × (from ≤ start) × (start + size ≤ next)

  fixed_fits : (width : ℕ) → from ≤ length part → 0 < width → fixed_at width part from ≡ stands start size next → Fits
  unfolding fixed_at
  fixed_fits width h w e =
      by_test (ltb (length part - from) width) (λ t. impossible (cc (rw t at e)))
      (λ t. let s = same _ _ _ _ _ _ (rw t at e) in omega (arith, ltb-false (length part - from) width t))

  number_fits : (r : Result Packed Fault) → packed_at part from ≡ r → number_span from r ≡ stands start size next → Fits
  unfolding number_span
  number_fits (Err f) r e = impossible cc
  number_fits (Ok p) r e = let s = same _ _ _ _ _ _ e in omega (arith, place_after part from p.number p.next r)

  text_fits : (n : ℕ) → text_at n part from ≡ stands start size next → Fits
  unfolding text_at
  text_fits n e =
      by_test (ltb (from + n) (length part))
      (λ t. by_test (is_utf8 (take n (drop from part)))
      (λ u. let s = same _ _ _ _ _ _ (rw (t, u) at e) in omega (arith, ltb-true (from + n) (length part) t)) (λ u. impossible (cc (rw (t, u) at e))))
      (λ t. impossible (cc (rw t at e)))

  pub counted_fits : from ≤ length part → counted_at part from ≡ stands start size next → (start ≡ from + 2) × (next ≡ start + size) × (next ≤ length part)
  unfolding counted_at
  counted_fits h e =
      by_test (ltb (length part - from) 2) (λ t. impossible (cc (rw t at e)))
      (λ t. by_test (ltb (length part - (from + 2)) (le_at part from 2)) (λ t'. impossible (cc (rw (t, t') at e)))
      (λ t'. let s = same _ _ _ _ _ _ (rw (t, t') at e) in
      omega (arith, ltb-false (length part - from) 2 t, ltb-false (length part - (from + 2)) (le_at part from 2) t')))

pub span_fits : (v : Value) (part : List ℕ) (from start size next : ℕ) → from ≤ length part → (letter : ℕ) → kind_of letter ≡ Some (kind.Value v)
    → span_of v part from ≡ stands start size next → (from < next) × (next ≤ length part) × (from ≤ start) × (start + size ≤ next)
unfolding span_of bool_at
span_fits value.Bool part from start size next h letter k e =
    by_test (leb (get_or part from 0) 1) (λ t. fixed_fits part from start size next 1 h (omega arith) (rw t at e)) (λ t. impossible (cc (rw t at e)))
span_fits (value.Fixed width) part from start size next h letter k e =
    fixed_fits part from start size next width h (letter_of letter (kind.Value (value.Fixed width)) k) e
span_fits value.Packed part from start size next h letter k e = number_fits part from start size next (packed_at part from) refl e
span_fits value.Text part from start size next h letter k e = text_fits part from start size next (before 0 (drop from part)) e
span_fits value.Counted part from start size next h letter k e = let c = counted_fits part from start size next h e in omega arith
