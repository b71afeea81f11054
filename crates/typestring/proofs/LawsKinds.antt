-- What a letter's kind tells of the letter.
use mathlib.Core.Path.{◌≡◌}
use Prim.Native.Nat.{ℕ, ◌<◌}
use native.Mathlib.Omega.{arith}
use borrow.Author.Tests.{eqb-true}
use lib.Dec.{eqb}
use Rattle.octets.proofs.LawsTests.{by_test}
use Rattle.typestring.specs.declared.kind.ItemKind.{ItemKind}
use Rattle.typestring.specs.declared.kind.ItemKind.TheVariants as kind
use Rattle.typestring.specs.declared.kind.Value.{Value}
use Rattle.typestring.specs.declared.kind.Value.TheVariants as value
use Rattle.std.specs.Prelude.{Some, IfSome}
use Rattle.typestring.specs.Kind.{kind_of}

-- values take octets, and a packed integer is an i
abbrev pub ValueLetter : ℕ → Value → Type 0
ValueLetter c value.Bool = Unit {0}
ValueLetter c (value.Fixed width) = 0 < width
ValueLetter c value.Packed = c ≡ 105
ValueLetter c value.Text = Unit {0}
ValueLetter c value.Counted = Unit {0}

-- D, t and A are one letter each
abbrev pub LetterOf : ℕ → ItemKind → Type 0
LetterOf c (kind.Value v) = ValueLetter c v
LetterOf c kind.Rest = c ≡ 68
LetterOf c kind.Struct = c ≡ 116
LetterOf c kind.Array = c ≡ 65

letter_kind : (c : ℕ) → IfSome (kind_of c) (LetterOf c)
unfolding kind_of
letter_kind c =
    by_test (eqb c 98) (λ e. rw e tt) (λ e. rw e (
    by_test (eqb c 67) (λ e. rw e (omega arith)) (λ e. rw e (
    by_test (eqb c 99) (λ e. rw e (omega arith)) (λ e. rw e (
    by_test (eqb c 83) (λ e. rw e (omega arith)) (λ e. rw e (
    by_test (eqb c 115) (λ e. rw e (omega arith)) (λ e. rw e (
    by_test (eqb c 76) (λ e. rw e (omega arith)) (λ e. rw e (
    by_test (eqb c 108) (λ e. rw e (omega arith)) (λ e. rw e (
    by_test (eqb c 105) (λ e. rw e (eqb-true c 105 e)) (λ e. rw e (
    by_test (eqb c 54) (λ e. rw e (omega arith)) (λ e. rw e (
    by_test (eqb c 69) (λ e. rw e (omega arith)) (λ e. rw e (
    by_test (eqb c 101) (λ e. rw e (omega arith)) (λ e. rw e (
    by_test (eqb c 85) (λ e. rw e tt) (λ e. rw e (
    by_test (eqb c 100) (λ e. rw e tt) (λ e. rw e (
    by_test (eqb c 68) (λ e. rw e (eqb-true c 68 e)) (λ e. rw e (
    by_test (eqb c 116) (λ e. rw e (eqb-true c 116 e)) (λ e. rw e (
    by_test (eqb c 65) (λ e. rw e (eqb-true c 65 e)) (λ e. rw e (
    tt))))))))))))))))))))))))))))))))

pub letter_of : (c : ℕ) (k : ItemKind) → kind_of c ≡ Some k → LetterOf c k
letter_of c k e = rw e at (letter_kind c)
