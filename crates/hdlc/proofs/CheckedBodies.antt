-- PROMISE: what a checked frame is. By the octets alone, a piece has fate 1 exactly when no escape is cut in it, the octets that it stands
-- for are a body and that body's check, and the body has 2 to 1,300 octets and the top two header bits 10. So a call gives fate 1 for such
-- bodies only, and a body with no other fate. Octets in two parts have the checked bodies of the first, and then those of the second after
-- the piece that the first leaves open.
use types.Run.{OneOf, miss}
use denote.Enum.Declared.{tag_of}
use mathlib.Core.Bool.{false, cond}
use mathlib.Core.Logic.{⊎_elim}
use mathlib.Core.Path.{◌≡◌, refl, sym, ap, subst, ◌∙◌}
use mathlib.Core.List.{List, [], ◌∷◌, ◌++◌, append-nil}
use Prim.Native.Nat.{ℕ, ◌-◌, ◌≤◌}
use native.Mathlib.Omega.{arith}
use borrow.Author.Tests.{le-ltb, eq-eqb, ne_eqb, eqb-true}
use lib.Dec.{eqb}
use lib.ListN.{length, get_or, take, length-take}
use Rattle.octets.specs.Body.{SpinelBody}
use Rattle.octets.proofs.LawsRuns.{each_append}
use Rattle.octets.proofs.LawsTests.{by_test}
use Rattle.hdlc.specs.declared.reader.Fate.{Fate}
use Rattle.hdlc.specs.declared.reader.Fate.TheVariants.{Unfinished, Checked, Short, WrongCheck, TooLong, CutEscape, BadHeader}
use Rattle.hdlc.specs.declared.reader.Reader.{Reader}
use Rattle.hdlc.specs.Fate.{Fated, checked, given, fate_number, body_in}
use Rattle.hdlc.specs.Reader.{max_gathered, assembling, outcome, run}
use Rattle.hdlc.specs.Rules.{Rules}
use Rattle.hdlc.specs.Wire.{gathered, content_fate, piece_fate, CheckedPiece, finished, unfinished, fates_of, checked_of, checked_in, call}
use Rattle.hdlc.specs.States.{open_piece, closed_form}
use Rattle.hdlc.specs.contracts.reader.Fate.{the_type as fate-type}
use Rattle.hdlc.proofs.LawsFates.{header_gathered, body_size, by_piece}
use Rattle.hdlc.proofs.LawsPieces.{fates_append}
use Rattle.hdlc.proofs.LawsCalls.{call_fate}
use Rattle.hdlc.proofs.ClosedForm.{closed_form_lem, same_room}

pub checked_piece : (p : List ℕ) → (piece_fate p).number ≡ 1 → CheckedPiece p (piece_fate p).body
checked_piece p =
    by_piece (λ f. f.number ≡ 1 → CheckedPiece p f.body) p (λ e. absurd (omega arith)) (λ e. absurd (omega arith)) (λ _ e. absurd (omega arith))
    (λ e. absurd (omega arith)) (λ e. absurd (omega arith)) (λ e. absurd (omega arith)) (λ c _. c)

pub piece_checked : (p body : List ℕ) → CheckedPiece p body → piece_fate p ≡ checked body
unfolding piece_fate content_fate
piece_checked p body c =
    let g = gathered p in
    let size : length body ≡ length g - 2 = sym (ap length c.first) ∙ body_size g in
    let many : 4 ≤ length g = omega (arith, c.bounds) in
    let header = sym (header_gathered g many) ∙ ap (λ b. get_or b 0 0) c.first in
    simp (
      le-ltb max_gathered (length g) (omega (arith, c.bounds)),
      c.whole,
      ne_eqb (length g) 0 (λ e. omega arith),
      le-ltb (length g) 4 many,
      c.first,
      eq-eqb _ _ c.check,
      header,
      eq-eqb _ _ c.bounds.2,
    )

pub checked_body : (r : Reader) (a xs : List ℕ) → Rules r → max_gathered ≤ length a
    → let f = (run (assembling r a) xs).fate in f.number ≡ 1 → SpinelBody f.body
unfolding closed_form
checked_body r a xs keeps room =
    let p = open_piece r a in
    rw (closed_form_lem r a xs keeps room)
    (λ e.
    ⊎_elim (λ u. absurd (omega (arith, ap (λ f. f.number) u)))
    (λ u. subst (λ f. SpinelBody f.body) (sym u) (checked_piece (call p xs).state (sym (ap (λ f. f.number) u) ∙ e)).bounds) (call_fate xs p))

-- as the code gives it: the count of `Checked` is the body's length, and the body stands at the front of the buffer
pub checked_count : (r : Reader) (a xs : List ℕ) {n k : ℕ} {next : Reader} {b : List ℕ} → Rules r → max_gathered ≤ length a
    → outcome (Checked n) k next b ≡ run (assembling r a) xs → SpinelBody (take n b) × (n ≤ length b)
checked_count r a xs {n} {b = b} keeps room e =
    let body = subst SpinelBody (ap (λ o. o.fate.body) (sym e)) (checked_body r a xs keeps room (ap (λ o. o.fate.number) (sym e))) in
    let size = ap (λ o. length o.state.assembly) e ∙ same_room r a xs keeps room in
    (body, omega (arith, length-take n b))

-- the `else` of an `if let` tells that the tag is one of the others: a fate that is not 1 has no body
pub tag_unchecked : (f : Fate) (a : List ℕ) → OneOf (0 ∷ 2 ∷ 3 ∷ 4 ∷ 5 ∷ 6 ∷ []) (tag_of fate-type f) → (eqb (fate_number f) 1 ≡ false) × (body_in f a ≡ [])
tag_unchecked Unfinished a o = (refl, refl)
tag_unchecked (Checked n) a o = absurd (miss (0 ∷ 2 ∷ 3 ∷ 4 ∷ 5 ∷ 6 ∷ []) 1 tt o)
tag_unchecked Short a o = (refl, refl)
tag_unchecked WrongCheck a o = (refl, refl)
tag_unchecked TooLong a o = (refl, refl)
tag_unchecked CutEscape a o = (refl, refl)
tag_unchecked BadHeader a o = (refl, refl)

-- the checked body of one fate, if it is 1
pub checked_given : (f : Fated) → checked_of (given f) ≡ cond (eqb f.number 1) (f.body ∷ []) []
unfolding checked_of given
checked_given f =
    by_test (eqb f.number 0) (λ t. rw (t, ap (λ n. eqb n 1) (eqb-true _ _ t))) (λ t. rw t (append-nil _))

-- ---- octets in two parts

pub checked_append : (p xs ys : List ℕ) → checked_in p (xs ++ ys) ≡ checked_in p xs ++ checked_in (unfinished p xs) ys
unfolding checked_in checked_of
checked_append p xs ys =
    ap checked_of (fates_append p xs ys) ∙ each_append _ (fates_of (finished p xs)) (fates_of (finished (unfinished p xs) ys))
