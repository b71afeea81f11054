-- Laws of fates: of gathered octets, and of pieces.
use mathlib.Core.Bool.{true, false}
use mathlib.Core.Path.{◌≡◌, refl, sym, ap, ◌∙◌}
use mathlib.Core.List.{List, [], ◌∷◌}
use Prim.Native.Nat.{ℕ, ◌-◌, ◌/◌, ◌≤◌, ◌<◌}
use native.Mathlib.Omega.{arith}
use borrow.Author.Tests.{ltb-false, eqb-true, eq-eqb, not-false}
use Rattle.std.specs.Prelude.{Some}
use lib.Dec.{ltb, eqb}
use lib.ListN.{length, take, length-take}
use lib.Seq.{length-take-le, get_or-take, take-take}
use Rattle.octets.specs.Body.{header_of}
use Rattle.octets.proofs.LawsLists.{empty}
use Rattle.octets.proofs.LawsTests.{by_test, chosen, impossible}
use Rattle.frame.specs.Fcs.{fcs}
use Rattle.hdlc.specs.declared.reader.Fate.{Fate}
use Rattle.hdlc.specs.declared.reader.Fate.TheVariants.{Unfinished, Checked, Short, WrongCheck, TooLong, CutEscape, BadHeader}
use Rattle.hdlc.specs.Fate.{Fated, checked, unchecked, decided, given, fated, told}
use Rattle.hdlc.specs.Reader.{max_gathered, body_of, check_of, headed, frame_fate}
use Rattle.hdlc.specs.Wire.{gathered, content_fate, piece_fate, CheckedPiece}

-- ---- gathered octets

-- the header is the first octet gathered
pub header_gathered : (g : List ℕ) → 4 ≤ length g → header_of (body_of g) ≡ header_of g
unfolding body_of
header_gathered g long = get_or-take (length g - 2) g 0 0 (omega arith)

pub headed_checked : (body : List ℕ) → header_of body / 64 ≡ 2 → headed body ≡ checked body
unfolding headed
headed_checked body top = rw (eq-eqb _ _ top)

pub headed_decided : (body : List ℕ) → decided (headed body) ≡ true
unfolding headed
headed_decided body = by_test (eqb (header_of body / 64) 2) (λ t. simp t) (λ t. simp t)

-- the reader's fate is the one that the octets tell
pub content_fate_lem : (g : List ℕ) → frame_fate g ≡ content_fate g
unfolding frame_fate content_fate headed
content_fate_lem g =
    by_test (ltb (length g) 4) (λ t. simp t)
    (λ t. simp (t, header_gathered g (ltb-false _ _ t))
    (by_test (eqb (check_of g) (fcs (body_of g))) (λ u. simp u (by_test (eqb (header_of g / 64) 2) (λ v. simp v) (λ v. simp v))) (λ u. simp u)))

-- by the fates of gathered octets
by_content : (P : Fated → Type 0) (g : List ℕ) → P (unchecked 2) → P (unchecked 3) → P (unchecked 6)
    → (4 ≤ length g → check_of g ≡ fcs (body_of g) → header_of g / 64 ≡ 2 → P (checked (body_of g))) → P (content_fate g)
unfolding content_fate
by_content P g few wrong other sound =
    chosen P _ (λ _. few)
    (λ f. chosen P _ (λ _. wrong)
    (λ w. chosen P _ (λ _. other) (λ o. sound (ltb-false _ _ f) (eqb-true _ _ (not-false _ w)) (eqb-true _ _ (not-false _ o)))))

pub body_size : (g : List ℕ) → length (body_of g) ≡ length g - 2
unfolding body_of
body_size g = length-take-le (length g - 2) g (omega arith)

-- a checked body is not all of them
body_shorter : (g : List ℕ) → (frame_fate g).number ≡ 1 → length (frame_fate g).body < length g
body_shorter g =
    rw (content_fate_lem g)
    (by_content (λ f. f.number ≡ 1 → length f.body < length g) g (λ e. absurd (omega arith)) (λ e. absurd (omega arith))
    (λ e. absurd (omega arith)) (λ many _ _ _. omega (arith, body_size g)))

-- so it stands at the front of the buffer that they stand in
fated_front : (f : Fate) (n : ℕ) (a : List ℕ) → fated f (take n a) ≡ frame_fate (take n a) → fated f a ≡ frame_fate (take n a)
fated_front Unfinished n a e = e
fated_front (Checked m) n a e =
    let size = ap (λ z. length z.body) e in
    let less = body_shorter (take n a) (sym (ap (λ z. z.number) e)) in
    ap checked (sym (take-take m n a (omega (arith, length-take m (take n a), length-take n a)))) ∙ e
fated_front Short n a e = e
fated_front WrongCheck n a e = e
fated_front TooLong n a e = e
fated_front CutEscape n a e = e
fated_front BadHeader n a e = e

pub frame_decided : (g : List ℕ) → decided (frame_fate g) ≡ true
frame_decided g = rw (content_fate_lem g) (by_content (λ f. decided f ≡ true) g refl refl refl (λ _ _ _. refl))

pub told_front : (f : Fate) (n : ℕ) (a : List ℕ) → fated f (take n a) ≡ frame_fate (take n a) → told (Some f) a ≡ given (frame_fate (take n a))
unfolding given
told_front f n a e = rw (frame_decided (take n a)) (ap (λ z. z ∷ []) (fated_front f n a e))

-- ---- pieces

-- by the fates of a piece
pub by_piece : (P : Fated → Type 0) (p : List ℕ) → P (unchecked 4) → P (unchecked 5) → (gathered p ≡ [] → P (unchecked 0))
    → P (unchecked 2) → P (unchecked 3) → P (unchecked 6) → (CheckedPiece p (body_of (gathered p)) → P (checked (body_of (gathered p))))
    → P (piece_fate p)
unfolding piece_fate
by_piece P p long cut none few wrong other sound =
    let g = gathered p in
    chosen P (ltb max_gathered (length g)) (λ _. long)
    (λ l. chosen P _ (λ _. cut)
    (λ c. chosen P _ (λ n. none (empty g (eqb-true _ _ n)))
    (λ _. by_content P g few wrong other
    (λ many check top.
    let most = ltb-false max_gathered (length g) l in
    let size = body_size g in
    sound
    (record { whole = c; first = refl; check = check; bounds = (omega arith, omega arith, ap (λ h. h / 64) (header_gathered g many) ∙ top) })))))

-- a flag that decides nothing ends a piece that stands for nothing
pub undecided_empty : (p : List ℕ) → decided (piece_fate p) ≡ false → gathered p ≡ []
undecided_empty p =
    by_piece (λ f. decided f ≡ false → gathered p ≡ []) p (λ e. impossible cc) (λ e. impossible cc) (λ g _. g) (λ e. impossible cc)
    (λ e. impossible cc) (λ e. impossible cc) (λ _ e. impossible cc)
