-- The reader's state after each octet is the state of the piece after it.
use mathlib.Core.Bool.{Bool, true, false, cond}
use mathlib.Core.Path.{◌≡◌, refl, sym, ap, ap₂, ◌∙◌}
use mathlib.Core.List.{List, [], ◌∷◌, ◌++◌, append_assoc, append-nil}
use Prim.Native.Nat.{ℕ, suc, ◌+◌, ◌≤◌, ◌<◌}
use native.Mathlib.Omega.{arith}
use native.Mathlib.Numerals.{add-one}
use borrow.Author.Tests.{ltb-true, ltb-false, lt-ltb, le-ltb}
use lib.Dec.{ltb, eqb}
use lib.Bits.{bit_xor}
use lib.ListN.{length, take, drop, set, length-append, length-drop, length-take}
use lib.Seq.{take_all, take-append-le, take-append_seam, set_at, drop-cons}
use Rattle.octets.proofs.LawsTests.{by_test, impossible}
use Rattle.frame.specs.Kind.{is_flag, is_escape, is_skipped}
use Rattle.hdlc.specs.Fate.{unchecked, decided}
use Rattle.hdlc.specs.Reader.{frame_fate, max_gathered, gathering, overlong, fresh, assembling, gather, after_content, after_octet, flag_fate, fate_at}
use Rattle.hdlc.specs.Wire.{kept, meant, pends, gathered, cut_escape, piece_fate, grown, piece_fate_at}
use Rattle.hdlc.specs.States.{reader_after, over, holding}
use Rattle.hdlc.proofs.LawsFates.{content_fate_lem, undecided_empty}
use Rattle.hdlc.proofs.LawsPieces.{Adds, gathered_append, skipped_adds, content_adds}

-- ---- gathered octets over a buffer

pub over_few : (g a : List ℕ) → length g ≤ max_gathered → over g a ≡ g ++ drop (length g) a
unfolding over
over_few g a few = ap (λ l. l ++ drop (length l) a) (take_all max_gathered g few)

-- once there are too many, more change nothing
pub over_more : (g xs a : List ℕ) → max_gathered ≤ length g → over (g ++ xs) a ≡ over g a
unfolding over
over_more g xs a many = ap (λ l. l ++ drop (length l) a) (take-append-le max_gathered g xs many)

pub over_length : (g a : List ℕ) → max_gathered ≤ length a → length (over g a) ≡ length a
unfolding over
over_length g a room =
    let few : length (take max_gathered g) ≤ max_gathered = omega (arith, length-take max_gathered g) in
    omega (arith, length-append (take max_gathered g) (drop (length (take max_gathered g)) a), length-drop (length (take max_gathered g)) a)

-- ---- the two cases of a state

pub gathering_state : (p a : List ℕ) → length (gathered p) ≤ max_gathered
    → holding p a ≡ assembling (gathering (length (gathered p)) (cut_escape p)) (gathered p ++ drop (length (gathered p)) a)
unfolding holding reader_after
gathering_state p a few =
    ap₂ assembling (ap (λ t. cond t overlong (gathering (length (gathered p)) (cut_escape p))) (le-ltb max_gathered (length (gathered p)) few)) (over_few (gathered p) a few)

-- with what is known of the escape
gathering_with : (p a : List ℕ) (e : Bool) → cut_escape p ≡ e → length (gathered p) ≤ max_gathered
    → holding p a ≡ assembling (gathering (length (gathered p)) e) (gathered p ++ drop (length (gathered p)) a)
gathering_with p a e t few = gathering_state p a few ∙ ap (λ z. assembling (gathering (length (gathered p)) z) (gathered p ++ drop (length (gathered p)) a)) t

pub overlong_state : (p a : List ℕ) → max_gathered < length (gathered p) → holding p a ≡ assembling overlong (over (gathered p) a)
unfolding holding reader_after
overlong_state p a many =
    ap (λ t. assembling (cond t overlong (gathering (length (gathered p)) (cut_escape p))) (over (gathered p) a)) (lt-ltb max_gathered (length (gathered p)) many)

by_length : {P : Type 0} (p : List ℕ) → (max_gathered < length (gathered p) → P) → (length (gathered p) ≤ max_gathered → P) → P
by_length p many few = by_test (ltb max_gathered (length (gathered p))) (λ t. many (ltb-true _ _ t)) (λ t. few (ltb-false _ _ t))

-- a state that a piece with the same octets leaves too
gathering_as : (p q a : List ℕ) (e : Bool) → Adds p q [] e → length (gathered p) ≤ max_gathered
    → assembling (gathering (length (gathered p)) e) (gathered p ++ drop (length (gathered p)) a) ≡ holding q a
gathering_as p q a e d few =
    let same : gathered q ≡ gathered p = d.octets ∙ append-nil (gathered p) in
    sym
    (gathering_state q a (rw same few)
    ∙ ap₂ (λ g t. assembling (gathering (length g) t) (g ++ drop (length g) a)) same d.cut)

-- an octet is gathered
gathers : (p q a : List ℕ) (x : ℕ) (e : Bool) → Adds p q (x ∷ []) false → max_gathered ≤ length a → length (gathered p) ≤ max_gathered
    → gather (assembling (gathering (length (gathered p)) e) (gathered p ++ drop (length (gathered p)) a)) x ≡ holding q a
unfolding gather
gathers p q a x e d room few =
    let g = gathered p in
    let n = length g in
    let size : length (gathered q) ≡ n + 1 = ap length d.octets ∙ length-append g (x ∷ []) in
    by_test (ltb n max_gathered)
    (λ t.
    let less = ltb-true n max_gathered t in
    let stored : set (g ++ drop n a) n x ≡ gathered q ++ drop (length (gathered q)) a =
    ap (λ l. set (g ++ l) n x) (drop-cons a n 0 (omega arith))
    ∙ set_at g _ _ x n refl
    ∙ sym (append_assoc g (x ∷ []) (drop (suc n) a))
    ∙ ap₂ (λ l k. l ++ drop k a) (sym d.octets) (sym (add-one n) ∙ sym size) in
    simp t (ap₂ assembling (ap₂ gathering (sym size) (sym d.cut)) stored ∙ sym (gathering_state q a (omega arith))))
    (λ t.
    let full = ltb-false n max_gathered t in
    simp t
    (sym
    (overlong_state q a (omega arith)
    ∙ ap (assembling overlong) (ap (λ l. over l a) d.octets ∙ over_more g (x ∷ []) a full ∙ over_few g a few))))

-- ---- an octet that is no flag

-- one that is thrown away
ignored : (p a : List ℕ) (b : ℕ) → max_gathered < length (gathered p) → assembling overlong (over (gathered p) a) ≡ holding (p ++ (b ∷ [])) a
ignored p a b many =
    let longer : length (gathered p) ≤ length (gathered (p ++ (b ∷ []))) =
    omega (arith, ap length (gathered_append p (b ∷ [])) ∙ length-append (gathered p) _) in
    sym
    (overlong_state (p ++ (b ∷ [])) a (omega arith)
    ∙ ap (assembling overlong) (ap (λ l. over l a) (gathered_append p (b ∷ [])) ∙ over_more (gathered p) _ a (omega arith)))

skipped_after : (p a : List ℕ) (b : ℕ) → is_skipped b ≡ true → holding p a ≡ holding (p ++ (b ∷ [])) a
skipped_after p a b s =
    by_length p (λ many. overlong_state p a many ∙ ignored p a b many) (λ few. gathering_state p a few ∙ gathering_as p _ a _ (skipped_adds p b s) few)

content_after : (p a : List ℕ) (b : ℕ) → is_skipped b ≡ false → max_gathered ≤ length a → after_content (holding p a) (is_escape b) b ≡ holding (p ++ (b ∷ [])) a
unfolding after_content meant pends
content_after p a b s room =
    by_length p (λ many. ap (λ h. after_content h (is_escape b) b) (overlong_state p a many) ∙ ignored p a b many)
    (λ few.
    by_test (cut_escape p)
    (λ t. ap (λ h. after_content h (is_escape b) b) (gathering_with p a true t few) ∙ gathers p _ a (bit_xor b 0x20) true (content_adds p b true t s) room few)
    (λ t.
    let adds = content_adds p b false t s in
    ap (λ h. after_content h (is_escape b) b) (gathering_with p a false t few)
    ∙ by_test (is_escape b) (λ e. simp e (gathering_as p _ a true (rw e at adds) few)) (λ e. simp e (gathers p _ a b false (rw e at adds) room few))))

-- ---- a flag

pub flag_piece : (p a : List ℕ) → flag_fate (holding p a) ≡ piece_fate p
unfolding flag_fate piece_fate
flag_piece p a =
    by_length p (λ many. ap flag_fate (overlong_state p a many) ∙ simp (lt-ltb max_gathered (length (gathered p)) many))
    (λ few.
    ap flag_fate (gathering_state p a few)
    ∙ simp (le-ltb max_gathered (length (gathered p)) few)
    (ap (λ f. cond (cut_escape p) (unchecked 5) (cond (eqb (length (gathered p)) 0) (unchecked 0) f))
    (ap frame_fate (take-append_seam (gathered p) _) ∙ content_fate_lem (gathered p))))

pub fate_piece : (p a : List ℕ) (b : ℕ) → fate_at (holding p a) b ≡ piece_fate_at p b
unfolding fate_at piece_fate_at
fate_piece p a b = ap (λ f. cond (is_flag b) f (unchecked 0)) (flag_piece p a)

-- only a flag decides
pub decides_flag : (p : List ℕ) (b : ℕ) → decided (piece_fate_at p b) ≡ true → is_flag b ≡ true
unfolding piece_fate_at
decides_flag p b = by_test (is_flag b) (λ f d. f) (λ f. simp f (λ d. impossible cc))

flag_after : (p a : List ℕ) → decided (piece_fate p) ≡ false → assembling fresh (holding p a).assembly ≡ holding [] a
unfolding holding reader_after gathered cut_escape kept over
flag_after p a u = ap (λ g. assembling fresh (over g a)) (undecided_empty p u)

-- ---- any octet

pub after_undecided : (p a : List ℕ) (b : ℕ) → max_gathered ≤ length a → decided (piece_fate_at p b) ≡ false → after_octet (holding p a) b ≡ holding (grown p b) a
unfolding after_octet grown piece_fate_at
after_undecided p a b room =
    by_test (is_flag b) (λ f. simp f (flag_after p a))
    (λ f. simp f (λ u. by_test (is_skipped b) (λ s. simp s (skipped_after p a b s)) (λ s. simp s (content_after p a b s room))))

pub after_decided : (p a : List ℕ) (b : ℕ) → decided (piece_fate_at p b) ≡ true → after_octet (holding p a) b ≡ assembling fresh (over (gathered p) a)
unfolding after_octet holding
after_decided p a b d = simp (decides_flag p b d)
