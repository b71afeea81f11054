-- Octets as they are sent stand for themselves and hold no flag.
use mathlib.Core.Bool.{Bool, true, false, cond}
use mathlib.Core.Path.{◌≡◌, refl, sym, ap, ◌∙◌}
use mathlib.Core.List.{List, [], ◌∷◌, ◌++◌, append_assoc, append-nil}
use Prim.Native.Nat.{ℕ}
use lib.ListN.{length, length-append}
use Rattle.frame.specs.Kind.{is_flag, is_escape, is_skipped}
use Rattle.frame.proofs.LawsKinds.{Tests, by_octet}
use Rattle.frame.specs.Frame.{sent, stuffed}
use Rattle.hdlc.specs.Fate.{later}
use Rattle.hdlc.specs.Wire.{kept, meant, pends, gathered, cut_escape, grown, piece_fate_at, call}
use Rattle.hdlc.proofs.LawsReading.{later_zero, later_later}
use Rattle.hdlc.proofs.LawsPieces.{gathered_append, cut_append}

record Sent (b : ℕ) : Type 0 where
  gives : gathered (sent b) ≡ b ∷ []
  whole : cut_escape (sent b) ≡ false
  -- a call goes on behind it
  passed : (p xs : List ℕ) → call p (sent b ++ xs) ≡ later (length (sent b)) (call (p ++ sent b) xs)

-- an escape and what it is for
escaped_passed : (p xs : List ℕ) (b : ℕ) → later 1 (later 1 (call ((p ++ (0x7d ∷ [])) ++ (b ∷ [])) xs)) ≡ later 2 (call (p ++ (0x7d ∷ b ∷ [])) xs)
escaped_passed p xs b = later_later 1 1 _ ∙ ap (λ q. later 2 (call q xs)) (append_assoc p (0x7d ∷ []) (b ∷ []))

plain_sent : (b : ℕ) → Tests b false false false → Sent b
unfolding sent gathered cut_escape kept meant pends call piece_fate_at grown
plain_sent b t =
    record {
      gives = simp (t.flag, t.escape, t.skipped);
      whole = simp (t.flag, t.escape, t.skipped);
      passed = λ p xs. simp (t.flag, t.escape, t.skipped);
    }

is_sent : (b : ℕ) → Sent b
unfolding sent is_flag is_escape is_skipped gathered cut_escape kept meant pends call piece_fate_at grown
is_sent =
    by_octet Sent
    (record { gives = refl; whole = refl; passed = λ p xs. escaped_passed p xs 0x5e })
    (record { gives = refl; whole = refl; passed = λ p xs. escaped_passed p xs 0x5d })
    (record { gives = refl; whole = refl; passed = λ p xs. escaped_passed p xs 0x31 })
    (record { gives = refl; whole = refl; passed = λ p xs. escaped_passed p xs 0x33 })
    (record { gives = refl; whole = refl; passed = λ p xs. escaped_passed p xs 0xd8 })
    plain_sent

pub stuffed_gives : (xs : List ℕ) → (gathered (stuffed xs) ≡ xs) × (cut_escape (stuffed xs) ≡ false)
unfolding stuffed gathered cut_escape kept
stuffed_gives [] = (refl, refl)
stuffed_gives (x ∷ xs) =
    let s = is_sent x in
    let rest = stuffed_gives xs in (
      gathered_append (sent x) (stuffed xs) ∙ rw (s.gives, s.whole) (ap (λ l. x ∷ l) rest.0),
      cut_append (sent x) (stuffed xs) ∙ rw s.whole rest.1,
    )

-- with an escape behind them or not
pub spelled : (xs : List ℕ) (e : Bool) → (gathered (stuffed xs ++ cond e (0x7d ∷ []) []) ≡ xs) × (cut_escape (stuffed xs ++ cond e (0x7d ∷ []) []) ≡ e)
unfolding is_escape is_skipped kept meant pends
spelled xs true =
    let s = stuffed_gives xs in (
      gathered_append (stuffed xs) (0x7d ∷ []) ∙ rw (s.0, s.1) (append-nil xs),
      cut_append (stuffed xs) (0x7d ∷ []) ∙ rw s.1,
    )
spelled xs false = rw (append-nil (stuffed xs)) (stuffed_gives xs)

pub stuffed_passed : (xs p ys : List ℕ) → call p (stuffed xs ++ ys) ≡ later (length (stuffed xs)) (call (p ++ stuffed xs) ys)
unfolding stuffed
stuffed_passed [] p ys = ap (λ q. call q ys) (sym (append-nil p)) ∙ sym (later_zero _)
stuffed_passed (x ∷ xs) p ys =
    ap (call p) (append_assoc (sent x) (stuffed xs) ys)
    ∙ (is_sent x).passed p (stuffed xs ++ ys)
    ∙ ap (later (length (sent x))) (stuffed_passed xs (p ++ sent x) ys)
    ∙ later_later (length (sent x)) (length (stuffed xs)) _
    ∙ (λ i. later (sym (length-append (sent x) (stuffed xs)) i) (call (append_assoc p (sent x) (stuffed xs) i) ys))
