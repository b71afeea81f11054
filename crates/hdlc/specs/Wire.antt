-- What was received, told by its octets alone (01, Whole histories).
use Rattle.std.specs.Prelude.{Bool, true, false, cond, not, ◌≡◌, ℕ, ◌/◌, ltb, eqb, length, take}
use mathlib.Core.List.{List, [], ◌∷◌, ◌++◌, foldl}
use Rattle.std.specs.Int.Bits.{bit_xor}
use Rattle.octets.specs.Body.{header_of, SpinelBody}
use Rattle.octets.specs.Runs.{each, emitted}
use Rattle.frame.specs.Fcs.{fcs}
use Rattle.frame.specs.Kind.{is_flag, is_escape, is_skipped}
use Rattle.hdlc.specs.Fate.{Fated, checked, unchecked, decided, given, Read, later}
use Rattle.hdlc.specs.Reader.{max_gathered, body_of, check_of}

-- ---- one piece: the octets between two flags

-- "take out 11, 13 and F8"
unfoldable pub kept : List ℕ → List ℕ
kept p = each (λ b. cond (is_skipped b) [] (b ∷ [])) p

-- "then undo the escapes": what an octet stands for where an escape is pending and where none is, and whether one is pending after it
unfoldable pub meant : Bool → ℕ → List ℕ
meant true b = bit_xor b 0x20 ∷ []
meant false b = cond (is_escape b) [] (b ∷ [])

unfoldable pub pends : Bool → ℕ → Bool
pends true b = false
pends false b = is_escape b

-- the octets that a piece stands for, and whether it ends in an escape
unfoldable pub gathered : List ℕ → List ℕ
gathered p = emitted meant pends false (kept p)

unfoldable pub cut_escape : List ℕ → Bool
cut_escape p = foldl pends false (kept p)

-- the last three fates, by the octets that a piece stands for; "its body is all but the last two octets"
unfoldable pub content_fate : List ℕ → Fated
content_fate g =
    cond (ltb (length g) 4) (unchecked 2)
    (cond (not (eqb (check_of g) (fcs (body_of g)))) (unchecked 3)
    (cond (not (eqb (header_of g / 64) 2)) (unchecked 6) (checked (body_of g))))

-- "Fates are tried in the order 4, 5, 2, 3, 6"; an empty piece has none, and one "then not empty that meets none of fates 2 to 6 is a
-- checked frame"
unfoldable pub piece_fate : List ℕ → Fated
piece_fate p =
    cond (ltb max_gathered (length (gathered p))) (unchecked 4)
    (cond (cut_escape p) (unchecked 5) (cond (eqb (length (gathered p)) 0) (unchecked 0) (content_fate (gathered p))))

-- what makes a piece a checked frame with this body (proofs/CheckedBodies.antt)
pub record CheckedPiece (p body : List ℕ) : Type 0 where
  pub whole : cut_escape p ≡ false
  pub first : body_of (gathered p) ≡ body
  pub check : check_of (gathered p) ≡ fcs body
  pub bounds : SpinelBody body

-- ---- the wire: "Cut this at the flags; what follows the last is unfinished"

-- the piece that an octet ends, if any, and the piece that is open after it
unfoldable pub ended : List ℕ → ℕ → List (List ℕ)
ended p b = cond (is_flag b) (p ∷ []) []

unfoldable pub grown : List ℕ → ℕ → List ℕ
grown p b = cond (is_flag b) [] (p ++ (b ∷ []))

-- of octets that come after an open piece p: the pieces that they finish, and the one that they leave unfinished
unfoldable pub finished : List ℕ → List ℕ → List (List ℕ)
finished p xs = emitted ended grown p xs

unfoldable pub unfinished : List ℕ → List ℕ → List ℕ
unfinished p xs = foldl grown p xs

-- ---- the fates of pieces, and their checked bodies

unfoldable pub fates_of : List (List ℕ) → List Fated
fates_of ps = each (λ p. given (piece_fate p)) ps

-- "A checked frame is one with fate 1"; the bodies of those among fates
unfoldable pub checked_of : List Fated → List (List ℕ)
checked_of vs = each (λ v. cond (eqb v.number 1) (v.body ∷ []) []) vs

-- the checked bodies of the pieces that octets finish after an open piece p
unfoldable pub checked_in : List ℕ → List ℕ → List (List ℕ)
checked_in p xs = checked_of (fates_of (finished p xs))

-- ---- a call reads "its input to the first flag with a fate, that flag included, else all"

-- it ends in a piece: the one with the fate, else the unfinished one
abbrev pub Call : Type 0
Call = Read (List ℕ)

-- the fate that an octet gives to the piece before it
unfoldable pub piece_fate_at : List ℕ → ℕ → Fated
piece_fate_at p b = cond (is_flag b) (piece_fate p) (unchecked 0)

unfoldable pub call : List ℕ → List ℕ → Call
call p [] = record { fate = unchecked 0; read = 0; state = p }
call p (b ∷ bs) = cond (decided (piece_fate_at p b)) (record { fate = piece_fate_at p b; read = 1; state = p }) (later 1 (call (grown p b) bs))

-- the octets that it read
unfoldable pub call_reads : List ℕ → List ℕ → List ℕ
call_reads p xs = take (call p xs).read xs

-- "Lay end to end what the unrefused calls read"; each goes on with the piece that the last one left
unfoldable pub wire : List ℕ → List (List ℕ) → List ℕ
wire p xss = emitted call_reads (λ q xs. unfinished q (call_reads q xs)) p xss
