-- Laws of written frames: octets as they are sent, one by one, and a frame in the order in which it is written.
use mathlib.Core.Path.{◌≡◌, ap, ◌∙◌}
use mathlib.Core.List.{List, [], ◌∷◌, ◌++◌, append_assoc}
use Prim.Native.Nat.{ℕ, ◌+◌, ◌<◌, ◌≤◌}
use native.Mathlib.Omega.{arith}
use lib.ListN.{length, get_or, drop, length-append}
use Rattle.octets.specs.LittleEndian.{le_octets}
use Rattle.octets.specs.Writing.{Wrote}
use Rattle.octets.proofs.LawsLists.{drop_next}
use Rattle.octets.proofs.LawsLittleEndian.{length_le}
use Rattle.octets.proofs.LawsRuns.{each_append}
use Rattle.octets.proofs.LawsWriting.{front_count, front_held}
use Rattle.frame.specs.Fcs.{fcs}
use Rattle.frame.specs.Frame.{sent, stuffed, with_check, frame, written, writing}

stuffed_append : (xs ys : List ℕ) → stuffed (xs ++ ys) ≡ stuffed xs ++ stuffed ys
unfolding stuffed
stuffed_append xs ys = each_append sent xs ys

pub stuffed_next : (xs : List ℕ) (i : ℕ) → i < length xs → stuffed (drop i xs) ≡ sent (get_or xs i 0) ++ stuffed (drop (i + 1) xs)
unfolding stuffed
stuffed_next xs i h = ap stuffed (drop_next xs i h)

pub stuffed_next_length : (xs : List ℕ) (i : ℕ) → i < length xs
    → length (stuffed (drop i xs)) ≡ length (sent (get_or xs i 0)) + length (stuffed (drop (i + 1) xs))
stuffed_next_length xs i h = ap length (stuffed_next xs i h) ∙ length-append (sent (get_or xs i 0)) _

pub checked_length : (body : List ℕ) → length (with_check body) ≡ length body + 2
unfolding with_check
checked_length body = length-append body _ ∙ ap (λ n. length body + n) (length_le 2 _)

-- ---- a frame in the order in which it is written

module _ (body : List ℕ) {check : List ℕ} (e : check ≡ le_octets 2 (fcs body)) where
  pub frame_parts : frame body ≡ (0x7e ∷ []) ++ (stuffed body ++ (stuffed check ++ (0x7e ∷ [])))
  unfolding frame with_check
  frame_parts = rw (stuffed_append, append_assoc, e)

  pub frame_length : length (frame body) ≡ length (stuffed body) + (length (stuffed check) + 2)
  frame_length = ap length frame_parts ∙ simp length-append (omega arith)

-- a frame that is written from the front
pub frame_written : {out out' : List ℕ} {next : ℕ} (body : List ℕ) → length (frame body) ≤ length out
    → Wrote out out' 0 next (frame body) → written next out' ≡ writing body out
unfolding writing
frame_written body room w = λ i. record { count = front_count room w i; output = front_held room w i }
