-- PROMISE: a frame that was written is read back. A fresh reader with any assembly buffer of 1,302 octets or more reads a body's frame to
-- its last flag, with fate 1 where the top two header bits are 10 and fate 6 where not, and leaves body and check at the front of the
-- buffer; the frame's octets alone tell the same fate, with the body where it is 1, and leave nothing unfinished. So the frame of a Spinel
-- body, and whatever octets behind it, have that checked body and then those of these octets.
use mathlib.Core.Path.{◌≡◌, refl, sym, ap, ◌∙◌}
use mathlib.Core.List.{List, [], ◌∷◌, ◌++◌}
use Prim.Native.Nat.{ℕ, suc, ◌+◌, ◌-◌, ◌≤◌}
use native.Mathlib.Omega.{arith}
use borrow.Author.Tests.{le-ltb, eq-eqb, ne_eqb}
use lib.ListN.{length, take, drop, length-append}
use lib.Seq.{take_at, drop_at, take_all, take-length}
use Rattle.octets.specs.Body.{Body, SpinelBody}
use Rattle.octets.specs.Octets.{Octets}
use Rattle.octets.specs.LittleEndian.{le, le_at, le_octets}
use Rattle.octets.proofs.LawsLittleEndian.{length_le}
use Rattle.octets.proofs.LittleEndianRoundTrip.{number_back}
use Rattle.frame.specs.Fcs.{fcs}
use Rattle.frame.specs.Kind.{is_flag}
use Rattle.frame.specs.Frame.{stuffed, with_check, frame}
use Rattle.frame.proofs.LawsFcs.{fcs_bound}
use Rattle.frame.proofs.LawsFrame.{checked_length}
use Rattle.hdlc.specs.Fate.{given, later}
use Rattle.hdlc.specs.Reader.{body_of, check_of, frame_fate, headed, max_gathered, fresh, assembling, run}
use Rattle.hdlc.specs.Wire.{kept, gathered, cut_escape, piece_fate, grown, finished, unfinished, fates_of, checked_of, checked_in, piece_fate_at, call, call_reads}
use Rattle.hdlc.specs.States.{reader_after, over, holding, closed_form, frame_read}
use Rattle.hdlc.proofs.LawsFates.{headed_checked, headed_decided, content_fate_lem}
use Rattle.hdlc.proofs.LawsStuffing.{stuffed_gives, stuffed_passed}
use Rattle.hdlc.proofs.LawsStates.{over_few}
use Rattle.hdlc.proofs.ClosedForm.{call_closed}
use Rattle.hdlc.proofs.LawsCalls.{reads}
use Rattle.hdlc.proofs.CheckedBodies.{checked_append}

-- the first flag ends nothing
first_flag : (xs : List ℕ) → call [] (0x7e ∷ xs) ≡ later 1 (call [] xs)
unfolding call piece_fate_at piece_fate grown is_flag gathered cut_escape kept
first_flag xs = refl

module _ (body : List ℕ) (size : Body body) (octets : Octets body) where
  checked_body : body_of (with_check body) ≡ body
  unfolding body_of with_check
  checked_body = take_at body (le_octets 2 (fcs body)) (length (with_check body) - 2) (omega (arith, checked_length body))

  checked_check : check_of (with_check body) ≡ fcs body
  unfolding check_of with_check le_at
  checked_check =
      ap (λ l. le (take 2 l)) (drop_at body (le_octets 2 (fcs body)) (length (with_check body) - 2) (omega (arith, checked_length body)))
      ∙ ap le (take_all 2 (le_octets 2 (fcs body)) (omega (arith, length_le 2 (fcs body))))
      ∙ number_back 2 (fcs body) (fcs_bound body octets)

  checked_fate : frame_fate (with_check body) ≡ headed body
  unfolding frame_fate
  checked_fate =
      simp (
        le-ltb (length (with_check body)) 4 (omega (arith, checked_length body, size.0)),
        eq-eqb (check_of (with_check body)) (fcs (body_of (with_check body))) (checked_check ∙ ap fcs (sym checked_body)),
      )
      (ap headed checked_body)

  frame_piece : piece_fate (stuffed (with_check body)) ≡ headed body
  unfolding piece_fate
  frame_piece =
      let s = stuffed_gives (with_check body) in
      simp (
        s.0,
        s.1,
        le-ltb max_gathered (length (with_check body)) (omega (arith, checked_length body, size.1)),
        ne_eqb (length (with_check body)) 0 (λ e. omega (arith, checked_length body)),
      )
      (sym (content_fate_lem (with_check body)) ∙ checked_fate)

  last_flag : call (stuffed (with_check body)) (0x7e ∷ []) ≡ record { fate = headed body; read = 1; state = stuffed (with_check body) }
  unfolding call piece_fate_at is_flag
  last_flag = rw (frame_piece, headed_decided body)

  frame_call : call [] (frame body) ≡ record { fate = headed body; read = length (frame body); state = stuffed (with_check body) }
  unfolding frame
  frame_call =
      let q = stuffed (with_check body) in
      let all : 1 + (length q + 1) ≡ suc (length (q ++ (0x7e ∷ []))) = omega (arith, length-append q (0x7e ∷ [])) in
      first_flag (q ++ (0x7e ∷ []))
      ∙ ap (later 1) (stuffed_passed (with_check body) [] (0x7e ∷ []) ∙ ap (later (length q)) last_flag)
      ∙ (λ i. record { fate = headed body; read = all i; state = q })

  filled : (a : List ℕ) → over (gathered (stuffed (with_check body))) a ≡ with_check body ++ drop (length body + 2) a
  filled a =
      ap (λ g. over g a) (stuffed_gives (with_check body)).0
      ∙ over_few (with_check body) a (omega (arith, checked_length body, size.1))
      ∙ ap (λ n. with_check body ++ drop n a) (checked_length body)

  closed_frame : (a : List ℕ)
      → closed_form (record { fate = headed body; read = length (frame body); state = stuffed (with_check body) }) a
      ≡ frame_read body a
  unfolding closed_form
  closed_frame a = rw (headed_decided body, filled a)

  pub round_trip : (a : List ℕ) → max_gathered ≤ length a → run (assembling fresh a) (frame body) ≡ frame_read body a
  unfolding holding reader_after over gathered cut_escape kept
  round_trip a room = call_closed (frame body) [] a room ∙ ap (λ c. closed_form c a) frame_call ∙ closed_frame a

  -- ---- the frame, told by its octets alone

  frame_reads : call_reads [] (frame body) ≡ frame body
  unfolding call_reads
  frame_reads = rw (frame_call, take-length)

  pub frame_told : fates_of (finished [] (frame body)) ≡ headed body ∷ []
  unfolding given
  frame_told = rw (frame_reads, frame_call, headed_decided body) at (reads (frame body) []).tells

  pub frame_leaves : unfinished [] (frame body) ≡ []
  frame_leaves = rw (frame_reads, frame_call, headed_decided body) at (reads (frame body) []).leaves

-- ---- a frame of a Spinel body, by the octets alone

module _ (body : List ℕ) (spinel : SpinelBody body) (octets : Octets body) where
  size : Body body
  size = (spinel.0, spinel.1)

  -- it is one checked body
  pub frame_checked : checked_in [] (frame body) ≡ body ∷ []
  unfolding checked_in checked_of
  frame_checked = ap checked_of (frame_told body size octets) ∙ rw (headed_checked body spinel.2)

  -- and octets behind it have the checked bodies that they have alone
  pub frame_then : (xs : List ℕ) → checked_in [] (frame body ++ xs) ≡ body ∷ checked_in [] xs
  frame_then xs = checked_append [] (frame body) xs ∙ rw (frame_checked, frame_leaves body size octets)
