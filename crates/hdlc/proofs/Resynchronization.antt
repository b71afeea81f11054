-- PROMISE: a flag ends whatever was open. Whatever a reader holds, and whatever stands in its assembly buffer of 1,302 octets or more, 7E
-- and then the frame of a body give first the fate of what was open, if it has one, and then fate 1 where the body's top two header bits
-- are 10 and fate 6 where not, with that body at the front of the buffer. By the octets alone, whatever piece was open: any octets, then the
-- frame of a Spinel body, then any octets have the checked bodies of the first and a flag, then that body, then those of the last.
use mathlib.Core.Bool.{true, false, cond}
use mathlib.Core.Path.{◌≡◌, refl, sym, ap, ◌∙◌}
use mathlib.Core.List.{List, [], ◌∷◌, ◌++◌, append_assoc, append-nil}
use Prim.Native.Nat.{ℕ, suc, ◌+◌, ◌≤◌}
use native.Mathlib.Omega.{arith}
use lib.ListN.{length, drop, drop_of_length-le}
use lib.Seq.{drop-length}
use Rattle.octets.specs.Body.{Body, SpinelBody}
use Rattle.octets.specs.Octets.{Octets}
use Rattle.octets.proofs.LawsTests.{by_test}
use Rattle.frame.specs.Kind.{is_flag}
use Rattle.frame.specs.Frame.{stuffed, with_check, frame}
use Rattle.hdlc.specs.declared.reader.Reader.{Reader}
use Rattle.hdlc.specs.Fate.{Fated, decided, given, later}
use Rattle.hdlc.specs.Reader.{headed, max_gathered, fresh, Assembling, assembling, after_octet, flag_fate, fate_at, Outcome, run}
use Rattle.hdlc.specs.Wire.{kept, gathered, cut_escape, piece_fate, ended, grown, finished, unfinished, fates_of, checked_of, checked_in}
use Rattle.hdlc.specs.States.{frame_read}
use Rattle.hdlc.specs.Histories.{calls_tell, calls_leave, offers, offered}
use Rattle.hdlc.proofs.LawsFates.{headed_decided}
use Rattle.hdlc.proofs.LawsPieces.{unfinished_append}
use Rattle.hdlc.proofs.CheckedBodies.{checked_append}
use Rattle.hdlc.proofs.RoundTrip.{round_trip, frame_then}

-- what 7E and a body's frame give
pub record Resynchronized (r : Reader) (a body : List ℕ) : Type 0 where
  pub tells : calls_tell (assembling r a) (offered (assembling r a) (0x7e ∷ frame body)) ≡ given (flag_fate (assembling r a)) ++ (headed body ∷ [])
  pub leaves : calls_leave (assembling r a) (offered (assembling r a) (0x7e ∷ frame body)) ≡ assembling fresh (with_check body ++ drop (length body + 2) a)

-- ---- calls by their outcomes

-- what calls tell, and what they leave
record Calls (h : Assembling) (xss : List (List ℕ)) (vs : List Fated) (h' : Assembling) : Type 0 where
  tells : calls_tell h xss ≡ vs
  leaves : calls_leave h xss ≡ h'

-- what a call with a fate left unread is offered again
offers_on : {h h' : Assembling} {o : Outcome} {vs : List Fated} (n : ℕ) (xs : List ℕ) → run h xs ≡ o → decided o.fate ≡ true
    → Calls o.state (offers n o.state (drop o.read xs)) vs h' → Calls h (offers (suc n) h xs) (given o.fate ++ vs) h'
unfolding calls_tell calls_leave offers
offers_on {o = o} n xs is t rest =
    let again : Outcome → List (List ℕ) = λ z. cond (decided z.fate) (offers n z.state (drop z.read xs)) [] in
    let go_on : again o ≡ offers n o.state (drop o.read xs) = simp t in
    record {
      tells =
          ap (λ z. given z.fate ++ calls_tell z.state (again z)) is
          ∙ ap (λ l. given o.fate ++ l) (ap (calls_tell o.state) go_on ∙ rest.tells);
      leaves = ap (λ z. calls_leave z.state (again z)) is ∙ ap (calls_leave o.state) go_on ∙ rest.leaves;
    }

-- no octets: nothing is told and nothing changes
used_up : (n : ℕ) (h : Assembling) (xs : List ℕ) → xs ≡ [] → Calls h (offers (suc n) h xs) [] h
unfolding calls_tell calls_leave offers run given
used_up n h xs none = rw none (record { tells = refl; leaves = refl })

told_as : {h h' : Assembling} {xss : List (List ℕ)} {vs ws : List Fated} → vs ≡ ws → Calls h xss vs h' → Calls h xss ws h'
told_as e c = record { tells = c.tells ∙ e; leaves = c.leaves }

module _ (r : Reader) (a body : List ℕ) (room : max_gathered ≤ length a) (size : Body body) (octets : Octets body) where
  -- what was open has a fate: the flag ends a call
  decided_first : decided (flag_fate (assembling r a)) ≡ true
      → run (assembling r a) (0x7e ∷ frame body) ≡ record { fate = flag_fate (assembling r a); read = 1; state = assembling fresh a }
  unfolding run fate_at after_octet is_flag
  decided_first t = simp t

  -- it has none: the call goes on
  undecided_first : decided (flag_fate (assembling r a)) ≡ false → run (assembling r a) (0x7e ∷ frame body) ≡ later 1 (frame_read body a)
  unfolding run fate_at after_octet is_flag
  undecided_first t = simp t (ap (later 1) (round_trip body size octets a room))

  -- what a call with the frame's fate tells, and nothing after it
  told_frame : given (headed body) ++ [] ≡ headed body ∷ []
  unfolding given
  told_frame = simp (headed_decided body)

  untold : decided (flag_fate (assembling r a)) ≡ false → given (flag_fate (assembling r a)) ≡ []
  unfolding given
  untold t = simp t

  -- a frame is read by one call, and the next has nothing to read
  frame_calls : (n : ℕ) → Calls (assembling fresh a) (offers (suc (suc n)) (assembling fresh a) (frame body)) (headed body ∷ []) (frame_read body a).state
  frame_calls n =
      told_as told_frame
      (offers_on (suc n) (frame body) (round_trip body size octets a room) (headed_decided body) (used_up n _ _ (drop-length (frame body))))

  calls : Calls (assembling r a) (offered (assembling r a) (0x7e ∷ frame body)) (given (flag_fate (assembling r a)) ++ (headed body ∷ [])) (frame_read body a).state
  unfolding offered frame
  calls =
      by_test (decided (flag_fate (assembling r a))) (λ t. offers_on _ (0x7e ∷ frame body) (decided_first t) t (frame_calls _))
      (λ t.
      told_as (told_frame ∙ sym (ap (λ l. l ++ (headed body ∷ [])) (untold t)))
      (offers_on _ (0x7e ∷ frame body) (undecided_first t) (headed_decided body)
      (used_up _ _ _ (drop_of_length-le (0x7e ∷ frame body) {i = 1 + length (frame body)} (omega arith)))))

  pub resynchronizes : Resynchronized r a body
  resynchronizes = record { tells = calls.tells; leaves = calls.leaves }

-- ---- by the octets alone

-- a flag leaves nothing open
flag_ends : (p xs : List ℕ) → unfinished p (xs ++ (0x7e ∷ [])) ≡ []
unfolding unfinished grown is_flag
flag_ends p xs = unfinished_append p xs (0x7e ∷ [])

-- one with nothing before it is no frame
flag_alone : (xs : List ℕ) → checked_in [] (0x7e ∷ xs) ≡ checked_in [] xs
unfolding checked_in checked_of fates_of finished ended grown is_flag piece_fate gathered cut_escape kept given
flag_alone xs = refl

-- so what a flag follows and what follows it have their own bodies
flag_parts : (p xs ys : List ℕ) → checked_in p (xs ++ (0x7e ∷ ys)) ≡ checked_in p (xs ++ (0x7e ∷ [])) ++ checked_in [] ys
flag_parts p xs ys =
    ap (checked_in p) (sym (append_assoc xs (0x7e ∷ []) ys))
    ∙ checked_append p (xs ++ (0x7e ∷ [])) ys
    ∙ ap (λ q. checked_in p (xs ++ (0x7e ∷ [])) ++ checked_in q ys) (flag_ends p xs)

-- and a second flag adds none
pub flag_again : (p xs : List ℕ) → checked_in p ((xs ++ (0x7e ∷ [])) ++ (0x7e ∷ [])) ≡ checked_in p (xs ++ (0x7e ∷ []))
unfolding checked_in checked_of fates_of finished
flag_again p xs =
    ap (checked_in p) (append_assoc xs (0x7e ∷ []) (0x7e ∷ []))
    ∙ flag_parts p xs (0x7e ∷ [])
    ∙ ap (λ l. checked_in p (xs ++ (0x7e ∷ [])) ++ l) (flag_alone [])
    ∙ append-nil (checked_in p (xs ++ (0x7e ∷ [])))

-- the first flag of a frame ends what was open before it
pub frame_after : (body : List ℕ) → SpinelBody body → Octets body
    → (p xs ys : List ℕ) → checked_in p (xs ++ (frame body ++ ys)) ≡ checked_in p (xs ++ (0x7e ∷ [])) ++ (body ∷ checked_in [] ys)
unfolding frame
frame_after body spinel octets p xs ys =
    let rest : List ℕ = stuffed (with_check body) ++ (0x7e ∷ []) in
    flag_parts p xs (rest ++ ys)
    ∙ ap (λ l. checked_in p (xs ++ (0x7e ∷ [])) ++ l) (sym (flag_alone (rest ++ ys)) ∙ frame_then body spinel octets ys)
