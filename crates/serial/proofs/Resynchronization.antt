-- PROMISE: the first frame after any noise is answered. If what a history's calls read, laid end to end, is any octets xs, then the frame
-- of a body b of 2 to 1,300 octets with top bits 10, then any octets ys, then the checked bodies are those of xs and the frame's first
-- flag, then b, then those of ys, and b's reply is the engine's, on the box after the bodies before it. The same where 7E stands between
-- xs and the frame, and the frame comes last. From any box that keeps its rules, and so from what setup returns.
use mathlib.Core.Path.{◌≡◌, sym, ap, subst, ◌∙◌}
use mathlib.Core.Bool.{true}
use mathlib.Core.List.{List, [], ◌∷◌, ◌++◌, append_assoc, append-nil, map}
use Prim.Native.Nat.{ℕ}
use Rattle.octets.specs.Body.{SpinelBody}
use Rattle.octets.specs.Octets.{Octets}
use Rattle.frame.specs.Frame.{frame}
use Rattle.hdlc.specs.Wire.{finished, fates_of, checked_of, checked_in}
use Rattle.hdlc.proofs.Resynchronization.{flag_again, frame_after}
use Rattle.device.specs.declared.state.Device.{Device}
use Rattle.device.specs.Rules.{rules}
use Rattle.device.specs.Setup.{Setup, device_from}
use Rattle.device.proofs.SetupKeepsRules.{device_from_keeps}
use Rattle.engine.specs.Engine.{engine}
use Rattle.engine.specs.Merged.{device_after, replies_to}
use Rattle.engine.proofs.RepliesInOrder.{mapped_append}
use Rattle.serial.specs.Histories.{History, replies_from, replies_in, laid, bodies}
use Rattle.serial.proofs.Faithful.{writes_replies}

-- b is checked and answered after some bodies and before others, in a history from the box d
pub record AnswersFrom (d : Device) (h : History) (before : List (List ℕ)) (b : List ℕ) (later : List (List ℕ)) : Type 0 where
  pub bodies : bodies h ≡ before ++ (b ∷ later)
  pub replies : let e = device_after d before in
      replies_from d h ≡ map frame (replies_to d before) ++ (frame (engine e b).reply ∷ map frame (replies_to (engine e b).device later))

-- the same in a history from what setup returns
pub record Answers (s : Setup) (h : History) (before : List (List ℕ)) (b : List ℕ) (later : List (List ℕ)) : Type 0 where
  pub bodies : bodies h ≡ before ++ (b ∷ later)
  pub replies : let d = device_after (device_from s) before in
      replies_in s h ≡ map frame (replies_to (device_from s) before) ++ (frame (engine d b).reply ∷ map frame (replies_to (engine d b).device later))

over_setup : {s : Setup} {h : History} {before later : List (List ℕ)} {b : List ℕ} → AnswersFrom (device_from s) h before b later → Answers s h before b later
unfolding replies_in replies_from
over_setup a = record { bodies = a.bodies; replies = a.replies }

module _ (b : List ℕ) (spinel : SpinelBody b) (octets : Octets b) where
  pub resynchronizes_from : (d : Device) → rules d ≡ true → (h : History) (xs ys : List ℕ) → laid h ≡ xs ++ (frame b ++ ys)
      → AnswersFrom d h (checked_in [] (xs ++ (0x7e ∷ []))) b (checked_in [] ys)
  unfolding bodies replies_to
  resynchronizes_from d keeps h xs ys e =
      let before = checked_in [] (xs ++ (0x7e ∷ [])) in
      let all = ap (checked_in []) e ∙ frame_after b spinel octets [] xs ys in
      record {
        bodies = all;
        replies = writes_replies d keeps h ∙ ap (λ bs. map frame (replies_to d bs)) all ∙ mapped_append frame d before (b ∷ checked_in [] ys);
      }

  -- a flag of its own before the frame, and nothing after it: the last reply is b's
  pub last_reply_from : (d : Device) → rules d ≡ true → (h : History) (xs : List ℕ) → laid h ≡ xs ++ (0x7e ∷ frame b)
      → AnswersFrom d h (checked_in [] (xs ++ (0x7e ∷ []))) b []
  unfolding checked_in checked_of fates_of finished
  last_reply_from d keeps h xs e =
      let noise : List ℕ = xs ++ (0x7e ∷ []) in
      let last : laid h ≡ noise ++ (frame b ++ []) = e ∙ sym (ap (λ l. noise ++ l) (append-nil (frame b)) ∙ append_assoc xs (0x7e ∷ []) (frame b)) in
      subst (λ before. AnswersFrom d h before b []) (flag_again [] xs) (resynchronizes_from d keeps h noise [] last)

  pub resynchronizes : (s : Setup) (h : History) (xs ys : List ℕ) → laid h ≡ xs ++ (frame b ++ ys)
      → Answers s h (checked_in [] (xs ++ (0x7e ∷ []))) b (checked_in [] ys)
  resynchronizes s h xs ys e = over_setup (resynchronizes_from (device_from s) (device_from_keeps s) h xs ys e)

  pub last_reply : (s : Setup) (h : History) (xs : List ℕ) → laid h ≡ xs ++ (0x7e ∷ frame b) → Answers s h (checked_in [] (xs ++ (0x7e ∷ []))) b []
  last_reply s h xs e = over_setup (last_reply_from (device_from s) (device_from_keeps s) h xs e)
