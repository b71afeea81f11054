-- Laws of one receiving call.
use mathlib.Core.Path.{◌≡◌, refl, sym, ap, ◌∙◌}
use mathlib.Core.Bool.{true, false, cond}
use mathlib.Core.List.{List, [], ◌∷◌, map, append-nil}
use Prim.Native.Nat.{ℕ, ◌≤◌, ◌<◌}
use native.Mathlib.Omega.{arith}
use borrow.Author.Tests.{not-false, eqb-true, ne_eqb, ltb-false}
use Rattle.std.specs.Prelude.{Ok, Err}
use lib.Dec.{eqb, ltb}
use lib.ListN.{length, take, drop, length-append}
use lib.Seq.{take-append_seam}
use Rattle.octets.specs.Body.{min_body}
use Rattle.octets.specs.Runs.{each}
use Rattle.octets.proofs.LawsTests.{by_test, both_told}
use Rattle.frame.specs.Frame.{frame, written, writing}
use Rattle.frame.proofs.FrameBounds.{frame_bounds}
use Rattle.hdlc.specs.declared.reader.Reader.{Reader}
use Rattle.hdlc.specs.Fate.{given}
use Rattle.hdlc.specs.Reader.{max_gathered, assembling, Outcome}
use Rattle.hdlc.specs.Rules.{rules as reader_rules}
use Rattle.hdlc.specs.Wire.{checked_of}
use Rattle.hdlc.proofs.CheckedBodies.{checked_given}
use Rattle.device.specs.State.{max_reply}
use Rattle.device.specs.declared.state.Device.{Device}
use Rattle.device.specs.Rules.{rules}
use Rattle.engine.specs.Engine.{engine}
use Rattle.engine.specs.Merged.{device_after, replies_to}
use Rattle.engine.proofs.ReplyBounds.{reply_bounds}
use Rattle.serial.specs.declared.receiving.Refusal.{Refusal}
use Rattle.serial.specs.declared.receiving.Refusal.TheVariants.{BadState, SmallAssembly}
use Rattle.serial.specs.declared.receiving.Received.{Received}
use Rattle.serial.specs.Receiving.{Result, refusal_number, result_of, Keeps, breaks_rules, refused, admit, unrefused, receive, receive_body, framed}
use Rattle.serial.specs.Histories.{reply_in}

pub rules_kept : (d : Device) (r : Reader) → breaks_rules d r ≡ false → (rules d ≡ true) × (reader_rules r ≡ true)
unfolding breaks_rules
rules_kept d r e = both_told (not-false _ e)

-- ---- what both calls test first

module _ (d : Device) (r : Reader) (a : List ℕ) where
  -- one of their refusals is that of either call
  module _ {e : Refusal} (is : Err e ≡ admit d r a) (input out : List ℕ) where
    both_refused : (refused (refusal_number e) d r a out ≡ receive d r input a out) × (refused (refusal_number e) d r a out ≡ receive_body d r input a out)
    unfolding admit receive receive_body
    both_refused =
        by_test (breaks_rules d r) (λ t. let found = rw t at is in let same : e ≡ BadState = cc in rw (t, same) (refl, refl))
        (λ t.
        by_test (ltb (length a) max_gathered) (λ u. let found = rw (t, u) at is in let same : e ≡ SmallAssembly = cc in rw (t, u, same) (refl, refl))
        (λ u. let found = rw (t, u) at is in cc))

    pub refused_call : refused (refusal_number e) d r a out ≡ receive d r input a out
    refused_call = both_refused.0

    pub refused_body : refused (refusal_number e) d r a out ≡ receive_body d r input a out
    refused_body = both_refused.1

  -- a call that goes on has nothing of them
  pub admit_ok : Ok tt ≡ admit d r a → Keeps d r a
  unfolding admit
  admit_ok is =
      by_test (breaks_rules d r) (λ t. let found = rw t at is in cc)
      (λ t.
      by_test (ltb (length a) max_gathered) (λ u. let found = rw (t, u) at is in cc)
      (λ u. record { device = (rules_kept d r t).0; reader = (rules_kept d r t).1; room = ltb-false _ _ u }))

-- ---- a call that was not refused, by the bodies that it checked

module _ (octets : List ℕ → List ℕ) (d : Device) (o : Outcome) (out : List ℕ) {bs : List (List ℕ)} (e : checked_of (given o.fate) ≡ bs) where
  pub found : bs ≡ cond (eqb o.fate.number 1) (o.fate.body ∷ []) []
  found = sym e ∙ checked_given o.fate

  pub unrefused_device : (unrefused octets d o out).device ≡ device_after d bs
  unfolding unrefused device_after
  unrefused_device = rw found (by_test (eqb o.fate.number 1) (λ t. rw t) (λ t. rw t))

  pub unrefused_octets : take (unrefused octets d o out).written (unrefused octets d o out).output ≡ each octets (replies_to d bs)
  unfolding unrefused replies_to
  unrefused_octets = rw found (by_test (eqb o.fate.number 1) (λ t. simp (t, take-append_seam, append-nil)) (λ t. simp t))

  pub unrefused_reply : ((b : List ℕ) → eqb (length (octets b)) 0 ≡ false) → reply_in (unrefused octets d o out) ≡ map octets (replies_to d bs)
  unfolding unrefused reply_in replies_to
  unrefused_reply some =
      rw found (by_test (eqb o.fate.number 1) (λ t. simp (t, some (engine d o.fate.body).reply, take-append_seam)) (λ t. simp t))

-- a frame is never empty
pub frame_some : (b : List ℕ) → eqb (length (frame b)) 0 ≡ false
frame_some b = ne_eqb (length (frame b)) 0 (λ z. omega (arith, frame_bounds b))

-- the rest is what the reader gave
pub unrefused_read : (octets : List ℕ → List ℕ) (d : Device) (o : Outcome) (out : List ℕ)
    → ((unrefused octets d o out).number ≡ o.fate.number) × ((unrefused octets d o out).read ≡ o.read)
    × (assembling (unrefused octets d o out).reader (unrefused octets d o out).assembly ≡ o.state)
unfolding unrefused
unrefused_read octets d o out = by_test (eqb o.fate.number 1) (λ t. rw t (sym (eqb-true _ _ t), refl, refl)) (λ t. rw t (refl, refl, refl))

-- ---- before framing and framed

pub unrefused_framed : (d : Device) (o : Outcome) (space out : List ℕ) → rules d ≡ true
    → unrefused frame d o out ≡ framed (unrefused (λ b. b) d o space) out
unfolding unrefused framed
unrefused_framed d o space out keeps =
    let reply = (engine d o.fate.body).reply in
    let some : eqb (length reply) 0 ≡ false = ne_eqb (length reply) 0 (λ z. let b = reply_bounds d o.fate.body keeps in omega arith) in
    by_test (eqb o.fate.number 1) (λ t. simp (t, some, take-append_seam)) (λ t. simp t)

-- nothing is written, or a reply, and that stands at the front of the space
pub record Fits (r : Result) : Type 0 where
  pub most : r.written ≤ max_reply
  pub least : 0 < r.written → min_body ≤ r.written
  pub within : r.written ≤ length r.output

pub unrefused_fits : (d : Device) (o : Outcome) (space : List ℕ) → rules d ≡ true → Fits (unrefused (λ b. b) d o space)
unfolding unrefused
unrefused_fits d o space keeps =
    let reply = (engine d o.fate.body).reply in
    let b = reply_bounds d o.fate.body keeps in
    by_test (eqb o.fate.number 1)
    (λ t. rw t (record { most = omega arith; least = λ _. omega arith; within = omega (arith, length-append reply (drop (length reply) space)) }))
    (λ t. rw t (record { most = omega arith; least = λ z. absurd (omega arith); within = omega arith }))

-- the code's result, framed: nothing was written, or the frame that the writer wrote
pub framed_none : (r : Received) (a xs out : List ℕ) → r.written ≡ 0 → framed (result_of r a xs) out ≡ result_of r a out
unfolding framed
framed_none r a xs out e = rw e

pub framed_some : (r : Received) (a xs out : List ℕ) {out' : List ℕ} {n : ℕ} → 0 < r.written → written n out' ≡ writing (take r.written xs) out
    → framed (result_of r a xs) out
    ≡ result_of (record { answer = r.answer; read = r.read; written = n; device = r.device; reader = r.reader }) a out'
unfolding framed writing
framed_some r a xs out some w =
    rw (ne_eqb r.written 0 (λ z. omega arith), ap (λ z. z.count) w, ap (λ z. z.output) w)
