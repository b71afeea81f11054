-- PROMISE: "The answer equals the full engine's, for every body and state that keeps its rules." For the number of links of a box that keeps
-- its rules, and for every body that reaches the engine, each class and its report say what the engine does with the body on this box.
use mathlib.Core.Path.{◌≡◌, refl}
use mathlib.Core.Bool.{true}
use mathlib.Core.List.{List, [], ◌∷◌}
use Prim.Native.Nat.{ℕ}
use native.Mathlib.Omega.{arith}
use borrow.Author.Tests.{ltb-true, ltb-false}
use lib.ListN.{drop}
use Rattle.octets.specs.Body.{header_of, SpinelBody}
use Rattle.octets.proofs.LawsRanges.{inside}
use Rattle.octets.proofs.LawsTests.{by_test}
use Rattle.std.specs.Prelude.{Option, None, Result, Ok, Err}
use Rattle.packed.specs.declared.Fault.{Fault}
use Rattle.property.specs.declared.commands.Command.{Command}
use Rattle.property.specs.declared.row.Row.{Row}
use Rattle.device.specs.State.{fresh}
use Rattle.device.specs.Rules.{rules}
use Rattle.device.specs.declared.state.Device.{Device}
use Rattle.device.specs.View.{view_of}
use Rattle.device.proofs.StateRules.{some, few}
use Rattle.request.specs.Verdict.{status_of, verdict as verdict_of}
use Rattle.request.specs.declared.verdict.Refusal.{Refusal}
use Rattle.request.specs.declared.verdict.Request.{Request}
use Rattle.request.specs.declared.verdict.Request.TheVariants as request
use Rattle.reply.specs.Reply.{status_reply}
use Rattle.command.specs.Decision.{judged_by, judged, decision_of, reached, decide}
use Rattle.engine.specs.Engine.{link_of, is_set_up, Response, settled, engine}
use Rattle.engine.proofs.Refusals.{status_set, refusal_status, noop_status, reset_status_lem, not_set_up}
use Rattle.diagnosis.specs.declared.classes.Class.{Class}
use Rattle.diagnosis.specs.declared.classes.Class.TheVariants.{UnsetLink, Stopped, Noop, Reset, Reaches}
use Rattle.diagnosis.specs.Classes.{Report, at_step, reported, verdict_class, link_class, class_of}
use Rattle.diagnosis.specs.Steps.{OnSetUp, numbered, stops, does_noop, does_reset, reaches_property, Told}
use Rattle.diagnosis.proofs.StepsByOctets.{verdict_told}
use Rattle.diagnosis.proofs.Fates.{checked_class}

-- the engine from step 6 on, with a command, a row and the place of the payload
abbrev pub goes_on : Device → List ℕ → Command → Row → ℕ → Response
goes_on d b c r start =
    let v = view_of (link_of b) d in
    settled d (link_of b) (decision_of v (header_of b) (reached v (header_of b) c r (drop start b)))

-- what a class and its report say of the body b on the box d; there is no case for 14 and the fates, so these do not come
pub data Means (d : Device) (b : List ℕ) : Class → Report → Type 0 where
  -- step 1: nothing changes
  by_link : (OnSetUp d.settings.links b → ⊥) → engine d b ≡ record { device = d; reply = status_reply (header_of b) 6 }
      → Means d b UnsetLink (at_step 1 6 None)
  -- steps 2, 4 and 5: a refusal
  by_step : {r : Refusal} {n s : ℕ} {w : Option Fault} → OnSetUp d.settings.links b → verdict_of b ≡ Err r → Told b (stops n s w)
      → engine d b ≡ record { device = status_set d (link_of b) s; reply = status_reply (header_of b) s }
      → Means d b (Stopped r) (at_step n s w)
  -- step 3
  noop : OnSetUp d.settings.links b → Told b does_noop
      → engine d b ≡ record { device = status_set d (link_of b) 0; reply = status_reply (header_of b) 0 }
      → Means d b Noop (at_step 3 0 None)
  reset : OnSetUp d.settings.links b → Told b does_reset
      → engine d b ≡ record { device = fresh d.settings; reply = 0x80 ∷ 0x06 ∷ 0x00 ∷ 0x72 ∷ [] }
      → Means d b Reset (at_step 3 114 None)
  -- steps 1 to 5 have passed
  reaches : {c : Command} {r : Row} {start : ℕ} → OnSetUp d.settings.links b → verdict_of b ≡ Ok (request.Reach c r start)
      → Told b (reaches_property c r start) → engine d b ≡ goes_on d b c r start
      → Means d b Reaches (at_step 6 0 None)

-- what is reported of a step
pub step_report : (n s : ℕ) (w : Option Fault) → at_step n s w ≡ record { number = 0; step = n; status = s; cause = w }
step_report n s w = refl

module _ (d : Device) (b : List ℕ) where
  judged_as : (w : Result Request Refusal) → verdict_of b ≡ w → judged (view_of (link_of b) d) b ≡ judged_by (view_of (link_of b) d) b w
  unfolding judged
  judged_as w e = rw e

  on : is_set_up d.settings b ≡ true → OnSetUp d.settings.links b
  unfolding is_set_up link_of
  on up = ltb-true (link_of b) d.settings.links up

  goes_on_lem : (c : Command) (r : Row) (start : ℕ) → is_set_up d.settings b ≡ true → verdict_of b ≡ Ok (request.Reach c r start)
      → engine d b ≡ goes_on d b c r start
  unfolding engine decide judged_by
  goes_on_lem c r start up e = rw (up, judged_as (Ok (request.Reach c r start)) e)

  by_verdict : is_set_up d.settings b ≡ true → (w : Result Request Refusal) → verdict_of b ≡ w → Told b (numbered w)
      → Means d b (verdict_class w) (reported (verdict_class w))
  unfolding judged_by
  by_verdict up (Err r) e t = by_step (on up) e t (refusal_status d b up (status_of r) (judged_as (Err r) e))
  by_verdict up (Ok request.Noop) e t = noop (on up) t (noop_status d b up (judged_as (Ok request.Noop) e))
  by_verdict up (Ok request.Reset) e t = reset (on up) t (reset_status_lem d b up (judged_as (Ok request.Reset) e))
  by_verdict up (Ok (request.Reach c r start)) e t = reaches (on up) e t (goes_on_lem c r start up e)

  pub classified : rules d ≡ true → SpinelBody b → let c = class_of d.settings.links b in Means d b c (reported c)
  unfolding link_class is_set_up link_of
  classified t h =
      rw (checked_class d.settings.links b (inside 1 4 _ (some d t) (few d t)) h)
      (by_test (is_set_up d.settings b)
      (λ up. rw up (by_verdict up (verdict_of b) refl (verdict_told b)))
      (λ down. rw down (by_link (λ u. absurd (omega (arith, ltb-false (link_of b) d.settings.links down))) (not_set_up d b down))))
