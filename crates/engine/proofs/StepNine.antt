-- PROMISE: 01's step 9, "a reply body over 61 octets: 7", stops no body from a state that keeps its rules, so that taking it out changed
-- nothing there; and no body is refused with 7: with which statuses bodies are refused (02, T-04).
use mathlib.Core.Path.{◌≡◌, refl}
use mathlib.Core.Bool.{true, false, cond}
use mathlib.Core.List.{List, [], ◌∷◌}
use Prim.Native.Nat.{ℕ, ◌<◌}
use borrow.Author.Tests.{le-ltb, lt-ltb}
use lib.Dec.{ltb}
use lib.ListN.{length}
use Rattle.octets.specs.Finding.{before}
use Rattle.octets.proofs.LawsTests.{by_test, impossible}
use Rattle.property.proofs.LawsStatus.{by_status}
use Rattle.device.specs.State.{max_reply}
use Rattle.device.specs.Ports.{holds}
use Rattle.device.specs.Rules.{settings_rule, link_rule, rules}
use Rattle.device.specs.declared.state.Link.{Link}
use Rattle.device.specs.declared.state.Device.{Device}
use Rattle.device.specs.declared.view.View.{View}
use Rattle.device.specs.declared.view.Effect.{Effect}
use Rattle.device.specs.View.{view_of}
use Rattle.device.proofs.StateRules.{settings_of}
use Rattle.command.specs.Decision.{Judged, stopped, noop, reset, success, judged}
use Rattle.command.proofs.LawsJudged.{Sound, judged_sound}
use Rattle.engine.specs.Engine.{link_of, is_set_up}
use Rattle.engine.proofs.LawsSteps.{own_rule}

-- ---- the step as 01 had it, after the others

abbrev pub step_nine : Judged → Judged
step_nine (stopped s) = stopped s
step_nine noop = noop
step_nine reset = reset
step_nine (success e l reply) = cond (ltb max_reply (length reply)) (stopped 7) (success e l reply)

-- "a reply body over 61 octets: 7": it is not idle by itself
pub step_nine_stops : (e : Effect) (l : Link) (reply : List ℕ) → 61 < length reply → step_nine (success e l reply) ≡ stopped 7
step_nine_stops e l reply long = rw (lt-ltb max_reply (length reply) long)

idle : (v : View) (j : Judged) → Sound v j → step_nine j ≡ j
idle v (stopped s) t = refl
idle v noop t = refl
idle v reset t = refl
idle v (success e l reply) t = rw (le-ltb max_reply (length reply) t.3)

pub step_nine_idle : (v : View) (b : List ℕ) → settings_rule v.settings ≡ true → link_rule v.link ≡ true → step_nine (judged v b) ≡ judged v b
step_nine_idle v b s t = idle v (judged v b) (judged_sound v s t b)

-- ---- the statuses with which bodies are refused

-- by what a body comes to, and not by its reply: GET of property 0 shows a last status in the octets of a refusal
pub data RefusedWith (d : Device) (b : List ℕ) : ℕ → Type 0 where
  -- step 1, "link not set up: status 6"
  link_not_set_up : is_set_up d.settings b ≡ false → RefusedWith d b 6
  -- the steps after it
  on_link : {s : ℕ} → is_set_up d.settings b ≡ true → judged (view_of (link_of b) d) b ≡ stopped s → RefusedWith d b s

abbrev pub refusal_statuses : List ℕ
refusal_statuses = 3 ∷ 4 ∷ 5 ∷ 9 ∷ 11 ∷ 13 ∷ 19 ∷ 20 ∷ 21 ∷ []

pub refusal_statuses_lem : (d : Device) (b : List ℕ) (s : ℕ) → rules d ≡ true → RefusedWith d b s
    → holds s (cond (is_set_up d.settings b) refusal_statuses (6 ∷ [])) ≡ true
unfolding holds before
refusal_statuses_lem d b _ t (link_not_set_up e) = rw e
refusal_statuses_lem d b s t (on_link e j) =
    let sound = rw j at (judged_sound (view_of (link_of b) d) (settings_of d t) (own_rule d b t e) b) in
    rw e (by_status (λ x. holds x refusal_statuses ≡ true) refl refl refl refl refl refl refl refl refl s sound)

pub never_seven : (d : Device) (b : List ℕ) → rules d ≡ true → RefusedWith d b 7 → ⊥
unfolding holds before
never_seven d b t r =
    let listed = refusal_statuses_lem d b 7 t r in
    by_test (is_set_up d.settings b) (λ e. impossible (cc (rw e at listed))) (λ e. impossible (cc (rw e at listed)))
