-- PROMISE: every reply to a body has between 3 and 61 octets, from any state that keeps its rules.
use mathlib.Core.Path.{◌≡◌}
use mathlib.Core.Bool.{true}
use mathlib.Core.List.{List}
use Prim.Native.Nat.{ℕ}
use native.Mathlib.Omega.{arith}
use Rattle.octets.specs.Body.{header_of}
use Rattle.octets.proofs.LawsTests.{chosen}
use Rattle.device.specs.Rules.{rules}
use Rattle.device.specs.declared.state.Device.{Device}
use Rattle.device.proofs.StateRules.{settings_of}
use Rattle.device.specs.View.{view_of}
use Rattle.reply.specs.Reply.{status_reply}
use Rattle.command.specs.Decision.{judged, decide}
use Rattle.command.proofs.LawsJudged.{judged_sound}
use Rattle.command.proofs.LawsDecisions.{Bounded, by_judged}
use Rattle.engine.specs.Engine.{link_of, is_set_up, Response, settled, engine}
use Rattle.engine.proofs.LawsSteps.{own_rule}

pub reply_bounds : (d : Device) (b : List ℕ) → rules d ≡ true → Bounded (engine d b).reply
unfolding engine settled decide status_reply
reply_bounds d b t =
    chosen (λ (a : Response). Bounded a.reply) (is_set_up d.settings b)
    (λ e. by_judged (view_of (link_of b) d) (header_of b) (judged (view_of (link_of b) d) b)
    (judged_sound (view_of (link_of b) d) (settings_of d t) (own_rule d b t e) b))
    (λ e. (omega arith, omega arith))
