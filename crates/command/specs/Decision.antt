-- A body on a link that is set up (01, Commands).
use Rattle.std.specs.Prelude.{ℕ, List, Result, Ok, Err, ◌≡◌, drop}
use Rattle.octets.specs.Body.{header_of}
use Rattle.octets.specs.Writing.{Wrote}
use Rattle.property.specs.Commands.{spinel_header}
use Rattle.property.specs.Status.{status_number, reset_status}
use Rattle.property.specs.declared.commands.Command.{Command}
use Rattle.property.specs.declared.row.Row.{Row}
use Rattle.device.specs.declared.state.Link.{Link}
use Rattle.device.specs.declared.view.View.{View}
use Rattle.device.specs.declared.view.Effect.{Effect}
use Rattle.device.specs.declared.view.Effect.TheVariants as effect
use Rattle.device.specs.View.{after}
use Rattle.request.specs.declared.verdict.Request.{Request}
use Rattle.request.specs.declared.verdict.Request.TheVariants as request
use Rattle.request.specs.declared.verdict.Refusal.{Refusal}
use Rattle.request.specs.Verdict.{status_of, verdict as verdict_of}
use Rattle.method.specs.Outcome.{Outcome}
use Rattle.method.specs.Perform.{perform}
use Rattle.reply.specs.Reply.{status_reply, success_reply}
use Rattle.command.specs.declared.decision.Decided.{Decided}

-- ---- what a body comes to

pub data Judged : Type 0 where
  stopped : ℕ → Judged  -- refused, with a status
  noop : Judged
  reset : Judged
  success : Effect → Link → List ℕ → Judged  -- the effect on the whole box, the link, the reply

-- the value of the reply is the one held after the command
abbrev pub performed : View → ℕ → Command → Row → List ℕ → Link → Effect → Judged
performed v h c r p l e = success e l (success_reply (after v e l) h c r p)

unfoldable pub concluded : View → ℕ → Command → Row → List ℕ → Outcome → Judged
concluded v h c r p (Err s) = stopped (status_number s)
concluded v h c r p (Ok d) = performed v h c r p d.link d.effect

unfoldable pub reached : View → ℕ → Command → Row → List ℕ → Judged
reached v h c r p = concluded v h c r p (perform v.link c r.kind p)

unfoldable pub judged_by : View → List ℕ → Result Request Refusal → Judged
judged_by v b (Err refusal) = stopped (status_of refusal)
judged_by v b (Ok request.Noop) = noop
judged_by v b (Ok request.Reset) = reset
judged_by v b (Ok (request.Reach c r start)) = reached v (header_of b) c r (drop start b)

unfoldable pub judged : View → List ℕ → Judged
judged v b = judged_by v b (verdict_of b)

-- ---- what it does

pub record Decision : Type 0 where
  pub effect : Effect
  pub link : Link
  pub reply : List ℕ

abbrev pub with_status : Link → ℕ → Link
with_status l s = record { status = s; numbers = l.numbers; name = l.name; ports = l.ports }

unfoldable pub status_decision : Link → ℕ → ℕ → Decision
status_decision l h s = record { effect = effect.None; link = with_status l s; reply = status_reply h s }

-- "A refusal changes only that link's last status. NOOP sets it to 0; other successes leave it."; RESET "announces 80 06 00 72"
unfoldable pub decision_of : View → ℕ → Judged → Decision
decision_of v h (stopped s) = status_decision v.link h s
decision_of v h noop = status_decision v.link h 0
decision_of v h reset = record { effect = effect.Reset; link = v.link; reply = status_reply spinel_header reset_status }
decision_of v h (success e l reply) = record { effect = e; link = l; reply = reply }

unfoldable pub decide : View → List ℕ → Decision
decide v b = decision_of v (header_of b) (judged v b)

-- a call decided so, and wrote the reply from the front
pub record Did (d : Decision) (r : Decided) (before after : List ℕ) : Type 0 where
  pub effect : r.effect ≡ d.effect
  pub link : r.link ≡ d.link
  pub reply : Wrote before after 0 r.len d.reply
