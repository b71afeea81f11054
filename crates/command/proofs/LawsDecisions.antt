-- What a body on a link leaves and replies: a link that keeps its rules, a reply of 3 to 61 octets, and its header.
use mathlib.Core.Path.{◌≡◌, refl}
use mathlib.Core.Bool.{true, false, cond}
use mathlib.Core.List.{List}
use Prim.Native.Nat.{ℕ, ◌≤◌}
use native.Mathlib.Omega.{arith}
use borrow.Author.Tests.{eq-eqb}
use lib.Dec.{leb}
use lib.ListN.{length, drop}
use Rattle.octets.specs.Body.{header_of}
use Rattle.octets.proofs.LawsTests.{by_test, impossible}
use Rattle.property.specs.Commands.{spinel_header}
use Rattle.property.specs.Status.{max_status}
use Rattle.property.proofs.LawsStatus.{refusal_most}
use Rattle.property.specs.declared.commands.Command.{Command}
use Rattle.property.specs.declared.row.Row.{Row}
use Rattle.device.specs.State.{max_reply}
use Rattle.device.specs.Rules.{sized, link_rule, settings_rule}
use Rattle.device.specs.declared.state.Link.{Link}
use Rattle.device.proofs.StateRules.{LinkFacts, link_told, link_from}
use Rattle.device.specs.declared.view.View.{View}
use Rattle.request.specs.Verdict.{verdict as verdict_of}
use Rattle.std.specs.Prelude.{Result, Ok, Err}
use Rattle.request.specs.declared.verdict.Request.{Request}
use Rattle.request.specs.declared.verdict.Request.TheVariants as request
use Rattle.request.specs.declared.verdict.Refusal.{Refusal}
use Rattle.request.proofs.LawsVerdict.{verdict_reset}
use Rattle.method.specs.Outcome.{Outcome}
use Rattle.reply.specs.Reply.{status_reply, success_reply}
use Rattle.command.specs.Decision.{with_status, Judged, stopped, noop, reset, success, judged, status_decision, decision_of, decide, concluded, reached, judged_by}
use Rattle.command.specs.Effects.{is_reset}
use Rattle.command.proofs.LawsJudged.{Sound, judged_sound}
use Rattle.command.proofs.EffectsByOctets.{reset_verdict}

-- ---- the link

status_kept : (l : Link) (s : ℕ) → LinkFacts l → leb s max_status ≡ true → LinkFacts (with_status l s)
unfolding sized
status_kept l s f h = record { sized = f.sized; status = h; range = f.range; stack = f.stack; name = f.name; ports = f.ports }

link_by : (v : View) (h : ℕ) (j : Judged) → LinkFacts v.link → Sound v j → LinkFacts (decision_of v h j).link
unfolding decision_of status_decision
link_by v h (stopped s) f t = status_kept v.link s f (refusal_most s t)
link_by v h noop f t = status_kept v.link 0 f refl
link_by v h reset f t = f
link_by v h (success e l reply) f t = t.0

pub decide_keeps : (v : View) (b : List ℕ) → settings_rule v.settings ≡ true → link_rule v.link ≡ true → link_rule (decide v b).link ≡ true
unfolding decide
decide_keeps v b s t = link_from _ (link_by v (header_of b) (judged v b) (link_told v.link t) (judged_sound v s t b))

-- ---- the reply

abbrev pub Bounded : List ℕ → Type 0
Bounded reply = (3 ≤ length reply) × (length reply ≤ max_reply)

pub by_judged : (v : View) (h : ℕ) (j : Judged) → Sound v j → Bounded (decision_of v h j).reply
unfolding decision_of status_decision status_reply
by_judged v h (stopped s) t = (omega arith, omega arith)
by_judged v h noop t = (omega arith, omega arith)
by_judged v h reset t = (omega arith, omega arith)
by_judged v h (success e l reply) t = (t.2, t.3)

concluded_header : (v : View) (h : ℕ) (c : Command) (r : Row) (p : List ℕ) (o : Outcome)
    → header_of (decision_of v h (concluded v h c r p o)).reply ≡ h
unfolding decision_of concluded status_decision status_reply success_reply
concluded_header v h c r p (Err s) = refl
concluded_header v h c r p (Ok d) = refl

header_by : (v : View) (b : List ℕ) (w : Result Request Refusal) → verdict_of b ≡ w → is_reset b ≡ false
    → header_of (decision_of v (header_of b) (judged_by v b w)).reply ≡ header_of b
unfolding decision_of judged_by reached status_decision status_reply is_reset
header_by v b (Err s) e n = refl
header_by v b (Ok request.Noop) e n = refl
header_by v b (Ok request.Reset) e n = impossible (cc (eq-eqb _ _ (verdict_reset b e)))
header_by v b (Ok (request.Reach c r start)) e n = concluded_header v (header_of b) c r (drop start b) _

pub decide_header : (v : View) (b : List ℕ) → header_of (decide v b).reply ≡ cond (is_reset b) spinel_header (header_of b)
unfolding decide judged judged_by decision_of status_reply
decide_header v b = by_test (is_reset b) (λ t. rw (t, reset_verdict b t)) (λ t. rw t (header_by v b (verdict_of b) refl t))
