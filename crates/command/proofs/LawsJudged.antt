-- What a body on a link comes to, from a state that keeps its rules: a refusal has one of the nine statuses, and a success
-- leaves a link that keeps its rules, with the last status that it had, and a reply of 3 to 61 octets.
use mathlib.Core.Path.{◌≡◌, refl}
use mathlib.Core.Bool.{true}
use mathlib.Core.List.{List}
use Prim.Native.Nat.{ℕ, ◌≤◌}
use lib.ListN.{length, drop}
use Rattle.octets.specs.Body.{header_of}
use Rattle.property.specs.Status.{RefusalStatus}
use Rattle.property.specs.Rule.{row_rule}
use Rattle.property.specs.declared.commands.Command.{Command}
use Rattle.property.specs.declared.row.Row.{Row}
use Rattle.property.proofs.TableRule.{slot_below}
use Rattle.device.specs.State.{max_reply}
use Rattle.device.specs.Rules.{settings_rule, link_rule}
use Rattle.device.proofs.StateRules.{LinkFacts}
use Rattle.device.specs.declared.view.View.{View}
use Rattle.device.specs.View.{after}
use Rattle.std.specs.Prelude.{Result, Ok, Err}
use Rattle.request.specs.declared.verdict.Request.{Request}
use Rattle.request.specs.declared.verdict.Request.TheVariants as request
use Rattle.request.specs.declared.verdict.Refusal.{Refusal}
use Rattle.request.specs.Verdict.{verdict as verdict_of}
use Rattle.request.proofs.LawsVerdict.{verdict_reach, refusal_told}
use Rattle.method.specs.Outcome.{Outcome}
use Rattle.method.specs.Perform.{perform}
use Rattle.method.proofs.LinkKept.{perform_kept}
use Rattle.reply.proofs.LawsReplies.{replied_size}
use Rattle.command.specs.Decision.{Judged, stopped, noop, reset, success, concluded, reached, judged_by, judged}
use Rattle.command.proofs.LawsContent.{content_size}

abbrev pub Sound : View → Judged → Type 0
Sound v (stopped s) = RefusalStatus s
Sound v noop = Unit {0}
Sound v reset = Unit {0}
Sound v (success e l reply) = LinkFacts l × (l.status ≡ v.link.status) × (3 ≤ length reply) × (length reply ≤ max_reply)

module _ (v : View) (s : settings_rule v.settings ≡ true) (t : link_rule v.link ≡ true) where
  concluded_sound : (h : ℕ) (c : Command) (r : Row) (p : List ℕ) (o : Outcome) → row_rule r ≡ true → perform v.link c r.kind p ≡ o
      → Sound v (concluded v h c r p o)
  unfolding concluded
  concluded_sound h c r p (Err x) rule e =
      rw e at (perform_kept v.link t c r.kind p (λ slot k. slot_below r slot k rule))
  concluded_sound h c r p (Ok d) rule e =
      let kept = rw e at (perform_kept v.link t c r.kind p (λ slot k. slot_below r slot k rule)) in
      let size = replied_size (after v d.effect d.link) h c r p (content_size v c r p d s t rule e) in
      (kept.facts, kept.same, size.0, size.1)

  judged_by_lem : (b : List ℕ) (w : Result Request Refusal) → verdict_of b ≡ w → Sound v (judged_by v b w)
  unfolding judged_by reached
  judged_by_lem b (Err refusal) e = refusal_told refusal
  judged_by_lem b (Ok request.Noop) e = tt
  judged_by_lem b (Ok request.Reset) e = tt
  judged_by_lem b (Ok (request.Reach c r start)) e = concluded_sound (header_of b) c r (drop start b) _ (verdict_reach b c r start e).rule refl

  pub judged_sound : (b : List ℕ) → Sound v (judged v b)
  unfolding judged
  judged_sound b = judged_by_lem b (verdict_of b) refl
