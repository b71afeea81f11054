-- Statuses that a body on a link leaves as the last one, or that its reply tells: whatever is true of the last status that was held, of 0, of
-- 114 and of every status with which bodies are refused is true of these.
use mathlib.Core.Path.{◌≡◌, refl, sym, ap}
use mathlib.Core.Bool.{true}
use mathlib.Core.List.{List, [], ◌∷◌, ◌++◌}
use Prim.Native.Nat.{ℕ, ◌<◌}
use native.Mathlib.Omega.{arith}
use borrow.Author.Tests.{lt-ltb, leb-true}
use lib.ListN.{get_or, drop}
use Rattle.octets.specs.Body.{header_of}
use Rattle.octets.proofs.LawsTests.{impossible}
use Rattle.packed.specs.Packed.{packed, packed_in, number_in, packed_at}
use Rattle.packed.specs.declared.Fault.{Fault}
use Rattle.packed.specs.declared.Packed.{Packed}
use Rattle.packed.proofs.ReadsBack.{reads_back}
use Rattle.property.specs.Status.{status_number, max_status, reset_status, RefusalStatus}
use Rattle.property.specs.Row.{rows, read_only, lookup, allows}
use Rattle.property.specs.declared.commands.Command.{Command}
use Rattle.property.specs.declared.commands.Command.TheVariants.{Get, Set, Insert, Remove}
use Rattle.property.specs.declared.row.Kind.TheVariants.{ReadOnly}
use Rattle.property.specs.declared.row.ReadOnly.TheVariants.{LastStatus}
use Rattle.property.specs.declared.row.Scope.TheVariants as scope
use Rattle.property.specs.declared.row.Row.{Row}
use Rattle.property.proofs.TableRule.{small_id}
use Rattle.device.specs.Rules.{settings_rule, link_rule}
use Rattle.device.specs.declared.view.View.{View}
use Rattle.device.specs.View.{after}
use Rattle.device.proofs.StateRules.{link_told}
use Rattle.std.specs.Prelude.{Some, Result, Ok, Err}
use Rattle.request.specs.declared.verdict.Request.{Request}
use Rattle.request.specs.declared.verdict.Request.TheVariants as request
use Rattle.request.specs.declared.verdict.Refusal.{Refusal}
use Rattle.request.specs.Verdict.{status_of, verdict as verdict_of}
use Rattle.request.proofs.LawsVerdict.{verdict_reach}
use Rattle.method.specs.Outcome.{Outcome}
use Rattle.reply.specs.Value.{fixed_value, value_of}
use Rattle.reply.specs.Reply.{status_reply, content, success_reply}
use Rattle.command.specs.Decision.{Judged, stopped, noop, reset, success, concluded, reached, judged_by, judged, status_decision, decision_of, decide}
use Rattle.command.proofs.LawsJudged.{Sound, judged_sound}

-- ---- a success that reads as a status is GET of the last status

abbrev row0 : Row
row0 = read_only 0 scope.Link (ReadOnly LastStatus)

last_status_row : (r : Row) → lookup r.id ≡ Some r → r.id ≡ 0 → r ≡ row0
unfolding lookup rows
last_status_row r e zero = let found = rw zero at e in cc

abbrev numbered : Result Packed Fault → ℕ
numbered (Ok p) = p.number
numbered (Err f) = 0

reads_zero : (n x : ℕ) (item : List ℕ) → n < 16384 → packed n ++ item ≡ 0 ∷ x ∷ [] → n ≡ 0
unfolding packed_at number_in
reads_zero n x item few e =
    let back = reads_back [] item n (omega arith) in
    sym (ap numbered (rw e at back))

shows : (v : View) (c : Command) (p : List ℕ) (x : ℕ) → v.link.status < 128 → allows row0 c ≡ true
    → packed 0 ++ content v c (ReadOnly LastStatus) p ≡ 0 ∷ x ∷ [] → v.link.status ≡ x
unfolding allows content value_of fixed_value packed packed_in
shows v Get p x few a e = let e' = rw (lt-ltb v.link.status 128 few) at e in cc
shows v Set p x few a e = impossible cc
shows v Insert p x few a e = impossible cc
shows v Remove p x few a e = impossible cc

reads_as_status : (v : View) (h : ℕ) (c : Command) (r : Row) (p : List ℕ) (g x : ℕ)
    → r.id < 16384 → lookup r.id ≡ Some r → allows r c ≡ true → v.link.status < 128
    → success_reply v h c r p ≡ status_reply g x → v.link.status ≡ x
unfolding success_reply status_reply
reads_as_status v h c r p g x few found allowed small e =
    let value : packed r.id ++ content v c r.kind p ≡ 0 ∷ x ∷ [] = ap (drop 2) e in
    let id = reads_zero r.id x (content v c r.kind p) few value in
    let row = last_status_row r found id in
    shows v c p x small (rw row at allowed) (rw row at value)

-- ---- what is left and told

pub one_status : (h s g x : ℕ) → status_reply h s ≡ status_reply g x → s ≡ x
unfolding status_reply
one_status h s g x e = ap (λ xs. get_or xs 3 0) e

module _ (P : ℕ → Type 0) (zero : P 0) (announced : P reset_status) (refusals : (s : ℕ) → RefusalStatus s → P s)
    (v : View) (s : settings_rule v.settings ≡ true) (t : link_rule v.link ≡ true) (held : P v.link.status) where
  left_by : (h : ℕ) (j : Judged) → Sound v j → P (decision_of v h j).link.status
  unfolding decision_of status_decision
  left_by h (stopped y) sound = refusals y sound
  left_by h noop sound = zero
  left_by h reset sound = held
  left_by h (success e l reply) sound = rw sound.1 held

  pub status_left : (b : List ℕ) → P (decide v b).link.status
  unfolding decide
  status_left b = left_by (header_of b) (judged v b) (judged_sound v s t b)

  concluded_told : (h : ℕ) (c : Command) (r : Row) (p : List ℕ) (o : Outcome) (g x : ℕ)
      → r.id < 16384 → lookup r.id ≡ Some r → allows r c ≡ true → Sound v (concluded v h c r p o)
      → (decision_of v h (concluded v h c r p o)).reply ≡ status_reply g x → P x
  unfolding decision_of concluded status_decision
  concluded_told h c r p (Err y) g x few found allowed sound e = rw (← one_status h (status_number y) g x e) (refusals (status_number y) sound)
  concluded_told h c r p (Ok d) g x few found allowed sound e =
      let small : d.link.status < 128 = omega (arith, sound.1, leb-true v.link.status max_status (link_told v.link t).status) in
      let shown = reads_as_status (after v d.effect d.link) h c r p g x few found allowed small e in
      rw (← shown, sound.1) held

  told_by : (b : List ℕ) (w : Result Request Refusal) → verdict_of b ≡ w → (g x : ℕ) → Sound v (judged_by v b w)
      → (decision_of v (header_of b) (judged_by v b w)).reply ≡ status_reply g x → P x
  unfolding judged_by reached decision_of status_decision
  told_by b (Err y) w g x sound e = rw (← one_status (header_of b) (status_of y) g x e) (refusals (status_of y) sound)
  told_by b (Ok request.Noop) w g x sound e = rw (← one_status (header_of b) 0 g x e) zero
  told_by b (Ok request.Reset) w g x sound e = rw (← one_status _ reset_status g x e) announced
  told_by b (Ok (request.Reach c r start)) w g x sound e =
      let k = verdict_reach b c r start w in
      concluded_told (header_of b) c r (drop start b) _ g x (small_id r k.rule) k.found k.allowed sound e

  pub status_told : (b : List ℕ) (g x : ℕ) → (decide v b).reply ≡ status_reply g x → P x
  unfolding decide judged
  status_told b g x e = told_by b (verdict_of b) refl g x (judged_sound v s t b) e
