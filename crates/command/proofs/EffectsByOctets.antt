-- PROMISE: what a body on a link that is set up does to the whole box is what 01, Whole histories, tells by its octets: a reset, an
-- accepted setting of the power state, or nothing.
use mathlib.Core.Path.{◌≡◌, refl, sym, ap, ap₂, ◌∙◌}
use mathlib.Core.Bool.{true, false, ◌&&◌}
use mathlib.Core.List.{List, [], ◌∷◌}
use Prim.Native.Nat.{ℕ, ◌+◌, ◌*◌, ◌≤◌}
use native.Mathlib.Omega.{arith}
use borrow.Author.Tests.{eq-eqb, eqb-true, leb-true, le-leb, le-ltb}
use lib.Dec.{eqb, leb}
use lib.ListN.{length, get_or, drop, length-drop}
use lib.Seq.{get_or-drop}
use Rattle.octets.specs.Body.{header_of}
use Rattle.octets.specs.LittleEndian.{le}
use Rattle.octets.proofs.LawsTests.{by_test, and_l, and_r, both, impossible}
use Rattle.packed.specs.Packed.{number_in, packed_at}
use Rattle.packed.proofs.OneSpelling.{one_octet}
use Rattle.property.specs.Row.{rows, settable, lookup, allows}
use Rattle.property.specs.Number.{power_state, within}
use Rattle.property.proofs.TableRule.{power_id}
use Rattle.property.specs.declared.commands.Command.{Command}
use Rattle.property.specs.declared.commands.Command.TheVariants.{Get, Set, Insert, Remove}
use Rattle.property.specs.declared.row.Kind.{Kind}
use Rattle.property.specs.declared.row.Kind.TheVariants.{ReadOnly, Power, Number as Kind-as-Number, Name, Ports}
use Rattle.property.specs.declared.row.Scope.TheVariants as scope
use Rattle.property.specs.declared.row.Row.{Row}
use Rattle.device.specs.declared.view.View.{View}
use Rattle.device.specs.declared.view.Effect.TheVariants.{None, Reset, Powered}
use Rattle.std.specs.Prelude.{Result, Ok, Err}
use Rattle.request.specs.declared.verdict.Request.{Request}
use Rattle.request.specs.declared.verdict.Request.TheVariants as request
use Rattle.request.specs.declared.verdict.Refusal.{Refusal}
use Rattle.request.specs.Verdict.{command_of, verdict as verdict_of}
use Rattle.request.proofs.LawsVerdict.{verdict_reach, verdict_reset}
use Rattle.method.specs.Outcome.{Outcome}
use Rattle.property.specs.declared.status.Status.{Status}
use Rattle.method.specs.Perform.{perform}
use Rattle.method.specs.Set.{value_in, power_to, set_power, set_kind}
use Rattle.method.proofs.LawsEffects.{Still, perform_still}
use Rattle.method.proofs.LawsNumbers.{value_told, within_most}
use Rattle.command.specs.Decision.{concluded, reached, judged_by, judged, status_decision, decision_of, decide}
use Rattle.command.specs.Effects.{is_reset, is_power, effect_of}

-- ---- the octets of a reset and of a power setting give their verdicts

pub reset_verdict : (b : List ℕ) → is_reset b ≡ true → verdict_of b ≡ Ok request.Reset
unfolding verdict_of packed_at number_in is_reset
reset_verdict [] t = impossible (eqb-true 0 1 t)
reset_verdict (h ∷ []) t = impossible (eqb-true 0 1 t)
reset_verdict (h ∷ c ∷ xs) t = let one : c ≡ 1 = eqb-true c 1 t in rw one

-- the row of the power state
abbrev row7 : Row
row7 = settable 7 scope.Device Power

power_verdict : (h x : ℕ) → verdict_of (h ∷ 3 ∷ 7 ∷ x ∷ []) ≡ Ok (request.Reach Set row7 3)
unfolding verdict_of command_of packed_at number_in rows lookup allows
power_verdict h x = refl

from_power : (b : List ℕ) → is_power b ≡ true → (h : ℕ) × (x : ℕ) × (b ≡ h ∷ 3 ∷ 7 ∷ x ∷ []) × (x ≤ 4)
unfolding is_power
from_power b t =
    let few = eqb-true (length b) 4 (and_l (eqb (length b) 4) _ t) in
    let rest = and_r (eqb (length b) 4) _ t in
    by b few (eqb-true (get_or b 1 0) 3 (and_l (eqb (get_or b 1 0) 3) _ rest)) (and_r (eqb (get_or b 1 0) 3) _ rest)
  where
    by : (b : List ℕ) → length b ≡ 4 → get_or b 1 0 ≡ 3 → (eqb (get_or b 2 0) 7 && leb (get_or b 3 0) 4) ≡ true
        → (h : ℕ) × (x : ℕ) × (b ≡ h ∷ 3 ∷ 7 ∷ x ∷ []) × (x ≤ 4)
    by [] l c t = absurd (omega arith)
    by (h ∷ []) l c t = absurd (omega arith)
    by (h ∷ y ∷ []) l c t = absurd (omega arith)
    by (h ∷ y ∷ z ∷ []) l c t = absurd (omega arith)
    by (h ∷ y ∷ z ∷ x ∷ []) l c t =
        let seven : z ≡ 7 = eqb-true z 7 (and_l (eqb z 7) _ t) in
        (h, x, ap₂ (λ p q. h ∷ p ∷ q ∷ x ∷ []) c seven, leb-true x 4 (and_r (eqb z 7) _ t))
    by (h ∷ y ∷ z ∷ x ∷ w ∷ ws) l c t = absurd (omega arith)

-- ---- commands without an effect

quiet_decision : (v : View) (h : ℕ) (c : Command) (r : Row) (p : List ℕ) (o : Outcome) → Still o
    → (decision_of v h (concluded v h c r p o)).effect ≡ None
unfolding decision_of concluded status_decision
quiet_decision v h c r p (Err s) q = refl
quiet_decision v h c r p (Ok d) q = q

-- ---- a power setting that is accepted is one by its octets

set_number_lem : (n : ℕ) → command_of n ≡ Set → n ≡ 3
unfolding command_of
set_number_lem n e =
    by_test (eqb n 2) (λ t. let e' = rw t at e in impossible cc)
    (λ t. by_test (eqb n 3) (λ u. eqb-true n 3 u)
    (λ u. by_test (eqb n 4) (λ w. let e' = rw (t, u, w) at e in impossible cc) (λ w. let e' = rw (t, u, w) at e in impossible cc)))

good_value : (p : List ℕ) (x : ℕ) → value_in power_state p ≡ Ok x → (length p ≡ 1) × (le p ≡ x) × (x ≤ 4)
good_value p x e = let t = value_told power_state p x e in (t.0, t.1, within_most power_state x refl t.2)

one_le : (xs : List ℕ) → length xs ≡ 1 → le xs ≡ get_or xs 0 0
unfolding le
one_le [] h = absurd (omega arith)
one_le (x ∷ []) h = omega arith
one_le (x ∷ y ∷ ys) h = absurd (omega arith)

accepted : (b : List ℕ) (r : Row) (start x : ℕ) → verdict_of b ≡ Ok (request.Reach Set r start) → r.kind ≡ Power
    → value_in power_state (drop start b) ≡ Ok x → is_power b ≡ true
unfolding is_power
accepted b r start x e k g =
    let t = verdict_reach b Set r start e in
    let three = set_number_lem t.number t.named in
    let one = one_octet b 1 t.number t.next t.command (omega arith) in
    let id = power_id r k t.rule in
    let two = one_octet b t.next r.id start t.property (omega arith) in
    let at-two : t.next ≡ 2 = omega arith in
    let at-three : start ≡ 3 = omega arith in
    let told = good_value (drop start b) x g in
    let first : get_or (drop start b) 0 0 ≡ x = sym (one_le (drop start b) told.0) ∙ told.1 in
    let value : get_or b 3 0 ≡ x = rw (at-three, get_or-drop 3 b 0 0) at first in
    let four : length b ≡ 4 = omega (arith, length-drop start b, told.0) in
    let most : get_or b 3 0 ≤ 4 = omega (arith, told.2) in
    both (eqb (length b) 4) _ (eq-eqb _ _ four)
    (both (eqb (get_or b 1 0) 3) _ (eq-eqb _ _ (one.0 ∙ three))
    (both (eqb (get_or b 2 0) 7) _ (eq-eqb _ _ (ap (λ n. get_or b n 0) (sym at-two) ∙ two.0 ∙ id)) (le-leb _ _ most)))

-- ---- the effect of a body

power_effect : (v : View) (h x : ℕ) → x ≤ 4 → (decision_of v h (reached v h Set row7 (x ∷ []))).effect ≡ Powered x
unfolding decision_of reached concluded perform set_kind set_power power_to value_in within le
power_effect v h x few =
    let same : x + 256 * 0 ≡ x = omega arith in
    rw (same, le-ltb 255 x (omega arith), le-ltb x 0 (omega arith), le-leb x 4 few)

no_reset : (b : List ℕ) (w : Result Request Refusal) → verdict_of b ≡ w → (w ≡ Ok request.Reset → ⊥) → is_reset b ≡ false
no_reset b w e n = by_test (is_reset b) (λ t. absurd (n (sym e ∙ reset_verdict b t))) (λ t. t)

no_power : (b : List ℕ) (w : Result Request Refusal) → verdict_of b ≡ w → (w ≡ Ok (request.Reach Set row7 3) → ⊥) → is_power b ≡ false
no_power b w e n =
    by_test (is_power b)
    (λ t. let f = from_power b t in absurd (n (sym e ∙ ap verdict_of f.2 ∙ power_verdict f.0 f.1)))
    (λ t. t)

none : (b : List ℕ) → is_reset b ≡ false → is_power b ≡ false → effect_of b ≡ None
unfolding effect_of
none b r p = rw (r, p)

a_reset : (b : List ℕ) → eqb (get_or b 1 0) 1 ≡ true → effect_of b ≡ Reset
unfolding effect_of is_reset
a_reset b t = rw t

set_power_lem : (v : View) (b : List ℕ) (r : Row) (start : ℕ)
    → verdict_of b ≡ Ok (request.Reach Set r start) → r.kind ≡ Power → is_power b ≡ false
    → Still (perform v.link Set r.kind (drop start b))
unfolding perform set_kind set_power
set_power_lem v b r start e k n = rw k (by (value_in power_state (drop start b)) refl)
  where
    by : (x : Result ℕ Status) → value_in power_state (drop start b) ≡ x → Still (power_to v.link x)
    by (Err s) g = unfold power_to in tt
    by (Ok x) g = impossible (cc (accepted b r start x e k g))

still_set : (v : View) (b : List ℕ) (r : Row) (start : ℕ) (k : Kind)
    → r.kind ≡ k → verdict_of b ≡ Ok (request.Reach Set r start) → is_power b ≡ false
    → Still (perform v.link Set r.kind (drop start b))
still_set v b r start (ReadOnly f) k e n = perform_still _ Set _ _ (λ c p. impossible cc)
still_set v b r start Power k e n = set_power_lem v b r start e k n
still_set v b r start (Kind-as-Number slot) k e n = perform_still _ Set _ _ (λ c p. impossible cc)
still_set v b r start Name k e n = perform_still _ Set _ _ (λ c p. impossible cc)
still_set v b r start Ports k e n = perform_still _ Set _ _ (λ c p. impossible cc)

still_reach : (v : View) (b : List ℕ) (c : Command) (r : Row) (start : ℕ) → verdict_of b ≡ Ok (request.Reach c r start) → is_power b ≡ false
    → Still (perform v.link c r.kind (drop start b))
still_reach v b Get r start e n = perform_still _ Get _ _ (λ c p. impossible cc)
still_reach v b Set r start e n = still_set v b r start r.kind refl e n
still_reach v b Insert r start e n = perform_still _ Insert _ _ (λ c p. impossible cc)
still_reach v b Remove r start e n = perform_still _ Remove _ _ (λ c p. impossible cc)

at_power : (v : View) (b : List ℕ) (c : Command) (r : Row) (start h x : ℕ)
    → verdict_of b ≡ Ok (request.Reach c r start) → b ≡ h ∷ 3 ∷ 7 ∷ x ∷ [] → x ≤ 4
    → (decision_of v (header_of b) (reached v (header_of b) c r (drop start b))).effect ≡ Powered x
at_power v b c r start h x e o few =
    let same : Ok (request.Reach c r start) ≡ Ok (request.Reach Set row7 3) = sym e ∙ ap verdict_of o ∙ power_verdict h x in
    let command : c ≡ Set = cc in
    let row : r ≡ row7 = cc in
    let place : start ≡ 3 = cc in
    rw (o, command, row, place) (power_effect v h x few)

effect_reach : (v : View) (b : List ℕ) (c : Command) (r : Row) (start : ℕ) → verdict_of b ≡ Ok (request.Reach c r start)
    → (decision_of v (header_of b) (reached v (header_of b) c r (drop start b))).effect ≡ effect_of b
unfolding reached effect_of
effect_reach v b c r start e =
    let n = no_reset b (Ok (request.Reach c r start)) e (λ q. impossible cc) in
    by_test (is_power b)
    (λ t. let f = from_power b t in
    let value : get_or b 3 0 ≡ f.1 = ap (λ ys. get_or ys 3 0) f.2 in
    rw (n, t) (at_power v b c r start f.0 f.1 e f.2 f.3 ∙ ap Powered (sym value)))
    (λ t. rw (n, t) (quiet_decision v (header_of b) c r (drop start b) _ (still_reach v b c r start e t)))

effect_by : (v : View) (b : List ℕ) (w : Result Request Refusal) → verdict_of b ≡ w → (decision_of v (header_of b) (judged_by v b w)).effect ≡ effect_of b
unfolding judged_by decision_of status_decision
effect_by v b (Err s) e =
    sym (none b (no_reset b _ e (λ q. impossible cc)) (no_power b _ e (λ q. impossible cc)))
effect_by v b (Ok request.Noop) e = sym (none b (no_reset b _ e (λ q. impossible cc)) (no_power b _ e (λ q. impossible cc)))
effect_by v b (Ok request.Reset) e = sym (a_reset b (eq-eqb _ _ (verdict_reset b e)))
effect_by v b (Ok (request.Reach c r start)) e = effect_reach v b c r start e

pub decide_effect : (v : View) (b : List ℕ) → (decide v b).effect ≡ effect_of b
unfolding decide judged
decide_effect v b = effect_by v b (verdict_of b) refl
