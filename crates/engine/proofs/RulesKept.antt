-- PROMISE: the engine keeps the rules of the state, body by body and over any list of bodies.
use mathlib.Core.Path.{◌≡◌, ◌∙◌}
use mathlib.Core.Bool.{true}
use mathlib.Core.List.{List, [], ◌∷◌}
use Prim.Native.Nat.{ℕ, ◌<◌}
use native.Mathlib.Omega.{arith}
use borrow.Author.Tests.{eqb-true, eqb-false, leb-true, le-leb, ltb-true, lt-ltb, le-ltb}
use lib.Dec.{eqb}
use lib.ListN.{length, get_or, set, length-set}
use lib.Seq.{get_or-set_same, get_or-set_other}
use Rattle.octets.proofs.LawsTests.{by_test, chosen, and_r}
use Rattle.property.specs.Number.{power_state, within}
use Rattle.device.specs.State.{no_link, max_links}
use Rattle.device.specs.Rules.{link_rule, link_kept, rules}
use Rattle.device.specs.declared.state.Link.{Link}
use Rattle.device.specs.declared.state.Device.{Device}
use Rattle.device.proofs.SetupKeepsRules.{fresh_keeps}
use Rattle.device.proofs.StateRules.{settings_of, power_of, four, few, kept, link_at, rules_from}
use Rattle.device.specs.declared.view.Effect.{Effect}
use Rattle.device.specs.declared.view.Effect.TheVariants.{None, Reset, Powered}
use Rattle.device.specs.View.{view_of}
use Rattle.command.specs.Effects.{is_reset, is_power, effect_of}
use Rattle.command.proofs.LawsDecisions.{decide_keeps}
use Rattle.engine.specs.Engine.{link_of, is_set_up, affect, engine}
use Rattle.engine.specs.Merged.{device_step, device_after}
use Rattle.engine.proofs.LawsSteps.{body_set_up, body_not_set_up}

abbrev Sane : Effect → Type 0
Sane None = Unit {0}
Sane Reset = Unit {0}
Sane (Powered x) = within power_state x ≡ true

sane : (b : List ℕ) → Sane (effect_of b)
unfolding effect_of is_power within
sane b =
    chosen Sane (is_reset b) (λ _. tt)
    (λ _. chosen Sane (is_power b)
    (λ e. let most = leb-true (get_or b 3 0) 4 (and_r (eqb (get_or b 2 0) 7) _ (and_r (eqb (get_or b 1 0) 3) _ (and_r (eqb (length b) 4) _ e))) in
    rw (le-ltb 255 (get_or b 3 0) (omega arith), le-ltb (get_or b 3 0) 0 (omega arith), le-leb (get_or b 3 0) 4 most))
    (λ _. tt))

module _ (d : Device) (t : rules d ≡ true) (k : ℕ) (l : Link) (up : k < d.settings.links) (rule : link_rule l ≡ true) where
  links_kept : (j : ℕ) → j < max_links → link_kept d.settings.links (get_or (set d.links k l) j no_link) j ≡ true
  links_kept j h =
      by_test (eqb j k)
      (λ e. let same : j ≡ k = eqb-true j k e in
      rw (same, get_or-set_same d.links k l no_link (omega (arith, four d t, few d t))) own)
      (λ e. rw (get_or-set_other d.links k j l no_link (eqb-false j k e)) (kept d t j h))
    where
      own : link_kept d.settings.links l k ≡ true
      own = unfold link_kept in rw (lt-ltb k d.settings.links up) rule

  affect_keeps : (e : Effect) → Sane e → rules (affect e d k l) ≡ true
  unfolding affect
  affect_keeps None s = rules_from _ (settings_of d t) (power_of d t) (length-set d.links k l ∙ four d t) links_kept
  affect_keeps Reset s = fresh_keeps d.settings (settings_of d t)
  affect_keeps (Powered x) s = rules_from _ (settings_of d t) s (length-set d.links k l ∙ four d t) links_kept

pub body_keeps : (d : Device) (b : List ℕ) → rules d ≡ true → rules (engine d b).device ≡ true
body_keeps d b t =
    by_test (is_set_up d.settings b)
    (λ e. let up : link_of b < d.settings.links = unfold is_set_up in ltb-true (link_of b) d.settings.links e in
    rw (body_set_up d b e)
    (affect_keeps d t (link_of b) _ up (decide_keeps (view_of (link_of b) d) b (settings_of d t) (link_at d t (link_of b) up)) (effect_of b) (sane b)))
    (λ e. rw (body_not_set_up d b e) t)

pub bodies_keep : (d : Device) (bs : List (List ℕ)) → rules d ≡ true → rules (device_after d bs) ≡ true
unfolding device_after
bodies_keep d [] t = t
bodies_keep d (b ∷ bs) t = bodies_keep (device_step d b) bs (body_keeps d b t)
