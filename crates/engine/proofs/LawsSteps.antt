-- One body's step on the box: which link it is for, what it is by the octets, and what it leaves of the settings and of the number of links.
use mathlib.Core.Path.{◌≡◌, refl, ap, ◌∙◌}
use mathlib.Core.Bool.{true, false}
use mathlib.Core.List.{List}
use Prim.Native.Nat.{ℕ, ◌<◌}
use native.Mathlib.Omega.{arith}
use borrow.Author.Tests.{ltb-true}
use lib.ListN.{length, length-set}
use Rattle.octets.proofs.LawsTests.{by_test}
use Rattle.device.specs.State.{fresh, max_links}
use Rattle.device.specs.Rules.{link_rule, rules}
use Rattle.device.specs.declared.state.Link.{Link}
use Rattle.device.specs.declared.state.Device.{Device}
use Rattle.device.specs.declared.view.Effect.{Effect}
use Rattle.device.specs.declared.view.Effect.TheVariants.{None, Reset, Powered}
use Rattle.device.specs.View.{view_of}
use Rattle.device.proofs.StateRules.{link_at}
use Rattle.command.specs.Decision.{decide}
use Rattle.command.specs.Effects.{effect_of}
use Rattle.command.proofs.EffectsByOctets.{decide_effect}
use Rattle.engine.specs.Engine.{link_of, is_set_up, affect, settled, engine}
use Rattle.engine.specs.Merged.{device_step}

pub link_below : (b : List ℕ) → link_of b < max_links
unfolding link_of
link_below b = omega arith

-- the link of a body keeps its rule where it is set up
pub own_rule : (d : Device) (b : List ℕ) → rules d ≡ true → is_set_up d.settings b ≡ true → link_rule (view_of (link_of b) d).link ≡ true
unfolding is_set_up
own_rule d b t e = link_at d t (link_of b) (ltb-true (link_of b) d.settings.links e)

affect_settings : (e : Effect) (d : Device) (j : ℕ) (l : Link) → (affect e d j l).settings ≡ d.settings
unfolding affect fresh
affect_settings None d j l = refl
affect_settings Reset d j l = refl
affect_settings (Powered x) d j l = refl

affect_four : (e : Effect) (d : Device) (j : ℕ) (l : Link) → length d.links ≡ max_links → length (affect e d j l).links ≡ max_links
unfolding affect fresh
affect_four None d j l h = length-set d.links j l ∙ h
affect_four Reset d j l h = refl
affect_four (Powered x) d j l h = length-set d.links j l ∙ h

-- a body on a link that is set up does to the box what its octets say, and to its link what it decides
pub body_set_up : (d : Device) (b : List ℕ) → is_set_up d.settings b ≡ true
    → (engine d b).device ≡ affect (effect_of b) d (link_of b) (decide (view_of (link_of b) d) b).link
unfolding engine settled
body_set_up d b e = cc (decide_effect (view_of (link_of b) d) b)

-- a body on a link that is not set up changes nothing
pub body_not_set_up : (d : Device) (b : List ℕ) → is_set_up d.settings b ≡ false → (engine d b).device ≡ d
unfolding engine
body_not_set_up d b e = cc

pub step_settings : (d : Device) (b : List ℕ) → (device_step d b).settings ≡ d.settings
step_settings d b =
    by_test (is_set_up d.settings b)
    (λ e. ap (λ x. x.settings) (body_set_up d b e) ∙ affect_settings (effect_of b) d (link_of b) (decide (view_of (link_of b) d) b).link)
    (λ e. ap (λ x. x.settings) (body_not_set_up d b e))

pub step_four : (d : Device) (b : List ℕ) → length d.links ≡ max_links → length (device_step d b).links ≡ max_links
step_four d b h =
    by_test (is_set_up d.settings b)
    (λ e. rw (body_set_up d b e) (affect_four (effect_of b) d (link_of b) (decide (view_of (link_of b) d) b).link h))
    (λ e. rw (body_not_set_up d b e) h)
