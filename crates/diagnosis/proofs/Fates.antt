-- PROMISE: "Links outside 1 to 4 are 14, before all else"; then "Bodies under two octets, over 1,300, or with other top bits get fates 2, 4
-- and 6 (4 first)". For any other body the number is 0.
use mathlib.Core.Path.{◌≡◌, refl, ap, ◌∙◌}
use mathlib.Core.Bool.{true, false}
use mathlib.Core.List.{List}
use Prim.Native.Nat.{ℕ, ◌/◌, ◌≤◌, ◌<◌}
use native.Mathlib.Omega.{arith}
use lib.Dec.{ltb}
use lib.ListN.{length}
use Rattle.octets.specs.Body.{Body, header_of, SpinelBody}
use Rattle.octets.specs.Ranges.{is_between}
use Rattle.octets.proofs.LawsTests.{chosen}
use Rattle.octets.proofs.LawsRanges.{inside_told}
use Rattle.std.specs.Prelude.{None, Result, Ok, Err}
use Rattle.request.specs.Verdict.{verdict as verdict_of}
use Rattle.request.specs.declared.verdict.Refusal.{Refusal}
use Rattle.request.specs.declared.verdict.Request.{Request}
use Rattle.request.specs.declared.verdict.Request.TheVariants.{Noop, Reset, Reach}
use Rattle.engine.specs.Engine.{link_of}
use Rattle.diagnosis.specs.Classes.{refused, reported, verdict_class, link_class, head_class, class_of}
use Rattle.diagnosis.proofs.LawsClasses.{bad_links, over_long, under_two, by_head}
use Rattle.diagnosis.proofs.SevenOctets.{seven_class}

-- what is reported of a refusal or a fate, and nothing else
pub refused_report : (n : ℕ) → refused n ≡ record { number = n; step = 0; status = 0; cause = None }
refused_report n = refl

pub refusal_14 : (links : ℕ) (b : List ℕ) → is_between 1 4 links ≡ false → reported (class_of links b) ≡ refused 14
refusal_14 links b h = ap reported (bad_links links b h)

number_by : (w : Result Request Refusal) → (reported (verdict_class w)).number ≡ 0
number_by (Err r) = refl
number_by (Ok Noop) = refl
number_by (Ok Reset) = refl
number_by (Ok (Reach c r start)) = refl

module _ (links : ℕ) (b : List ℕ) (good : is_between 1 4 links ≡ true) where
  few : (1 ≤ links) × (links ≤ 4)
  few = inside_told 1 4 links good

  pub fate_4 : 1300 < length b → reported (class_of links b) ≡ refused 4
  fate_4 h = ap reported (over_long links b few.0 few.1 h)

  pub fate_2 : length b < 2 → reported (class_of links b) ≡ refused 2
  fate_2 h = ap reported (under_two links b few.0 few.1 h)

  whole : Body b → class_of links b ≡ head_class links b
  whole h = by_head links b few.0 few.1 h ∙ seven_class links b

  pub fate_6 : 2 ≤ length b → length b ≤ 1300 → (header_of b / 64 ≡ 2 → ⊥) → reported (class_of links b) ≡ refused 6
  unfolding head_class
  fate_6 least most top = rw (whole (least, most)) (grind arith)

  -- a body that reaches the engine is sorted by its link and by steps 2 to 5
  pub checked_class : SpinelBody b → class_of links b ≡ link_class links b
  unfolding head_class
  checked_class h = rw (whole (h.0, h.1)) (grind arith)

  pub no_fate : SpinelBody b → (reported (class_of links b)).number ≡ 0
  unfolding link_class
  no_fate h =
      rw (checked_class h) (chosen (λ c. (reported c).number ≡ 0) (ltb (link_of b) links) (λ _. number_by (verdict_of b)) (λ _. refl))
