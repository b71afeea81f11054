-- A link that is equal to the fresh link is one that holds the defaults.
use mathlib.Core.Path.{◌≡◌, refl, sym, ap, ◌∙◌}
use mathlib.Core.Bool.{Bool, true, false, ◌&&◌}
use borrow.Author.Tests.{eqb-true}
use lib.Dec.{eqb}
use lib.Pointwise.{pointwise}
use Prim.Native.Nat.{ℕ}
use Rattle.std.specs.Cmp.Lexicographic.{same_text}
use Rattle.octets.specs.Padding.{pad}
use Rattle.octets.proofs.LawsTests.{both_told}
use Rattle.property.specs.Number.{numbers}
use Rattle.device.specs.declared.state.Padded.{Padded}
use Rattle.device.specs.declared.state.Link.{Link}
use Rattle.device.specs.State.{defaults, fresh_link}
use Rattle.device.specs.Rules.{is_fresh}
use Rattle.device.proofs.StateRules.{fresh_link_lem}
use Rattle.device.proofs.SetupKeepsRules.{fresh_unset}

-- the tests that the derived `==` makes
abbrev same_octets : {n : ℕ} → Padded n → Padded n → Bool
same_octets p q = pointwise eqb p.octets q.octets && eqb p.len q.len

abbrev pub same_link : Link → Link → Bool
same_link l m = eqb l.status m.status && (pointwise eqb l.numbers m.numbers && (same_octets l.name m.name && same_octets l.ports m.ports))

octets_lem : {n : ℕ} (p q : Padded n) → same_octets p q ≡ true → p ≡ q
octets_lem p q t =
    let a = both_told t in
    let octets = same_text _ _ (sym a.0) in
    λ i. record { octets = octets i; len = eqb-true p.len q.len a.1 i }

link_lem : (l m : Link) → same_link l m ≡ true → l ≡ m
link_lem l m t =
    let a = both_told t in
    let b = both_told a.1 in
    let c = both_told b.1 in
    let numbers = same_text _ _ (sym b.0) in
    λ i. record {
      status = eqb-true l.status m.status a.0 i;
      numbers = numbers i;
      name = octets_lem l.name m.name c.0 i;
      ports = octets_lem l.ports m.ports c.1 i;
    }

fresh_same : same_link fresh_link fresh_link ≡ true
unfolding defaults numbers pad
fresh_same = refl

both_ways : (a b : Bool) → (a ≡ true → b ≡ true) → (b ≡ true → a ≡ true) → a ≡ b
both_ways true b f g = sym (f refl)
both_ways false true f g = g refl
both_ways false false f g = refl

pub same_fresh : (l : Link) → same_link l fresh_link ≡ is_fresh l
same_fresh l =
    both_ways _ _
    (λ t. ap is_fresh (link_lem l fresh_link t) ∙ fresh_unset)
    (λ t. ap (λ m. same_link m fresh_link) (fresh_link_lem l t) ∙ fresh_same)
