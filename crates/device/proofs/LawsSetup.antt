-- Laws of setup: when it is refused, and that the rule of its settings says so.
use mathlib.Core.Path.{◌≡◌}
use mathlib.Core.Bool.{true, false, and-true, and-false}
use mathlib.Core.List.{List}
use Prim.Native.Nat.{ℕ, ◌≤◌, ◌<◌}
use borrow.Author.Tests.{eq-eqb, ne_eqb, lt-leb}
use lib.Dec.{eqb, leb}
use lib.ListN.{length}
use Rattle.octets.proofs.LawsPadding.{pad_length}
use Rattle.octets.proofs.LawsTests.{both_told}
use Rattle.device.specs.State.{fresh, address_size, max_links, max_text, max_vendor}
use Rattle.device.specs.Text.{is_text}
use Rattle.device.specs.Rules.{settings_rule}
use Rattle.device.specs.Setup.{is_good_setup, settings_from, refusal, setup_for}
use Rattle.device.proofs.LawsRules.{text_pad}

module _ (links vendor : ℕ) (text address : List ℕ) where
  pub setup_ready : is_good_setup links vendor text address ≡ true
      → setup_for links vendor text address ≡ record { number = 0; device = fresh (settings_from links vendor text address) }
  unfolding setup_for
  setup_ready t = rw t

  pub setup_refused : is_good_setup links vendor text address ≡ false → setup_for links vendor text address ≡ refusal
  unfolding setup_for
  setup_refused t = rw t

  pub text_long : max_text < length text → is_good_setup links vendor text address ≡ false
  unfolding is_good_setup is_text
  text_long h = simp (lt-leb (length text) max_text h, and-false)

  pub address_wrong : (length address ≡ address_size → ⊥) → is_good_setup links vendor text address ≡ false
  unfolding is_good_setup
  address_wrong h = simp (ne_eqb (length address) address_size h, and-false)

  -- where the lengths are right, the settings' rule is setup's
  pub setup_rule : length text ≤ max_text → length address ≡ address_size → settings_rule (settings_from links vendor text address) ≡ is_good_setup links vendor text address
  unfolding settings_rule is_good_setup
  setup_rule h e = rw (pad_length max_text text h, eq-eqb (length address) address_size e, text_pad max_text text h, and-true)

  pub setup_told : is_good_setup links vendor text address ≡ true
      → (leb 1 links ≡ true) × (leb links max_links ≡ true) × (leb vendor max_vendor ≡ true) × (is_text max_text text ≡ true) × (eqb (length address) address_size ≡ true)
  unfolding is_good_setup
  setup_told t =
      let a = both_told t in
      let b = both_told a.1 in
      let c = both_told b.1 in
      let d = both_told c.1 in
      (a.0, b.0, c.0, d.0, d.1)
