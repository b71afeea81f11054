-- Laws of the octets' kinds.
use mathlib.Core.Bool.{Bool, false}
use mathlib.Core.Path.{◌≡◌, sym, subst}
use Prim.Native.Nat.{ℕ}
use borrow.Author.Tests.{eqb-true}
use lib.Dec.{eqb}
use Rattle.octets.proofs.LawsTests.{by_test}
use Rattle.frame.specs.Kind.{is_flag, is_escape, is_skipped}

-- the answers of the three tests
pub record Tests (b : ℕ) (f e s : Bool) : Type 0 where
  pub flag : is_flag b ≡ f
  pub escape : is_escape b ≡ e
  pub skipped : is_skipped b ≡ s

-- an octet is one of the five, or none of the tests holds of it
pub by_octet : (P : ℕ → Type 0) → P 0x7e → P 0x7d → P 0x11 → P 0x13 → P 0xf8 → ((b : ℕ) → Tests b false false false → P b) → (b : ℕ) → P b
unfolding is_flag is_escape is_skipped
by_octet P flag escape xon xoff f8 plain b =
    by_test (eqb b 0x7e) (λ e. subst P (sym (eqb-true b 0x7e e)) flag)
    (λ e0. by_test (eqb b 0x7d) (λ e. subst P (sym (eqb-true b 0x7d e)) escape)
    (λ e1. by_test (eqb b 0x11) (λ e. subst P (sym (eqb-true b 0x11 e)) xon)
    (λ e2. by_test (eqb b 0x13) (λ e. subst P (sym (eqb-true b 0x13 e)) xoff)
    (λ e3. by_test (eqb b 0xf8) (λ e. subst P (sym (eqb-true b 0xf8 e)) f8)
    (λ e4. plain b (record { flag = e0; escape = e1; skipped = simp (e2, e3, e4) }))))))
