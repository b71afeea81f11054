-- PROMISE: "66 to 1 while 65 is 0, and 65 to 0 while 66 is 1, are 4": under the state rules these two cases are exactly those in which the
-- changed numbers would have the stack up without the interface, which is the one test that the code makes.
use mathlib.Core.Path.{◌≡◌, refl, sym, ◌∙◌}
use mathlib.Core.Bool.{Bool, true, false, not, ◌&&◌, ◌||◌, and_comm}
use mathlib.Core.List.{List}
use Prim.Native.Nat.{ℕ, zero, suc, ◌≤◌, ◌<◌}
use native.Mathlib.Omega.{arith}
use borrow.Author.Tests.{eqb-true, eqb-false}
use lib.Dec.{eqb, leb}
use lib.ListN.{length, get_or, set}
use lib.Seq.{get_or-set_same, get_or-set_other}
use Rattle.std.specs.Prelude.{Ok}
use Rattle.octets.proofs.LawsScanning.{all_at}
use Rattle.octets.proofs.LawsTests.{by_test}
use Rattle.property.specs.Number.{bool, numbers, number_at, interface_up, stack_up, within, slot_count}
use Rattle.device.specs.Rules.{in_range, stack_rule, link_rule}
use Rattle.device.specs.declared.state.Link.{Link}
use Rattle.device.proofs.StateRules.{link_told, nine_numbers}
use Rattle.method.specs.Set.{value_in, conflicts}
use Rattle.method.proofs.LawsNumbers.{value_within, within_most}

-- of two bools, the stack's and the interface's
up_without : (stack interface : ℕ) → stack ≤ 1 → interface ≤ 1 → eqb stack 1 && eqb interface 0 ≡ not (leb stack interface)
up_without zero zero p q = refl
up_without zero (suc zero) p q = refl
up_without (suc zero) zero p q = refl
up_without (suc zero) (suc zero) p q = refl
up_without zero (suc (suc n)) p q = absurd (omega arith)
up_without (suc zero) (suc (suc n)) p q = absurd (omega arith)
up_without (suc (suc n)) interface p q = absurd (omega arith)

module _ (held : List ℕ) (nine : length held ≡ slot_count) (range : in_range held ≡ true) (stack : stack_rule held ≡ true) where
  -- a bool that is held
  small : (slot : ℕ) → slot < slot_count → number_at slot ≡ bool → get_or held slot 0 ≤ 1
  unfolding in_range
  small slot h is = within_most bool _ refl (rw is at (all_at slot_count (λ k. within (number_at k) (get_or held k 0)) range slot h))

  pub conflict_test : (slot v : ℕ) → within (number_at slot) v ≡ true → conflicts held slot v ≡ not (stack_rule (set held slot v))
  unfolding conflicts stack_rule numbers
  conflict_test slot v w =
      by_test (eqb slot stack_up)
      (λ e. let five : slot ≡ stack_up = eqb-true slot stack_up e in
      rw (five, get_or-set_same held stack_up v 0 (omega arith), get_or-set_other held stack_up interface_up v 0 (λ q. omega arith))
      (either (eqb v 1 && eqb (get_or held interface_up 0) 0)
      ∙ up_without v (get_or held interface_up 0) (within_most bool v refl (rw five at w)) (small interface_up (omega arith) refl)))
      (λ e. by_test (eqb slot interface_up)
      (λ f. let four : slot ≡ interface_up = eqb-true slot interface_up f in
      rw (four, get_or-set_same held interface_up v 0 (omega arith), get_or-set_other held interface_up stack_up v 0 (λ q. omega arith))
      (and_comm (eqb v 0) (eqb (get_or held stack_up 0) 1)
      ∙ up_without (get_or held stack_up 0) v (small stack_up (omega arith) refl) (within_most bool v refl (rw four at w))))
      (λ f. let same = get_or-set_other held slot stack_up v 0 (λ q. eqb-false slot stack_up e (sym q)) in
      let other = get_or-set_other held slot interface_up v 0 (λ q. eqb-false slot interface_up f (sym q)) in
      rw (e, f, same, other, stack)))
    where
      either : (t : Bool) → t || false ≡ t
      either true = refl
      either false = refl

-- the same of a value that is read for a link
pub conflict_read : (l : Link) (slot v : ℕ) (p : List ℕ) → link_rule l ≡ true → value_in (number_at slot) p ≡ Ok v
    → conflicts l.numbers slot v ≡ not (stack_rule (set l.numbers slot v))
conflict_read l slot v p t e =
    let f = link_told l t in
    conflict_test l.numbers (nine_numbers l t) f.range f.stack slot v (value_within (number_at slot) p v e)
