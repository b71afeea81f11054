-- Laws of reading: a call's outcome octet by octet, as the code's loop goes.
use mathlib.Core.Bool.{true, false}
use mathlib.Core.Path.{◌≡◌, refl, sym, ap, ◌∙◌}
use mathlib.Core.List.{List, [], ◌∷◌}
use Prim.Native.Nat.{ℕ, ◌+◌, ◌<◌, ◌≤◌}
use native.Mathlib.Nat.{zero-add, add-zero, add_assoc}
use native.Mathlib.Omega.{arith}
use Rattle.std.specs.Prelude.{Option, None, Some}
use lib.ListN.{length, get_or, drop, drop_of_length-le}
use Rattle.octets.proofs.LawsLists.{drop_next}
use Rattle.octets.proofs.LawsTests.{by_test, chosen, impossible}
use Rattle.hdlc.specs.declared.reader.Fate.{Fate}
use Rattle.hdlc.specs.Fate.{Fated, fated, given, told, unchecked, decided, Read, later}
use Rattle.hdlc.specs.Reader.{Assembling, after_octet, fate_at, run}

pub later_zero : {S : Type 0} (o : Read S) → later 0 o ≡ o
later_zero o = λ i. record { fate = o.fate; read = zero-add o.read i; state = o.state }

pub later_later : {S : Type 0} (m n : ℕ) (o : Read S) → later m (later n o) ≡ later (m + n) o
later_later m n o = λ i. record { fate = o.fate; read = sym (add_assoc m n o.read) i; state = o.state }

-- a call reads no more than its input
pub run_reads : (xs : List ℕ) (h : Assembling) → (run h xs).read ≤ length xs
unfolding run
run_reads [] h = omega arith
run_reads (b ∷ bs) h =
    chosen (λ (o : Read Assembling). o.read ≤ length (b ∷ bs)) (decided (fate_at h b)) (λ _. omega arith) (λ _. omega (arith, run_reads bs (after_octet h b)))

-- an octet that gives no fate decides none, and one that gives a fate decides that
pub none_told : (a : List ℕ) (v : Fated) → told None a ≡ given v → decided v ≡ false
unfolding given
none_told a v = by_test (decided v) (λ t. simp t (λ e. impossible cc)) (λ t _. t)

pub some_told : (f : Fate) (a : List ℕ) (v : Fated) → told (Some f) a ≡ given v → (decided v ≡ true) × (v ≡ fated f a)
unfolding given
some_told f a v = by_test (decided v) (λ t. simp t (λ e. (refl, cc))) (λ t. simp t (λ e. impossible cc))

-- ---- the outcome of what is left from `at` on

pub run_end : (h : Assembling) (xs : List ℕ) (at : ℕ) → length xs ≤ at
    → later at (run h (drop at xs)) ≡ record { fate = unchecked 0; read = at; state = h }
unfolding run
run_end h xs at p =
    ap (λ ys. later at (run h ys)) (drop_of_length-le xs p) ∙ (λ i. record { fate = unchecked 0; read = add-zero at i; state = h })

-- after one octet more, which gives the fate f and the state g
module _
    (h : Assembling) (xs : List ℕ) (at : ℕ) (inside : at < length xs)
    (f : Option Fate) (a : List ℕ) {g : Assembling}
    (fate : told f a ≡ given (fate_at h (get_or xs at 0))) (next : g ≡ after_octet h (get_or xs at 0)) where
  pub run_next : f ≡ None → later at (run h (drop at xs)) ≡ later (at + 1) (run g (drop (at + 1) xs))
  unfolding run
  run_next e =
      let none : decided (fate_at h (get_or xs at 0)) ≡ false = none_told a _ (rw e at fate) in
      ap (λ ys. later at (run h ys)) (drop_next xs at inside) ∙ rw (← next, none) (later_later at 1 _)

  pub run_decided : (x : Fate) → f ≡ Some x → later at (run h (drop at xs)) ≡ record { fate = fated x a; read = at + 1; state = g }
  unfolding run
  run_decided x e =
      let some : (decided (fate_at h (get_or xs at 0)) ≡ true) × (fate_at h (get_or xs at 0) ≡ fated x a) = some_told x a _ (rw e at fate) in
      ap (λ ys. later at (run h ys)) (drop_next xs at inside) ∙ rw (← next, some.0) (λ i. record { fate = some.1 i; read = at + 1; state = g })
