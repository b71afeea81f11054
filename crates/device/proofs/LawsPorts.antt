-- Laws of ports in octets: the first of them, and those behind it.
use mathlib.Core.Path.{◌≡◌, refl}
use mathlib.Core.Bool.{true, false, not, ◌&&◌}
use mathlib.Core.List.{List, [], ◌∷◌}
use Prim.Native.Nat.{ℕ, suc, ◌+◌, ◌*◌, ◌-◌, ◌≤◌, ◌<◌}
use Prim.Native.Nat.compare
use native.Mathlib.Omega.{arith}
use borrow.Author.Tests.{eq-eqb, ne_eqb, lt-ltb}
use lib.ListN.{length, take, drop, length-drop}
use lib.Seq.{length-take-le, take-length}
use Rattle.std.specs.Option.{is_some}
use Rattle.std.specs.Prelude.{Some, None}
use Rattle.octets.proofs.LawsTests.{by_test, impossible}
use Rattle.octets.specs.LittleEndian.{le_at}
use Rattle.octets.specs.Finding.{before}
use Rattle.device.specs.Ports.{ports_in, holds, distinct, port_place}

-- what stands behind two octets
abbrev pub behind : List ℕ → List ℕ
behind xs = take (length xs - 2) (drop 2 xs)

pub behind_length : (xs : List ℕ) → 2 ≤ length xs → length (behind xs) + 2 ≡ length xs
behind_length xs h = omega (arith, length-drop 2 xs, length-take-le (length xs - 2) (drop 2 xs) (omega (arith, length-drop 2 xs)))

behind_two : (x y : ℕ) (xs : List ℕ) → behind (x ∷ y ∷ xs) ≡ xs
behind_two x y xs = let e : length (x ∷ y ∷ xs) - 2 ≡ length xs = omega arith in rw e (take-length xs)

pub ports_next : (xs : List ℕ) → 2 ≤ length xs → ports_in xs ≡ le_at xs 0 2 ∷ ports_in (behind xs)
unfolding le_at ports_in
ports_next [] h = absurd (omega arith)
ports_next (x ∷ []) h = absurd (omega arith)
ports_next (x ∷ y ∷ xs) h = rw (behind_two x y xs)

pub ports_none : (xs : List ℕ) → length xs < 2 → ports_in xs ≡ []
unfolding ports_in
ports_none [] h = refl
ports_none (x ∷ []) h = refl
ports_none (x ∷ y ∷ xs) h = absurd (omega arith)

-- ---- how many

pub ports_length : (xs : List ℕ) → (2 * length (ports_in xs) ≤ length xs) × (length xs < 2 * length (ports_in xs) + 2)
unfolding ports_in
ports_length [] = (omega arith, omega arith)
ports_length (x ∷ []) = (omega arith, omega arith)
ports_length (x ∷ y ∷ xs) = let few = ports_length xs in (omega arith, omega arith)

-- ---- looking for a port

-- the front of a list, and behind it
held_here : (v x : ℕ) (xs : List ℕ) → x ≡ v → holds v (x ∷ xs) ≡ true
unfolding before holds
held_here v x xs e = rw (eq-eqb x v e) (lt-ltb 0 (length (x ∷ xs)) (omega arith))

held_on : (v x : ℕ) (xs : List ℕ) → (x ≡ v → ⊥) → holds v (x ∷ xs) ≡ holds v xs
unfolding before holds
held_on v x xs e = rw (ne_eqb x v e, compare.suc-suc)

pub port_here : (v : ℕ) (xs : List ℕ) → 2 ≤ length xs → le_at xs 0 2 ≡ v → (before v (ports_in xs) ≡ 0) × (holds v (ports_in xs) ≡ true)
unfolding before
port_here v xs h e = (rw (ports_next xs h, eq-eqb _ _ e), rw (ports_next xs h) (held_here v _ _ e))

pub port_on : (v : ℕ) (xs : List ℕ) → 2 ≤ length xs → (le_at xs 0 2 ≡ v → ⊥)
    → (before v (ports_in xs) ≡ suc (before v (ports_in (behind xs)))) × (holds v (ports_in xs) ≡ holds v (ports_in (behind xs)))
unfolding before
port_on v xs h e = (rw (ports_next xs h, ne_eqb _ _ e), rw (ports_next xs h) (held_on v _ _ e))

pub port_none : (v : ℕ) (xs : List ℕ) → length xs < 2 → holds v (ports_in xs) ≡ false
unfolding before holds
port_none v xs h = rw (ports_none xs h)

-- a port is found if it is there
pub place_held : (v : ℕ) (xs : List ℕ) → is_some (port_place v xs) ≡ holds v (ports_in xs)
unfolding port_place
place_held v xs = by_test (holds v (ports_in xs)) (λ t. rw t) (λ t. rw t)

-- the place that is found
pub place_told : (v : ℕ) (xs : List ℕ) (at : ℕ) → port_place v xs ≡ Some at → (holds v (ports_in xs) ≡ true) × (at ≡ 2 * before v (ports_in xs))
unfolding port_place
place_told v xs at e =
    by_test (holds v (ports_in xs)) (λ t. let some = rw t at e in (t, cc)) (λ t. let none = rw t at e in impossible cc)

pub place_none : (v : ℕ) (xs : List ℕ) → port_place v xs ≡ None → holds v (ports_in xs) ≡ false
unfolding port_place
place_none v xs e =
    by_test (holds v (ports_in xs)) (λ t. let some = rw t at e in impossible cc) (λ t. t)

-- ---- no port twice

pub distinct_next : (xs : List ℕ) → 2 ≤ length xs → distinct (ports_in xs) ≡ not (holds (le_at xs 0 2) (ports_in (behind xs))) && distinct (ports_in (behind xs))
unfolding distinct
distinct_next xs h = rw (ports_next xs h)

pub distinct_none : (xs : List ℕ) → length xs < 2 → distinct (ports_in xs) ≡ true
unfolding distinct
distinct_none xs h = rw (ports_none xs h)
