-- Proofs by cases on a test, and tests joined.
use mathlib.Core.Path.{◌≡◌, refl}
use mathlib.Core.Bool.{Bool, true, false, cond, ◌&&◌}
use Prim.Native.Nat.{ℕ}
use native.Mathlib.Omega.{arith}
use Rattle.std.proofs.Common.{rules}

-- by cases on a test, each with its equation
pub by_test : {P : Type 0} (t : Bool) → (t ≡ true → P) → (t ≡ false → P) → P
by_test true yes-case no-case = yes-case refl
by_test false yes-case no-case = no-case refl

-- what holds of both choices holds of the one made
pub chosen : {A : Type 0} (P : A → Type 0) (t : Bool) {x y : A} → (t ≡ true → P x) → (t ≡ false → P y) → P (cond t x y)
chosen P true yes-case no-case = yes-case refl
chosen P false yes-case no-case = no-case refl

pub and_l : (a b : Bool) → a && b ≡ true → a ≡ true
and_l a b t = search rules

pub and_r : (a b : Bool) → a && b ≡ true → b ≡ true
and_r a b t = search rules

pub both : (a b : Bool) → a ≡ true → b ≡ true → a && b ≡ true
both a b p q = search rules

-- the two at once, where the statement names them
pub both_told : {a b : Bool} → a && b ≡ true → (a ≡ true) × (b ≡ true)
both_told {a} {b} t = search rules

-- two constructors are never equal: `impossible cc` closes a case whose equations join two
pub impossible : {P : Type 0} → ◌≡◌ {A = ℕ} 0 1 → P
impossible e = absurd (omega arith)
