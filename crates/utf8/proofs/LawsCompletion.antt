-- The octets that complete the character of a stage.
use mathlib.Core.Bool.{true, false}
use mathlib.Core.List.{List, [], ◌∷◌, ◌++◌, foldl}
use mathlib.Core.Path.{◌≡◌, refl, ap}
use Prim.Native.Nat.{ℕ, ◌≤◌}
use Rattle.octets.specs.Ranges.{is_between}
use Rattle.octets.proofs.LawsRanges.{inside, inside_told}
use Rattle.utf8.specs.declared.Stage.{Stage}
use Rattle.utf8.specs.declared.Stage.TheVariants.{Between, Expecting, Wrong}
use Rattle.utf8.specs.Utf8.{tails, step, ends}

-- they complete it, and no more of them stand there
unfoldable pub Completes : List ℕ → Stage → Type 0
Completes [] s = ends s ≡ true
Completes (y ∷ ys) Between = false ≡ true
Completes (y ∷ ys) (Expecting low high n) = (is_between low high y ≡ true) × Completes ys (tails n)
Completes (y ∷ ys) Wrong = false ≡ true

pub none_completes : (s : Stage) → ends s ≡ true → Completes [] s
unfolding Completes
none_completes s e = e

pub next_completes : (low high n y : ℕ) (ys : List ℕ) → (low ≤ y) × (y ≤ high) → Completes ys (tails n) → Completes (y ∷ ys) (Expecting low high n)
unfolding Completes
next_completes low high n y ys h o = (inside low high y h.0 h.1, o)

-- ---- they lead to its end

pub completed : (ys xs : List ℕ) (s : Stage) → Completes ys s → foldl step s (ys ++ xs) ≡ foldl step Between xs
unfolding Completes step ends
completed [] xs Between o = refl
completed [] xs (Expecting low high n) o = absurd cc
completed [] xs Wrong o = absurd cc
completed (y ∷ ys) xs Between o = absurd cc
completed (y ∷ ys) xs (Expecting low high n) o = let e : step (Expecting low high n) y ≡ tails n = rw o.0 in cc (completed ys xs (tails n) o.1)
completed (y ∷ ys) xs Wrong o = absurd cc

-- ---- they are so many, each in its range

pub record Expected (low high n : ℕ) (ys : List ℕ) : Type 0 where
  pub octet : ℕ
  pub rest : List ℕ
  pub is : ys ≡ octet ∷ rest
  pub from : low ≤ octet
  pub to : octet ≤ high
  pub completes : Completes rest (tails n)

pub expected : (low high n : ℕ) (ys : List ℕ) → Completes ys (Expecting low high n) → Expected low high n ys
unfolding Completes ends
expected low high n [] o = absurd cc
expected low high n (y ∷ ys) o =
    let r = inside_told low high y o.0 in
    record { octet = y; rest = ys; is = refl; from = r.0; to = r.1; completes = o.1 }

pub between_none : (ys : List ℕ) → Completes ys Between → ys ≡ []
unfolding Completes
between_none [] o = refl
between_none (y ∷ ys) o = absurd cc

pub wrong_never : {P : Type 0} (ys : List ℕ) → Completes ys Wrong → P
unfolding Completes ends
wrong_never [] o = absurd cc
wrong_never (y ∷ ys) o = absurd cc

-- ---- behind a wrong octet nothing ends well

wrong_stays : (xs : List ℕ) → foldl step Wrong xs ≡ Wrong
unfolding step
wrong_stays [] = refl
wrong_stays (x ∷ xs) = wrong_stays xs

pub never_ends : {P : Type 0} (xs : List ℕ) → ends (foldl step Wrong xs) ≡ true → P
unfolding ends
never_ends xs e = let w = ap ends (wrong_stays xs) in absurd cc
