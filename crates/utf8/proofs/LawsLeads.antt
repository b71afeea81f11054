-- Laws of the grammar's rows.
use mathlib.Core.List.{List, [], ◌∷◌}
use Prim.Native.Nat.{ℕ, ◌≤◌}
use Rattle.octets.specs.Ranges.{is_between}
use Rattle.octets.proofs.LawsTests.{chosen}
use Rattle.octets.proofs.LawsRanges.{inside_told}
use Rattle.utf8.specs.declared.Stage.{Stage}
use Rattle.utf8.specs.declared.Stage.TheVariants.{Wrong}
use Rattle.utf8.specs.Utf8.{Lead, lead_in}

-- what holds of each row's octets holds of every octet, if it holds of those in none
module _ (x : ℕ) (P : Stage → Type 0) where
  pub by_lead : (r : Lead) (rs : List Lead) → (r.from ≤ x → x ≤ r.to → P r.stage) → P (lead_in rs x) → P (lead_in (r ∷ rs) x)
  unfolding lead_in
  by_lead r rs p q = chosen P (is_between r.from r.to x) (λ e. let h = inside_told r.from r.to x e in p h.0 h.1) (λ _. q)

  pub by_none : P Wrong → P (lead_in [] x)
  unfolding lead_in
  by_none p = p
