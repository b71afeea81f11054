-- A test at every place of a run.
use Rattle.std.specs.Prelude.{ℕ, zero, suc, ◌-◌, Bool, true, ◌&&◌, List, eqb, length, get_or}

-- `n` places from `i` on all pass
unfoldable pub all_from : (ℕ → Bool) → ℕ → ℕ → Bool
all_from test i zero = true
all_from test i (suc n) = test i && all_from test (suc i) n

-- every place below `n` passes
unfoldable pub all_below : ℕ → (ℕ → Bool) → Bool
all_below n test = all_from test 0 n

-- every element from a place on is 0
unfoldable pub zeros_from : ℕ → List ℕ → Bool
zeros_from from xs = all_from (λ i. eqb (get_or xs i 0) 0) from (length xs - from)
