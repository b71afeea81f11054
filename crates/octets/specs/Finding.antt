-- Looking for an octet.
use Rattle.std.specs.Prelude.{ℕ, suc, cond, List, [], ◌∷◌, eqb}

-- how many elements stand before the first that is x; all, if none is
unfoldable pub before : ℕ → List ℕ → ℕ
before x [] = 0
before x (y ∷ ys) = cond (eqb y x) 0 (suc (before x ys))
