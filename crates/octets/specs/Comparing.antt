-- Comparing two lists.
use Rattle.std.specs.Prelude.{ℕ, suc, Bool, cond, ◌&&◌, List, [], ◌∷◌, eqb, length}

-- how many elements are the same at the two fronts
unfoldable pub common_front : List ℕ → List ℕ → ℕ
common_front [] ys = 0
common_front (x ∷ xs) [] = 0
common_front (x ∷ xs) (y ∷ ys) = cond (eqb x y) (suc (common_front xs ys)) 0

-- whether they are one list: of one length, and the same up to it
unfoldable pub is_same : List ℕ → List ℕ → Bool
is_same xs ys = eqb (length xs) (length ys) && eqb (common_front xs ys) (length xs)
