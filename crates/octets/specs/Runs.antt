-- Lists taken element by element.
use Rattle.std.specs.Prelude.{List, [], ◌∷◌, ◌++◌}

-- what the elements give, end to end
abbrev pub each : {A B : Type 0} → (A → List B) → List A → List B
each f [] = []
each f (x ∷ xs) = f x ++ each f xs

-- the same where what an element gives depends on a state, which `step` leads on
abbrev pub emitted : {S A B : Type 0} → (S → A → List B) → (S → A → S) → S → List A → List B
emitted f step s [] = []
emitted f step s (x ∷ xs) = f s x ++ emitted f step (step s x) xs
