-- Lists that stand end to end give what each gives, end to end.
use mathlib.Core.Path.{◌≡◌, refl, sym, ap, ◌∙◌}
use mathlib.Core.List.{List, [], ◌∷◌, ◌++◌, append_assoc, foldl}
use Rattle.octets.specs.Runs.{each, emitted}

pub each_append : {A B : Type 0} (f : A → List B) (xs ys : List A) → each f (xs ++ ys) ≡ each f xs ++ each f ys
each_append f [] ys = refl
each_append f (x ∷ xs) ys = ap (λ l. f x ++ l) (each_append f xs ys) ∙ sym (append_assoc (f x) (each f xs) (each f ys))

pub emitted_append : {S A B : Type 0} (f : S → A → List B) (step : S → A → S) (s : S) (xs ys : List A)
    → emitted f step s (xs ++ ys) ≡ emitted f step s xs ++ emitted f step (foldl step s xs) ys
emitted_append f step s [] ys = refl
emitted_append f step s (x ∷ xs) ys =
    ap (λ l. f s x ++ l) (emitted_append f step (step s x) xs ys)
    ∙ sym (append_assoc (f s x) (emitted f step (step s x) xs) (emitted f step (foldl step (step s x) xs) ys))
