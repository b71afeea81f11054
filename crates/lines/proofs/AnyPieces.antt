-- PROMISE: a line read in any pieces, one after the other, is read as it is at once.
use mathlib.Core.Path.{◌≡◌, refl, sym, ◌∙◌}
use mathlib.Core.List.{List, [], ◌∷◌, ◌++◌, flatten, foldl, foldl-append}
use Prim.Native.Nat.{ℕ}
use Rattle.lines.specs.Reader.{Keeping, step, reading}

two_pieces : (h : Keeping) (text rest : List ℕ) → reading h (text ++ rest) ≡ reading (reading h text) rest
two_pieces h text rest = foldl-append step h text rest

pub any_pieces : (h : Keeping) (pieces : List (List ℕ)) → foldl reading h pieces ≡ reading h (flatten pieces)
unfolding flatten
any_pieces h [] = refl
any_pieces h (text ∷ pieces) = any_pieces (reading h text) pieces ∙ sym (two_pieces h text (flatten pieces))
