-- Laws of taking a list's elements one after the other, from a place on, which is how a loop goes.
use mathlib.Core.Path.{◌≡◌, sym, ap}
use mathlib.Core.List.{List, foldl}
use Prim.Native.Nat.{ℕ, ◌+◌, ◌<◌}
use lib.ListN.{length, get_or, drop}
use Rattle.octets.proofs.LawsLists.{drop_next}

module _ {S : Type 0} (take-one : S → ℕ → S) (s : S) (xs : List ℕ) (i : ℕ) where
  pub take_next : i < length xs → foldl take-one (take-one s (get_or xs i 0)) (drop (i + 1) xs) ≡ foldl take-one s (drop i xs)
  take_next h = ap (foldl take-one s) (sym (drop_next xs i h))
