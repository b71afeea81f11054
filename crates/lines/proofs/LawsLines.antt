-- Laws of lines: octet by octet, and their length.
use mathlib.Core.Path.{◌≡◌, refl, ap}
use mathlib.Core.List.{List, [], ◌∷◌, ◌++◌}
use Prim.Native.Nat.{ℕ, ◌+◌, ◌*◌, ◌-◌, ◌≤◌, ◌<◌}
use native.Mathlib.Omega.{arith}
use lib.ListN.{length, get_or, drop, length-drop, drop_of_length-le}
use Rattle.std.proofs.Common.{rules}
use Rattle.octets.proofs.LawsLists.{drop_next}
use Rattle.lines.specs.Line.{shown, line_of}

pub line_next : (xs : List ℕ) (i : ℕ) → i < length xs
    → line_of (drop i xs) ≡ shown (get_or xs i 0) (length xs - i - 1) ++ line_of (drop (i + 1) xs)
unfolding line_of
line_next xs i h = search (rules, drop_next xs i h, length-drop (i + 1) xs)

pub line_done : (xs : List ℕ) (i : ℕ) → length xs ≤ i → line_of (drop i xs) ≡ []
unfolding line_of
line_done xs i h = ap line_of (drop_of_length-le xs h)

pub line_length : (xs : List ℕ) → length (line_of xs) ≡ 3 * length xs
unfolding line_of
line_length [] = refl
line_length (x ∷ xs) = omega (arith, line_length xs)
