-- Ranges of numbers, both ends included.
use Rattle.std.specs.Prelude.{ℕ, Bool, ◌&&◌, leb}

unfoldable pub is_between : ℕ → ℕ → ℕ → Bool
is_between low high x = leb low x && leb x high
