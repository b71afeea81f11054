-- Laws of ranges.
use mathlib.Core.Bool.{true, false}
use mathlib.Core.Path.{◌≡◌}
use Prim.Native.Nat.{ℕ, ◌≤◌, ◌<◌}
use native.Mathlib.Omega.{arith}
use Rattle.octets.specs.Ranges.{is_between}

module _ (low high x : ℕ) where
  pub inside : low ≤ x → x ≤ high → is_between low high x ≡ true
  unfolding is_between
  inside h k = grind arith

  pub inside_told : is_between low high x ≡ true → (low ≤ x) × (x ≤ high)
  unfolding is_between
  inside_told t = (grind arith, grind arith)

  pub below : x < low → is_between low high x ≡ false
  unfolding is_between
  below h = grind arith

  pub above : high < x → is_between low high x ≡ false
  unfolding is_between
  above h = grind arith
