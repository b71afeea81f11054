-- The class of a body, case by case.
use mathlib.Core.Path.{◌≡◌}
use mathlib.Core.Bool.{false}
use mathlib.Core.List.{List}
use Prim.Native.Nat.{ℕ, ◌≤◌, ◌<◌}
use native.Mathlib.Omega.{arith}
use lib.ListN.{length, take}
use Rattle.octets.specs.Body.{min_body, max_body, Body}
use Rattle.octets.specs.Ranges.{is_between}
use Rattle.device.specs.State.{max_links}
use Rattle.diagnosis.specs.declared.classes.Class.TheVariants.{BadLinks, TooLong, Short}
use Rattle.diagnosis.specs.Classes.{head_class, max_head, class_of}

pub bad_links : (links : ℕ) (b : List ℕ) → is_between 1 max_links links ≡ false → class_of links b ≡ BadLinks
unfolding class_of
bad_links links b h = rw h

module _ (links : ℕ) (b : List ℕ) (some : 1 ≤ links) (few : links ≤ max_links) where
  pub over_long : max_body < length b → class_of links b ≡ TooLong
  unfolding class_of is_between
  over_long h = grind arith

  pub under_two : length b < min_body → class_of links b ≡ Short
  unfolding class_of is_between
  under_two h = grind arith

  pub by_head : Body b → class_of links b ≡ head_class links (take max_head b)
  unfolding class_of is_between
  by_head h = grind arith
