-- The invariant: what is still common, from `at` on, is what is common in all.
use mathlib.Core.Path.{◌≡◌}
use Prim.Native.Nat.{◌+◌, ◌-◌, ◌≤◌}
use lib.ListN.{length, drop}
use Rattle.octets.specs.Comparing.{common_front}
use Rattle.octets.proofs.comparing.common_front.Given as goal

abbrev pub invariant-loop-at : goal.invariant-loop-at
invariant-loop-at l =
    (l.at ≤ length l.a) × (l.at + common_front (drop l.at l.a) (drop l.at l.b) ≡ common_front l.a l.b)

abbrev pub decreases-loop-at : goal.decreases-loop-at
decreases-loop-at l =
    length l.a - l.at
