-- The invariant: what is still before the octet, from `at` on, is what is before it in all.
use mathlib.Core.Path.{◌≡◌}
use Prim.Native.Nat.{◌+◌, ◌-◌, ◌≤◌}
use lib.ListN.{length, drop}
use Rattle.octets.specs.Finding.{before}
use Rattle.octets.proofs.finding.find_octet.Given as goal

abbrev pub invariant-loop-at : goal.invariant-loop-at
invariant-loop-at l =
    (l.at ≤ length l.octets) × (l.at + before l.octet (drop l.at l.octets) ≡ l.from + before l.octet (drop l.from l.octets))

abbrev pub decreases-loop-at : goal.decreases-loop-at
decreases-loop-at l =
    length l.octets - l.at
