-- The invariant: the ports of the rest are distinct if all are.
use mathlib.Core.Path.{◌≡◌}
use lib.ListN.{length}
use Rattle.device.specs.Ports.{ports_in, distinct}
use Rattle.device.proofs.ports.are_distinct.Given as goal

abbrev pub invariant-loop-rest : goal.invariant-loop-rest
invariant-loop-rest l =
    distinct (ports_in l.octets) ≡ distinct (ports_in l.rest)

abbrev pub decreases-loop-rest : goal.decreases-loop-rest
decreases-loop-rest l =
    length l.rest
