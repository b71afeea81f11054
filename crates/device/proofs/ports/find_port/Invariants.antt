-- The invariant: what is before the port in all is what is passed and what is before it in the rest.
use mathlib.Core.Path.{◌≡◌}
use Prim.Native.Nat.{◌+◌, ◌*◌, ◌≤◌}
use lib.ListN.{length}
use Rattle.octets.specs.Finding.{before}
use Rattle.device.specs.Ports.{ports_in, holds}
use Rattle.device.proofs.ports.find_port.Given as goal

abbrev pub invariant-loop-rest : goal.invariant-loop-rest
invariant-loop-rest l =
    (length l.rest ≤ length l.octets)
    × (length l.rest + 2 * before l.port (ports_in l.octets) ≡ length l.octets + 2 * before l.port (ports_in l.rest))
    × (holds l.port (ports_in l.octets) ≡ holds l.port (ports_in l.rest))

abbrev pub decreases-loop-rest : goal.decreases-loop-rest
decreases-loop-rest l =
    length l.rest
