-- The invariant: what is left of the defaults, put from the slot reached on, gives them all.
use mathlib.Core.Path.{◌≡◌}
use lib.ListN.{drop}
use lib.Seq.{sets}
use Rattle.device.specs.State.{defaults}
use Rattle.device.proofs.state.default_numbers.Given as goal

abbrev pub invariant-loop-slot : goal.invariant-loop-slot
invariant-loop-slot l =
    sets l.number-items l.slot (drop l.slot defaults) ≡ defaults
