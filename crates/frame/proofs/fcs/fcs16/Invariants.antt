-- The invariant: the register after what is left is the register after the whole.
use mathlib.Core.Path.{◌≡◌}
use lib.ListN.{drop}
use Rattle.frame.specs.Fcs.{fcs_from}
use Rattle.frame.proofs.fcs.fcs16.Given as goal

abbrev pub invariant-loop-octet : goal.invariant-loop-octet
invariant-loop-octet l =
    fcs_from l.r (drop l.octet-index l.body) ≡ fcs_from l.initial.r l.body
