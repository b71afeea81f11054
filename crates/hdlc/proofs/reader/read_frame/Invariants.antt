-- The invariant: the outcome of what is left, `at` octets later, is that of the whole, and the reader keeps its rules.
use mathlib.Core.Bool.{true}
use mathlib.Core.Path.{◌≡◌}
use Prim.Native.Nat.{◌-◌, ◌≤◌}
use lib.ListN.{length, drop}
use Rattle.hdlc.specs.Fate.{later}
use Rattle.hdlc.specs.Reader.{assembling, run}
use Rattle.hdlc.specs.Rules.{rules}
use Rattle.hdlc.proofs.reader.read_frame.Given as goal

abbrev pub invariant-loop-at : goal.invariant-loop-at
invariant-loop-at l =
    record {
      inside : l.at ≤ length l.input;
      keeps : rules l.reader ≡ true;
      left : later l.at (run (assembling l.reader l.assembly) (drop l.at l.input)) ≡ run (assembling l.initial.reader l.initial.assembly) l.input;
    }

abbrev pub decreases-loop-at : goal.decreases-loop-at
decreases-loop-at l =
    length l.input - l.at
