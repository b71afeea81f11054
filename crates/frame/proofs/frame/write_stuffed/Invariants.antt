-- The invariant: what is left, put at the place reached, gives the whole.
use mathlib.Core.Path.{◌≡◌}
use Prim.Native.Nat.{◌+◌}
use lib.ListN.{length, drop}
use lib.Seq.{sets}
use Rattle.frame.specs.Frame.{stuffed}
use Rattle.frame.proofs.frame.write_stuffed.Given as goal

abbrev pub invariant-loop-octet : goal.invariant-loop-octet
invariant-loop-octet l =
    record {
      room : l.next + length (stuffed (drop l.octet-index l.octets)) ≡ l.at + length (stuffed l.octets);
      held : sets l.out l.next (stuffed (drop l.octet-index l.octets)) ≡ sets l.initial.out l.at (stuffed l.octets);
    }
