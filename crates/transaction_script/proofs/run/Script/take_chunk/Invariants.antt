-- Taking the octets that are left from here is taking all, and what is kept of the line has room.
use mathlib.Core.Path.{◌≡◌}
use mathlib.Core.List.{foldl}
use Prim.Native.Nat.{◌≤◌}
use lib.ListN.{drop}
use Rattle.transaction_script.specs.Line.{max_text}
use Rattle.transaction_script.specs.Run.{state_of, after_octet}
use Rattle.transaction_script.proofs.run.Script.take_chunk.Given as goal

abbrev pub invariant-loop-octet : goal.invariant-loop-octet
invariant-loop-octet l =
    record {
      room : l.self.line.len ≤ max_text;
      left : foldl after_octet (state_of l.self l.body) (drop l.octet-index l.chunk) ≡ foldl after_octet (state_of l.initial.self l.initial.body) l.chunk;
    }
