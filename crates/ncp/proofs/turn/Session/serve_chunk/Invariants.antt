-- The measure is how much of the chunk is left. The invariant: what stands and what is left come to what the start and the chunk come to.
use lib.ListN.{length}
use Rattle.ncp.specs.Serve.{state_of, KeepsState}
use Rattle.ncp.proofs.LawsServing.{Left}
use Rattle.ncp.proofs.turn.Session.serve_chunk.Given as goal

abbrev pub invariant-loop-rest : goal.invariant-loop-rest
invariant-loop-rest l = record {
  keeps : KeepsState (state_of l.self l.assembly);
  left : Left (state_of l.initial.self l.initial.assembly) l.chunk (state_of l.self l.assembly) l.rest;
}

abbrev pub decreases-loop-rest : goal.decreases-loop-rest
decreases-loop-rest l = length l.rest
