-- The session stands where some chunks leave it, one for each read that was made.
use Rattle.std.specs.Prelude.{Ok}
use Rattle.ncp.specs.Serve.{state_of, KeepsState, start, Served}
use Rattle.ncp.proofs.serve.serve.Given as goal

abbrev pub invariant-loop : goal.invariant-loop
invariant-loop l = record {
  keeps : KeepsState (state_of l.session l.assembly);
  served : Served (start l.initial.session.device l.initial.assembly) (Ok (record { session = l.session; read = l.read })) l.assembly l.counter;
}
