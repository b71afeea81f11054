-- A turn's line fits its space, and the session and its buffer are gone on with as the turn left them.
use mathlib.Core.Path.{◌≡◌, sym}
use Prim.Native.Nat.{◌≤◌}
use native.Mathlib.Omega.{arith}
use lib.ListN.{length}
use lib.Seq.{length-take-le}
use Rattle.ncp.specs.Serve.{state_of, next}
use Rattle.ncp.proofs.LawsTurns.{took_room}
use Rattle.ncp.proofs.turn.Session.serve_call.Goals as goal
use Rattle.ncp.proofs.turn.Session.serve_call.Goals.{After-receive_line-turn}

room : (c : After-receive_line-turn) → c.receive_line-turn.result.len ≤ length c.receive_line-turn.new.line
room c =
    let s = c.args in
    took_room s.self.now.device s.self.now.reader s.input.now s.assembly.now c.receive_line-turn.ensures (omega arith)

goes_on : (c : After-receive_line-turn) → let turn = c.receive_line-turn in state_of turn.new.self turn.new.assembly ≡ next (state_of c.args.self.now c.args.assembly.now) c.args.input.now
unfolding next
goes_on c =
    let w = c.receive_line-turn.ensures in λ i. record { device = w.device i; reader = w.reader i; assembly = w.assembly i }

pub slice_bounds-line-end : goal.slice_bounds-line-end
slice_bounds-line-end c =
    room (goal.at.slice_bounds-line-end c).After-receive_line-turn

pub slice_bounds-write_all-end : goal.slice_bounds-write_all-end
slice_bounds-write_all-end c =
    sym (length-take-le _ _ (room (goal.at.slice_bounds-write_all-end c).After-receive_line-turn))

pub returns-clause-state : goal.returns-clause-state
returns-clause-state c = goes_on (goal.at.returns-clause-state c).After-receive_line-turn
