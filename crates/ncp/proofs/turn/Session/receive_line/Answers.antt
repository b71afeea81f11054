-- What was written is the engine's reply, whose line fits.
use mathlib.Core.Path.{refl, sym}
use lib.Seq.{length-take-le}
use Rattle.serial.specs.Receiving.{result_of}
use Rattle.ncp.proofs.LawsTurns.{Turned, turned}
use Rattle.ncp.proofs.turn.Session.receive_line.Goals as goal
use Rattle.ncp.proofs.turn.Session.receive_line.Goals.{After-receive_body-received}

facts : (c : After-receive_body-received) → Turned c.args.self.now.device (result_of c.receive_body-received.result c.receive_body-received.new.assembly c.receive_body-received.new.space)
facts c =
    let s = c.args in
    rw c.receive_body-received.ensures (turned s.self.now.device s.self.now.reader s.input.now s.assembly.now _)

pub slice_bounds-reply-end : goal.slice_bounds-reply-end
slice_bounds-reply-end c =
    (facts (goal.at.slice_bounds-reply-end c).After-receive_body-received).room

pub slice_bounds-write_line-end : goal.slice_bounds-write_line-end
slice_bounds-write_line-end c =
    sym (length-take-le _ _ (facts (goal.at.slice_bounds-write_line-end c).After-receive_body-received).room)

pub returns : goal.returns
returns c =
    rw (← c.receive_body-received.ensures)
    (record { read = refl; device = refl; reader = refl; assembly = refl; line = rw (facts (goal.at.returns c).After-receive_body-received).reply at c.write_line.ensures })
