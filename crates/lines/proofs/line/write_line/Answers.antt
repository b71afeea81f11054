-- The invariant: what is left, put at the place reached, gives the whole.
use Rattle.std.proofs.Common.{rules, ◌+◌, drop}
use Rattle.octets.proofs.LawsWriting.{wrote_then}
use Rattle.lines.specs.Line.{line_of}
use Rattle.lines.proofs.LawsLines.{line_next, line_done, line_length}
use Rattle.lines.proofs.line.write_line.Goals as goal

pub loop-i-preserved : goal.loop-i-preserved
loop-i-preserved c =
    let w = c.loop-i in
    (search rules, search rules, search (rules, wrote_then (line_of (drop (w.i + 1) c.args.body.now)) c.write_octets-next.ensures, line_next c.args.body.now w.i (search rules), w.invariant.2))

pub returns : goal.returns
returns c =
    let w = c.loop-i in
    record { held = search (rules, line_done c.args.body.now w.i (search rules), w.invariant.2); end = search (rules, line_length c.args.body.now) }
