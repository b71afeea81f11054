-- The invariant: what is left, put at the place reached, gives the whole.
use mathlib.Core.Path.{sym, ap, ◌∙◌}
use native.Mathlib.Omega.{arith}
use lib.Seq.{sets}
use Rattle.octets.proofs.LawsWriting.{wrote_then}
use Rattle.frame.proofs.LawsFrame.{stuffed_next, stuffed_next_length}
use Rattle.frame.proofs.frame.write_stuffed.Goals as goal

pub loop-octet-preserved : goal.loop-octet-preserved
loop-octet-preserved c =
    let call = c.write_escaped-next in
    let w = c.loop-octet in
    let octets = c.args.octets.now in
    let inside = c.loop-octet-test.true in
    record {
      room = omega (arith, stuffed_next_length octets w.octet-index inside, call.ensures.end);
      held = wrote_then _ call.ensures ∙ ap (sets w.out w.next) (sym (stuffed_next octets w.octet-index inside)) ∙ w.invariant.held;
    }
