-- The invariant: what is left, put at the place reached, gives the whole.
use mathlib.Core.Path.{◌∙◌}
use native.Mathlib.Omega.{arith}
use Rattle.octets.proofs.LawsLists.{part_length}
use Rattle.octets.proofs.LawsLittleEndian.{length_le, le_put, le_whole}
use Rattle.octets.proofs.LawsWriting.{put_part}
use Rattle.octets.proofs.little_endian.write_le.Goals as goal

pub loop-place-preserved : goal.loop-place-preserved
loop-place-preserved c =
    let w = c.loop-place in
    let a = c.args in
    le_put w.place-items w.place-index c.args.width w.rest (omega (arith, part_length a.out.now a.at a.width c.requires)) ∙ w.invariant

pub returns : goal.returns
returns c =
    let w = c.loop-place in
    let a = c.args in
    let size = part_length a.out.now a.at a.width c.requires in
    let count = length_le a.width a.n in
    let whole = le_whole w.place-items _ w.place-index a.width a.n w.rest (omega arith) size w.invariant in
    record { held = put_part a.out.now a.at _ _ _ whole (omega arith) (omega arith); end = omega arith }
