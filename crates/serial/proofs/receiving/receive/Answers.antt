-- Each refusal has the tests of the definition, and the rest is what `read_and_answer` gave, framed.
use mathlib.Core.Path.{◌≡◌, sym, ◌∙◌}
use native.Mathlib.Omega.{arith}
use borrow.Author.Tests.{lt-ltb, le-ltb}
use lib.ListN.{length, take}
use lib.Seq.{length-take-le}
use Rattle.frame.proofs.FrameBounds.{frame_bounds}
use Rattle.serial.specs.Receiving.{min_output, result_of, Keeps, breaks_rules, receive, framed}
use Rattle.serial.proofs.LawsReceiving.{admit_ok, unrefused_framed, Fits, unrefused_fits, framed_none, framed_some}
use Rattle.serial.proofs.receiving.receive.Goals as goal
use Rattle.serial.proofs.receiving.receive.Goals.{After-read_and_answer-received}

kept : (c : After-read_and_answer-received) → Keeps c.args.device c.args.reader c.args.assembly.now
kept c = admit_ok _ _ _ c.in_default.ensures

fits : (c : After-read_and_answer-received) → Fits (result_of c.read_and_answer-received.result c.read_and_answer-received.new.assembly c.read_and_answer-received.new.space)
fits c =
    rw c.read_and_answer-received.ensures (unrefused_fits _ _ _ (kept c).device)

rest : (c : After-read_and_answer-received) → let call = c.read_and_answer-received in receive c.args.device c.args.reader c.args.input.now c.args.assembly.now c.args.output.now ≡ framed (result_of call.result call.new.assembly c.read_and_answer-received.new.space) c.args.output.now
unfolding receive breaks_rules
rest c =
    let k = kept c in
    rw (k.device, k.reader, le-ltb _ _ k.room, le-ltb _ _ c.if-output-lt-MIN_OUTPUT.false, c.read_and_answer-received.ensures)
    (unrefused_framed _ _ _ _ (kept c).device)

pub returns-then-output-lt-MIN_OUTPUT : goal.returns-then-output-lt-MIN_OUTPUT
unfolding receive breaks_rules
returns-then-output-lt-MIN_OUTPUT c =
    let k = admit_ok _ _ _ c.in_default.ensures in
    rw (
      k.device,
      k.reader,
      le-ltb _ _ k.room,
      lt-ltb (length c.args.output.now) min_output (omega (arith, c.if-output-lt-MIN_OUTPUT.true)),
      c.without_reply-then-output-lt-MIN_OUTPUT.ensures,
    )

pub slice_bounds-reply-end : goal.slice_bounds-reply-end
slice_bounds-reply-end c =
    (fits (goal.at.slice_bounds-reply-end c).After-read_and_answer-received).within

pub slice_bounds-write_frame-end : goal.slice_bounds-write_frame-end
slice_bounds-write_frame-end c =
    sym (length-take-le _ _ (fits (goal.at.slice_bounds-write_frame-end c).After-read_and_answer-received).within)

pub write_frame-requires : goal.write_frame-requires
write_frame-requires c =
    let f = (fits (goal.at.write_frame-requires c).After-read_and_answer-received) in let size = length-take-le c.read_and_answer-received.result.written c.read_and_answer-received.new.space f.within in
    let some = f.least c.if-len-gt0.true in
    ((omega arith, omega arith), omega (arith, frame_bounds (take c.read_and_answer-received.result.written c.read_and_answer-received.new.space), c.if-output-lt-MIN_OUTPUT))

pub returns-then-len-gt0 : goal.returns-then-len-gt0
returns-then-len-gt0 c =
    sym
    ((rest (goal.at.returns-then-len-gt0 c).After-read_and_answer-received)
    ∙ framed_some c.read_and_answer-received.result _ c.read_and_answer-received.new.space _ c.if-len-gt0.true c.write_frame.ensures)

pub returns-else-len-gt0 : goal.returns-else-len-gt0
returns-else-len-gt0 c =
    sym ((rest (goal.at.returns-else-len-gt0 c).After-read_and_answer-received) ∙ framed_none c.read_and_answer-received.result _ c.read_and_answer-received.new.space _ (omega (arith, c.if-len-gt0.false)))
