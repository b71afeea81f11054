-- The space has room for any frame, and what stands at its front goes out where there is room for it.
use mathlib.Core.Path.{sym, subst, ◌∙◌}
use native.Mathlib.Omega.{arith}
use lib.Seq.{length-take-le}
use Rattle.octets.specs.Writing.{Wrote}
use Rattle.transactions.proofs.LawsWriting.{Framed, framed, some_octets, fits_not, fits_written, fits}
use Rattle.transactions.proofs.writing.write_tight.Goals as goal
use Rattle.transactions.proofs.writing.write_tight.Goals.{After-write_frame-count}

made : (c : After-write_frame-count) → Framed c.args.body.now c.write_frame-count.result c.write_frame-count.new.out
made c =
    framed c.args.body.now _ _ _ c.write_frame-count.ensures

pub returns-then-out-count-clause-frame : goal.returns-then-out-count-clause-frame
returns-then-out-count-clause-frame c =
    sym (fits_not c.args.body.now _ (omega (arith, c.if-out-count.true, (made (goal.at.returns-then-out-count-clause-frame c).After-write_frame-count).count_is)))

pub slice_bounds-space-end : goal.slice_bounds-space-end
slice_bounds-space-end c =
    (made (goal.at.slice_bounds-space-end c).After-write_frame-count).inside

pub slice_bounds-write_octets-end : goal.slice_bounds-write_octets-end
slice_bounds-write_octets-end c =
    sym (length-take-le _ _ (made (goal.at.slice_bounds-write_octets-end c).After-write_frame-count).inside)

pub returns-clause-frame : goal.returns-clause-frame
returns-clause-frame c =
    let k = (goal.at.returns-clause-frame c).After-write_frame-count in
    fits c.args.body.now _ (omega (arith, c.if-out-count.false, (made k).count_is))
    (subst (Wrote _ _ 0 _) (made k).stands c.write_octets.ensures)

pub returns-clause-some : goal.returns-clause-some
returns-clause-some c =
    let k = (goal.at.returns-clause-some c).After-write_frame-count in
    some_octets c.args.body.now c.args.out.now _ _
    (returns-clause-frame c ∙ fits_written c.args.body.now _ (omega (arith, c.if-out-count.false, (made k).count_is)))
