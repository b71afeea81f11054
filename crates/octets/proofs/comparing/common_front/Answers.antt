-- The invariant: what is still common, from `at` on, is what is common in all.
use native.Mathlib.Omega.{arith}
use Rattle.octets.proofs.LawsComparing.{common_end, common_short, common_stop, common_on}
use Rattle.octets.proofs.comparing.common_front.Goals as goal

pub returns-then-b-at : goal.returns-then-b-at
returns-then-b-at c =
    let a = c.args in
    omega (arith, common_short a.a.now a.b.now c.loop-at.at c.if-b-at.true)

pub returns-then-a-at : goal.returns-then-a-at
returns-then-a-at c =
    let a = c.args in
    omega (arith, common_stop a.a.now a.b.now c.loop-at.at (omega arith) (omega arith) c.if-a-at.true)

pub loop-at-preserved : goal.loop-at-preserved
loop-at-preserved c =
    let a = c.args in
    omega (arith, common_on a.a.now a.b.now c.loop-at.at (omega arith) (omega arith) c.if-a-at.false)

pub returns : goal.returns
returns c =
    let a = c.args in
    omega (arith, common_end a.a.now a.b.now c.loop-at.at (omega arith))
