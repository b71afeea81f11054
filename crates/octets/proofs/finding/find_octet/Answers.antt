-- The invariant: what is still before the octet, from `at` on, is what is before it in all.
use mathlib.Core.Path.{refl}
use native.Mathlib.Omega.{arith}
use Rattle.octets.proofs.LawsFinding.{before_here, before_on, before_none}
use Rattle.octets.proofs.finding.find_octet.Goals as goal

pub loop-at-init : goal.loop-at-init
loop-at-init c =
    (omega arith, refl)

pub returns-then-octets-at : goal.returns-then-octets-at
returns-then-octets-at c =
    omega (arith, before_here c.args.octet c.args.octets.now c.loop-at.at (omega arith) c.if-octets-at.true)

pub loop-at-preserved : goal.loop-at-preserved
loop-at-preserved c =
    omega (arith, before_on c.args.octet c.args.octets.now c.loop-at.at (omega arith) c.if-octets-at.false)

pub returns : goal.returns
returns c =
    omega (arith, before_none c.args.octet c.args.octets.now c.loop-at.at (omega arith))
