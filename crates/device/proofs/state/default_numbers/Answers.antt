-- The invariant: what is left of the defaults, put from the slot reached on, gives them all.
use mathlib.Core.Path.{◌∙◌}
use Prim.Native.Nat.{◌+◌}
use native.Mathlib.Omega.{arith}
use native.Mathlib.Nat.{zero-add}
use Rattle.octets.proofs.LawsWriting.{put_next}
use Rattle.property.specs.Number.{numbers}
use Rattle.device.specs.State.{defaults}
use Rattle.device.proofs.LawsRules.{default_at}
use Rattle.device.proofs.state.default_numbers.Goals as goal

pub loop-slot-preserved : goal.loop-slot-preserved
unfolding defaults numbers
loop-slot-preserved c =
    let w = c.loop-slot in
    let put = rw (zero-add w.slot, zero-add (w.slot + 1)) at (put_next w.number-items 0 w.slot defaults (omega arith)) in
    rw (c.number_at.ensures.is, ← default_at w.slot (omega arith)) (put ∙ w.invariant)
