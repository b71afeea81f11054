-- The invariant: what is left, put at the place reached, gives the whole.
use mathlib.Core.Path.{ap, ◌∙◌}
use Prim.Native.Nat.{◌/◌}
use native.Mathlib.Omega.{arith}
use lib.ListN.{length}
use Rattle.octets.proofs.LawsWriting.{wrote_then}
use Rattle.packed.specs.Packed.{packed}
use Rattle.packed.proofs.LawsPacked.{packed_one, packed_next}
use Rattle.packed.proofs.write_packed.Goals as goal

pub write_octet-to-requires : goal.write_octet-to-requires
write_octet-to-requires c =
    let w = c.loop-rest in
    omega (arith, ap length (packed_next w.rest w.invariant.0 (omega arith)))

pub loop-rest-preserved : goal.loop-rest-preserved
loop-rest-preserved c =
    let w = c.loop-rest in
    let put = c.write_octet-to.ensures in
    let whole = packed_next w.rest w.invariant.0 (omega arith) in (
      omega arith,
      omega arith,
      record {
        held = wrote_then (packed (w.rest / 128)) put ∙ rw whole at w.invariant.2.held;
        end = omega (arith, put.end, ap length whole);
      },
    )

pub write_octet-requires : goal.write_octet-requires
write_octet-requires c =
    let w = c.loop-rest in
    omega (arith, ap length (packed_one w.rest (omega arith)))

pub returns : goal.returns
returns c =
    let w = c.loop-rest in
    let put = c.write_octet.ensures in
    let whole = packed_one w.rest (omega arith) in
    record {
      held = put.held ∙ rw whole at w.invariant.2.held;
      end = omega (arith, put.end, ap length whole);
    }
