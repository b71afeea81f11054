-- No octets are zeros alone.
use native.Mathlib.Nat.{sub-zero}
use Rattle.octets.specs.Padding.{pad}
use Rattle.device.proofs.state.Padded.empty.Goals as goal

pub returns : goal.returns
unfolding pad
returns g c =
    rw (sub-zero g.row.N)
