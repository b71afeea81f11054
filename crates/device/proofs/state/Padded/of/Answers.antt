-- What two writers leave of zeros is the padded whole.
use mathlib.Core.Path.{◌≡◌, ◌∙◌}
use mathlib.Core.List.{◌++◌}
use Prim.Native.Nat.{◌≤◌}
use native.Mathlib.Omega.{arith}
use lib.ListN.{length, length-append}
use Rattle.octets.proofs.LawsPadding.{written_pad}
use Rattle.octets.proofs.LawsWriting.{wrote_both}
use Rattle.device.proofs.state.Padded.of.Goals as goal

pub returns : goal.returns
returns g c =
    let xs = c.args.first.now ++ c.args.second.now in
    let wrote = wrote_both c.write_octets-next.ensures c.write_octets-len.ensures in
    let fits : length xs ≤ g.row.N = omega (arith, length-append c.args.first.now c.args.second.now) in
    let long : c.write_octets-len.result ≡ length xs = omega (arith, wrote.end) in
    λ i. record { octets = (wrote.held ∙ written_pad g.row.N xs fits) i; len = long i }
