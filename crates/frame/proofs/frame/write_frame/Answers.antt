-- Four writers in a row write the frame's parts in order.
use mathlib.Core.Path.{◌≡◌, refl}
use native.Mathlib.Omega.{arith}
use Rattle.octets.specs.LittleEndian.{le_octets}
use Rattle.octets.proofs.LawsWriting.{wrote_both}
use Rattle.frame.specs.Fcs.{fcs}
use Rattle.frame.proofs.LawsFrame.{frame_parts, frame_length, frame_written}
use Rattle.frame.proofs.frame.write_frame.Goals as goal
use Rattle.frame.proofs.frame.write_frame.Goals.{After-to_le_bytes-check}

check : (c : After-to_le_bytes-check) → c.to_le_bytes-check.result ≡ le_octets 2 (fcs c.args.body.now)
unfolding le_octets
check c =
    rw (c.to_le_bytes-check.ensures, c.fcs16.ensures) refl

pub write_octet-at_body-requires : goal.write_octet-at_body-requires
write_octet-at_body-requires c =
    omega (arith, frame_length _ (check (goal.at.write_octet-at_body-requires c).After-to_le_bytes-check))

pub write_stuffed-at_check-requires : goal.write_stuffed-at_check-requires
write_stuffed-at_check-requires c =
    omega (arith, frame_length _ (check (goal.at.write_stuffed-at_check-requires c).After-to_le_bytes-check))

pub write_stuffed-at_flag-requires : goal.write_stuffed-at_flag-requires
write_stuffed-at_flag-requires c =
    omega (arith, frame_length _ (check (goal.at.write_stuffed-at_flag-requires c).After-to_le_bytes-check))

pub write_octet-requires : goal.write_octet-requires
write_octet-requires c =
    omega (arith, frame_length _ (check (goal.at.write_octet-requires c).After-to_le_bytes-check))

pub returns : goal.returns
returns c =
    frame_written _ c.requires.1
    (rw (frame_parts _ (check (goal.at.returns c).After-to_le_bytes-check))
    (wrote_both c.write_octet-at_body.ensures
    (wrote_both c.write_stuffed-at_check.ensures
    (wrote_both c.write_stuffed-at_flag.ensures c.write_octet.ensures))))
