-- A text and its zero, written one after the other, are both.
use Rattle.octets.proofs.LawsWriting.{wrote_both}
use Rattle.reply.proofs.value.write_text.Goals as goal

pub returns : goal.returns
returns c =
    wrote_both c.write_octets-end.ensures c.write_octet.ensures
