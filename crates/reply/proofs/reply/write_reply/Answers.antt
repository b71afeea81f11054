-- Each writer goes on where the one before it stopped: 2 octets, at most 3 for the number, and at most 33.
use Rattle.octets.proofs.LawsWriting.{wrote_both}
use Rattle.reply.specs.Reply.{success_reply}
use Rattle.reply.proofs.reply.write_reply.Goals as goal

pub returns : goal.returns
unfolding success_reply
returns c =
    let command = rw c.reply_command.ensures at c.write_octet-command_end.ensures in
    wrote_both c.write_octet-header_end.ensures (wrote_both command (wrote_both c.write_packed-start.ensures c.write_content.ensures))
