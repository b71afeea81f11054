-- Four writers in a row write the record's parts in order.
use Rattle.std.proofs.Common.{rules}
use Rattle.octets.proofs.LawsWriting.{wrote_both}
use Rattle.capture.specs.Records.{entry}
use Rattle.capture.proofs.LawsRecords.{range_told, record_length}
use Rattle.capture.proofs.writing.put_record.Goals as goal

pub overflow_cast-body : goal.overflow_cast-body
overflow_cast-body c = search (rules, range_told)

pub write_le-at_body-requires : goal.write_le-at_body-requires
write_le-at_body-requires c = search (rules, record_length (entry c.args.direction c.args.body.now))

pub returns : goal.returns
returns c =
    wrote_both c.write_octets-at_direction.ensures
    (wrote_both c.write_octet-at_len.ensures (wrote_both c.write_le-at_body.ensures c.write_octets.ensures))
