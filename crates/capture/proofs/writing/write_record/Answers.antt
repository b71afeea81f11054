-- How long the record is decides.
use Rattle.std.proofs.Common.{rules}
use Rattle.capture.specs.Records.{entry}
use Rattle.capture.proofs.LawsRecords.{record_length}
use Rattle.capture.proofs.writing.write_record.Goals as goal

pub returns-then-saturating_sub-body : goal.returns-then-saturating_sub-body
returns-then-saturating_sub-body c = search (rules, record_length (entry c.args.direction c.args.body.now))

pub put_record-requires-clause-room : goal.put_record-requires-clause-room
put_record-requires-clause-room c = search (rules, record_length (entry c.args.direction c.args.body.now))

pub returns : goal.returns
returns c = search (rules, record_length (entry c.args.direction c.args.body.now))
