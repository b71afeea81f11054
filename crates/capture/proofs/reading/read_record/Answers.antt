-- Each return is a case of the answer, by what is left of the log.
use Rattle.std.proofs.Common.{rules}
use Rattle.octets.proofs.LawsLists.{take_rest}
use Rattle.capture.proofs.LawsRecords.{length_told}
use Rattle.capture.proofs.reading.read_record.Goals as goal

pub returns-in_err-direction : goal.returns-in_err-direction
returns-in_err-direction c = search (rules, take_rest, length_told)

pub returns-then-body-len : goal.returns-then-body-len
returns-then-body-len c = search (rules, take_rest, length_told)

pub returns : goal.returns
returns c = search (rules, take_rest, length_told)
