use Rattle.std.proofs.Common.{rules}
use Rattle.octets.specs.Ranges.{is_between}
use Rattle.capture.proofs.records.in_range.Goals as goal

pub returns-in-2-to-1300-clause-there : goal.returns-in-2-to-1300-clause-there
unfolding is_between
returns-in-2-to-1300-clause-there c = search rules

pub returns-in_default-clause-there : goal.returns-in_default-clause-there
unfolding is_between
returns-in_default-clause-there c = search rules

pub returns-in_default-2-clause-there : goal.returns-in_default-2-clause-there
unfolding is_between
returns-in_default-2-clause-there c = search rules
