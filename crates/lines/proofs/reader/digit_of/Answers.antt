-- Each way out has its range of letters.
use Rattle.std.proofs.Common.{rules}
use Rattle.octets.specs.Ranges.{is_between}
use Rattle.lines.proofs.reader.digit_of.Goals as goal

pub returns-in-48-to-57 : goal.returns-in-48-to-57
unfolding is_between
returns-in-48-to-57 c = search rules

pub returns-in-65-to-70 : goal.returns-in-65-to-70
unfolding is_between
returns-in-65-to-70 c = search rules

pub returns-in-97-to-102 : goal.returns-in-97-to-102
unfolding is_between
returns-in-97-to-102 c = search rules

pub returns-in_default : goal.returns-in_default
unfolding is_between
returns-in_default c = search rules

pub returns-in_default-2 : goal.returns-in_default-2
unfolding is_between
returns-in_default-2 c = search rules

pub returns-in_default-3 : goal.returns-in_default-3
unfolding is_between
returns-in_default-3 c = search rules

pub returns-in_default-4 : goal.returns-in_default-4
unfolding is_between
returns-in_default-4 c = search rules
