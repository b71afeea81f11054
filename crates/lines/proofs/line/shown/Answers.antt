use Rattle.std.proofs.Common.{rules}
use Rattle.lines.proofs.line.shown.Goals as goal

pub returns-then-left-eq0 : goal.returns-then-left-eq0
returns-then-left-eq0 c = search rules

pub returns-else-left-eq0 : goal.returns-else-left-eq0
returns-else-left-eq0 c = search rules
