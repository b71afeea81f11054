-- What is kept of the line has room.
use Rattle.std.proofs.Common.{◌≤◌}
use Rattle.transaction_script.specs.Line.{max_text}
use Rattle.transaction_script.proofs.run.run.Given as goal

abbrev pub invariant-loop : goal.invariant-loop
invariant-loop l = l.script.line.len ≤ max_text
