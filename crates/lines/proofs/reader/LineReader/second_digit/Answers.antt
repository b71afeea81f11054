-- A digit is under 16.
use Rattle.std.proofs.Common.{arith, sym, ◌∙◌}
use Rattle.lines.proofs.LawsSpelling.{digit, digit_less}
use Rattle.lines.proofs.reader.LineReader.second_digit.Goals as goal

pub overflow_add-high : goal.overflow_add-high
overflow_add-high c = omega (arith, digit_less (digit (sym c.digit_of.ensures ∙ c.in-Some.is)))
