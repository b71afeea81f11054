-- A row that is reached keeps the table's rule.
use mathlib.Core.Path.{sym, ◌∙◌}
use borrow.Author.Rules.{rules}
use Rattle.request.proofs.LawsVerdict.{verdict_reach}
use Rattle.command.proofs.decision.decide.Goals as goal

pub reach-requires : goal.reach-requires
reach-requires c =
    let reached = verdict_reach _ _ _ _ (rw c.in-Ok-Reach.field-0-is at (sym c.verdict_of.ensures ∙ c.in-Ok-Reach.is)) in
    (c.requires.0, c.requires.1, reached.rule, search rules)
