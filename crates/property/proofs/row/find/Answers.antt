-- The chain finds what the definition looks up, and that keeps the rule.
use Rattle.std.proofs.Common.{rules, ◌∙◌, eqb}
use Rattle.std.proofs.lemmas.Iterator.{YieldsList-from_slice}
use Rattle.std.proofs.lemmas.Iterator.Search.{find_from_yields_List}
use borrow.Author.Tests.{tests}
use Rattle.property.specs.Row.{rows, lookup}
use Rattle.property.proofs.TableRule.{lookup_keeps}
use Rattle.property.proofs.row.find.Goals as goal

pub returns : goal.returns
unfolding lookup rows
returns c =
    let table = YieldsList-from_slice rows c.iter.ensures.rest in
    let found = find_from_yields_List (λ r. eqb r.id c.args.id) _ _ c.find.result c.find.ensures.ran table (λ x b q k. search (rules, tests)) in
    let is = c.copied.ensures ∙ found in
    record { is = is; rule = rw is (lookup_keeps c.args.id) }
