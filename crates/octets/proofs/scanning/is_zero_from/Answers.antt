-- The chain's test of each octet is the definition's of each place.
use mathlib.Core.Path.{sym, ◌∙◌}
use lib.Dec.{eqb}
use lib.ListN.{drop}
use Rattle.std.proofs.Common.{rules}
use borrow.Author.Tests.{tests}
use Rattle.std.proofs.lemmas.Iterator.{YieldsList-from_slice}
use Rattle.std.proofs.lemmas.Iterator.Search.{all_from_yields_List}
use Rattle.octets.proofs.LawsLists.{take_rest}
use Rattle.octets.proofs.LawsScanning.{zeros_is}
use Rattle.octets.proofs.scanning.is_zero_from.Goals as goal

pub returns : goal.returns
returns c =
    let a = c.args in
    all_from_yields_List (λ x. eqb x 0) _ _ c.all.result c.all.ensures.ran
    (YieldsList-from_slice (drop a.from a.octets.now) (cc (take_rest a.octets.now a.from)))
    (λ x b q k. search (rules, tests)) ∙ sym (zeros_is a.octets.now a.from)
