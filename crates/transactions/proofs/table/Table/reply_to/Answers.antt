-- A number of a table that keeps its rules is in one set at most, which tells its mark.
use mathlib.Core.Path.{sym, ap, ◌∙◌}
use borrow.Author.Tests.{eqb-true}
use Rattle.transactions.specs.Answer.{answered, late}
use Rattle.transactions.specs.Table.{done}
use Rattle.transactions.proofs.LawsTable.{mark_at_lem, waits_alone, gave_alone, no_waits, no_gave, numbers_put, waits_kept, gave_kept}
use Rattle.transactions.proofs.table.Table.reply_to.Goals as goal

pub returns-then-has : goal.returns-then-has
returns-then-has c =
    let t = c.args.self in let n = c.args.number in
    let one = eqb-true _ _ (sym c.has.ensures ∙ c.if-has.true) in
    let none = waits_alone t n c.requires.1 one in
    rw (mark_at_lem t n one none) (ap (done answered n) (numbers_put t n 0 0 c.without.result t.given_up c.without.ensures (gave_kept t n none)))

pub returns-then-has-2 : goal.returns-then-has-2
returns-then-has-2 c =
    let t = c.args.self in let n = c.args.number in
    let one = eqb-true _ _ (sym c.has-2.ensures ∙ c.if-has-2.true) in
    let none = gave_alone t n c.requires.1 one in
    rw (mark_at_lem t n none one) (ap (done late n) (numbers_put t n 0 0 t.waiting c.without-then-has-2.result (waits_kept t n none) c.without-then-has-2.ensures))

pub returns : goal.returns
returns c =
    let t = c.args.self in let n = c.args.number in
    rw (mark_at_lem t n (no_waits t n (sym c.has.ensures ∙ c.if-has.false)) (no_gave t n (sym c.has-2.ensures ∙ c.if-has-2.false)))
