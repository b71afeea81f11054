-- Each way out has the tests that `after_give_up` makes; a number past 15 has no mark, and is not waiting.
use mathlib.Core.Bool.{false}
use mathlib.Core.Path.{◌≡◌, sym, ap, ◌∙◌}
use borrow.Author.Tests.{eqb-true}
use Rattle.transactions.specs.Answer.{gave_up}
use Rattle.transactions.specs.Table.{numbers_of, mark_at, is_waiting, done}
use Rattle.transactions.proofs.LawsTable.{mark_at_lem, waits_alone, no_waits, not_waiting, mark_past, numbers_put}
use Rattle.transactions.proofs.LawsCalls.{give_up_32, give_up_done}
use Rattle.transactions.proofs.table.Table.give_up.Goals as goal
use Rattle.transactions.proofs.table.Table.give_up.Goals.{then-number-gt-MAX_NUMBER-via-then-number-gt-MAX_NUMBER, then-number-gt-MAX_NUMBER-via-else-number-gt-MAX_NUMBER+then-not-has}

pub returns-then-number-gt-MAX_NUMBER : goal.returns-then-number-gt-MAX_NUMBER
returns-then-number-gt-MAX_NUMBER c =
    let s = c.args in
    let other : is_waiting (mark_at (numbers_of s.self) s.number) ≡ false
    = elim c.then-number-gt-MAX_NUMBER.branch [
      | then-number-gt-MAX_NUMBER-via-then-number-gt-MAX_NUMBER w ↦ ap is_waiting (mark_past s.self s.number w.if-number-gt-MAX_NUMBER.true)
      | then-number-gt-MAX_NUMBER-via-else-number-gt-MAX_NUMBER+then-not-has w ↦
          not_waiting s.self s.number (no_waits s.self s.number (sym w.has.ensures ∙ w.if-not-has.true))
    ] in
    c.refused-then-number-gt-MAX_NUMBER.ensures ∙ sym (give_up_32 _ (sym c.keeps_rules.ensures ∙ c.if-not-keeps_rules.false) _ other)

pub returns : goal.returns
returns c =
    let s = c.args in
    let kept = sym c.keeps_rules.ensures ∙ c.if-not-keeps_rules.false in
    let one = eqb-true _ _ (sym c.has.ensures ∙ c.if-not-has.false) in
    ap (done gave_up 0) (numbers_put s.self s.number 0 1 c.without.result c.with.result c.without.ensures c.with.ensures)
    ∙ sym (give_up_done _ kept _ (mark_at_lem s.self s.number one (waits_alone s.self s.number kept one)))
