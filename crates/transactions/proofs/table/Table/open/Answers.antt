-- Each way out has the tests that `after_open` makes; the number handed out is free, so that it gets the mark of one that waits.
use mathlib.Core.Path.{◌≡◌, sym, ap, ◌∙◌}
use Prim.Native.Nat.{ℕ}
use Rattle.transactions.specs.declared.table.Table.{Table}
use lib.ListN.{set}
use Rattle.transactions.specs.Answer.{opened}
use Rattle.transactions.specs.NumberSet.{digits}
use Rattle.transactions.specs.Table.{numbers_of, mark_at, waiting, put, done, lowest}
use Rattle.transactions.proofs.LawsTable.{table, one_free, none_free, numbers_put, gave_kept, lowest_free, free_gave, resetting_is}
use Rattle.transactions.proofs.LawsCalls.{open_31, open_done}
use Rattle.transactions.proofs.table.Table.open.Goals as goal

opens : (t : Table) (n w : ℕ) → n ≡ lowest (numbers_of t) → digits 16 w ≡ set (digits 16 t.waiting) n 1
    → numbers_of (table w t.given_up t.resetting) ≡ put (numbers_of t) n waiting
opens t n w e with-n =
    let f = free_gave t n (ap (mark_at (numbers_of t)) e ∙ lowest_free (numbers_of t)) in
    numbers_put t n 1 0 w t.given_up with-n (gave_kept t n f)

pub returns-in-None : goal.returns-in-None
returns-in-None c =
    c.refused-in-None.ensures
    ∙ sym (open_31 _ (sym c.keeps_rules.ensures ∙ c.if-not-keeps_rules.false) (resetting_is _ c.if-self.false) (none_free _ c.in-None.ensures))

pub returns-in-Some : goal.returns-in-Some
returns-in-Some c =
    let t = c.args.self in
    let n = c.in-Some.number in
    let low = one_free (numbers_of t) n c.in-Some.ensures in
    ap (done opened n) (opens t n c.with.result low.0 c.with.ensures)
    ∙ ap (λ k. done opened k (put (numbers_of t) k waiting)) low.0
    ∙ sym (open_done _ (sym c.keeps_rules.ensures ∙ c.if-not-keeps_rules.false) (resetting_is _ c.if-self.false) (rw (← low.0) low.1))
