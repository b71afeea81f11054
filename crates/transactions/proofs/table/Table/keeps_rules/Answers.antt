-- The two tests are those of the rules, by the sets' bits.
use Prim.Native.Nat.{ℕ, ◌%◌}
use borrow.Author.Rules.{rules}
use borrow.Author.Tests.{eq-eqb, ne_eqb}
use lib.Bits.{bit_or}
use Rattle.transactions.specs.declared.table.Table.{Table}
use Rattle.transactions.proofs.LawsTable.{rules_are}
use Rattle.transactions.proofs.table.Table.keeps_rules.Goals as goal

abbrev lowest : Table → ℕ
lowest t = bit_or t.waiting t.given_up % 2

pub returns-then-self-eq0 : goal.returns-then-self-eq0
returns-then-self-eq0 c =
    rw (rules_are c.args.self (search rules) (search rules), eq-eqb (lowest c.args.self) 0 c.if-self-eq0.true)

pub returns-else-self-eq0 : goal.returns-else-self-eq0
returns-else-self-eq0 c =
    rw (rules_are c.args.self (search rules) (search rules), ne_eqb (lowest c.args.self) 0 c.if-self-eq0.false)
