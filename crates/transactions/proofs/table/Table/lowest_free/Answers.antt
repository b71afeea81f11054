-- The count of trailing zeros is the place of the first free mark, with 0 never free.
use mathlib.Core.Path.{◌≡◌, ◌∙◌}
use Prim.Native.Nat.{ℕ}
use borrow.Author.Rules.{rules}
use borrow.Author.Tests.{le-ltb, lt-ltb, leb-true, leb-false}
use lib.Dec.{leb}
use Rattle.std.specs.Bool.{then_some}
use Rattle.octets.proofs.LawsTests.{by_test}
use Rattle.transactions.specs.Table.{numbers_of, Numbers, lowest, free_number}
use Rattle.transactions.proofs.LawsMarks.{lowest_trailing}
use Rattle.transactions.proofs.table.Table.lowest_free.Goals as goal

free_told : (d : Numbers) (n : ℕ) → n ≡ lowest d → then_some (leb n 15) n ≡ free_number d
free_told d n e =
    by_test (leb n 15) (λ t. rw (← e, t, le-ltb 15 n (leb-true n 15 t))) (λ t. rw (← e, t, lt-ltb 15 n (leb-false n 15 t)))

pub returns : goal.returns
unfolding lowest numbers_of
returns c =
    let t = c.args.self in
    c.then_some.ensures ∙ free_told (numbers_of t) _ (lowest_trailing 15 t.waiting t.given_up (search rules) (search rules))
