-- The invariant: taking the digits that are left from here is taking all.
use mathlib.Core.Path.{◌≡◌}
use mathlib.Core.List.{foldl}
use lib.ListN.{drop}
use Rattle.std.specs.Prelude.{Some}
use Rattle.transaction_script.specs.Event.{digit_more}
use Rattle.transaction_script.proofs.event.decimal.Given as goal

abbrev pub invariant-loop-letter : goal.invariant-loop-letter
invariant-loop-letter l =
    foldl digit_more (Some l.number) (drop l.letter-index l.text) ≡ foldl digit_more (Some 0) l.text
