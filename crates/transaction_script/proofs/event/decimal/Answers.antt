-- A letter that makes it no number is the end: what is left does not change that.
use mathlib.Core.Path.{◌≡◌, sym, ap, ◌∙◌}
use mathlib.Core.List.{foldl}
use Prim.Native.Nat.{◌+◌}
use native.Mathlib.Omega.{arith}
use lib.ListN.{drop}
use Rattle.std.specs.Prelude.{Some, None}
use Rattle.std.proofs.lemmas.Grind.{common_steps}
use Rattle.transaction_script.specs.Event.{digit_more, decimal_in}
use Rattle.transaction_script.proofs.LawsEvent.{none_stays}
use Rattle.transaction_script.proofs.LawsFolding.{take_next}
use Rattle.transaction_script.proofs.event.decimal.Goals as goal

pub returns-in_err-number : goal.returns-in_err-number
unfolding decimal_in
returns-in_err-number c =
    let w = c.loop-letter in
    let text = c.args.text.now in
    let rest = drop (w.letter-index + 1) text in
    let none : foldl digit_more (Some 0) text ≡ None
    = sym w.invariant ∙ sym (take_next digit_more (Some w.number) text w.letter-index (omega arith))
    ∙ ap (λ r. foldl digit_more r rest) (sym c.with_digit.ensures ∙ c.in_err-number.was) ∙ none_stays rest in
    grind (arith, common_steps, none)
