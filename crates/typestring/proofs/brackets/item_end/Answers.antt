-- The letter tells whether the item has brackets: with them it ends where they do, and else behind the letter.
use Rattle.std.proofs.Common.{◌≡◌, ◌+◌, ◌-◌, ◌<◌, length, drop, take, arith, rules, length-drop}
use Rattle.std.proofs.lemmas.List.{take_all}
use Rattle.typestring.specs.Grammar.{Items}
use Rattle.typestring.specs.Calls.{InBrackets}
use Rattle.typestring.proofs.LawsBrackets.{brackets_from, brackets_here, ends_brackets, ends_single, ends_within}
use Rattle.typestring.proofs.LawsPlaces.{item_first}
use Rattle.typestring.proofs.brackets.item_end.Goals as goal
use Rattle.typestring.proofs.brackets.item_end.Goals.{In-116}

pub bounds-types-at : goal.bounds-types-at
bounds-types-at c = (item_first c.args.types.now c.args.at c.requires.1 c.requires.0 c.requires.2).1

-- the brackets of the arm stand in the string
inside : (c : In-116) → (t : Items) × InBrackets (drop (c.args.at + 2) c.args.types.now) t
inside c = brackets_from c.args.types.now c.args.at c.in-116.is c.requires

within : (c : In-116) → c.args.at + 2 < length c.args.types.now
within c = brackets_here c.args.types.now (c.args.at + 2) (inside c)

pub slice_bounds-bracket_end-count : goal.slice_bounds-bracket_end-count
slice_bounds-bracket_end-count c = omega (arith, within c)

pub slice_bounds-bracket_end-start : goal.slice_bounds-bracket_end-start
slice_bounds-bracket_end-start c = let h = within c in search rules

-- the slice from behind the opening bracket on
rest : (c : In-116) → let from = c.args.at + 2 in take (length c.args.types.now - from) (drop from c.args.types.now) ≡ drop from c.args.types.now
rest c = take_all _ _ (omega (arith, length-drop (c.args.at + 2) c.args.types.now))

pub bracket_end-requires : goal.bracket_end-requires
bracket_end-requires c = let at = (goal.at.bracket_end-requires c).In-116 in rw (rest at) (inside at)

pub overflow_add-result-in-116 : goal.overflow_add-result-in-116
overflow_add-result-in-116 c =
    let at = (goal.at.overflow_add-result-in-116 c).In-116 in
    omega (arith, ends_within c.args.types.now (c.args.at + 2) c.bracket_end.result (inside at) (rw (rest at) at c.bracket_end.ensures))

pub overflow_add-result-in_default : goal.overflow_add-result-in_default
overflow_add-result-in_default c = omega (arith, (item_first c.args.types.now c.args.at c.requires.1 c.requires.0 c.requires.2).1)

pub returns-in-116 : goal.returns-in-116
returns-in-116 c =
    ends_brackets c.args.types.now c.args.at c.bracket_end.result c.in-116.is (rw (rest (goal.at.returns-in-116 c).In-116) at c.bracket_end.ensures)

pub returns-in_default : goal.returns-in_default
returns-in_default c = ends_single _ _ (let none = c.in_default in search rules)
