-- Each way through the check is one way through the parse.
use Rattle.std.proofs.Common.{arith, ap, refl, ◌∙◌}
use Rattle.std.specs.Prelude.{Some, None}
use Rattle.typestring.specs.Grammar.{value, rest, struct, array}
use Rattle.typestring.specs.Parse.{passed, inside, headed, item_of}
use Rattle.typestring.proofs.LawsCheck.{more_left, part_closed, part_bad, part_last, part_next, item_at_lem, inside_none, inside_unopened, inside_nothing, inside_some, brackets_end, brackets_item}
use Rattle.typestring.proofs.check.+checking.Goals as goal
use Rattle.typestring.proofs.check.+checking.Goals.{check_inside-then-depth-eq0-via-then-depth-eq0, check_inside-then-depth-eq0-via-else-depth-eq0+then-at-types, check_inside-then-depth-eq0-via-else-depth-eq0+else-at-types+then-types-at-ne40, check_inside-then-depth-eq0-via-else-depth-eq0+else-at-types+else-types-at-ne40+then-ends_part}

-- ---- the brackets

pub check_inside-returns-then-depth-eq0 : goal.check_inside-returns-then-depth-eq0
unfolding inside
check_inside-returns-then-depth-eq0 t c =
    elim c.then-depth-eq0.branch [
      | check_inside-then-depth-eq0-via-then-depth-eq0 w ↦ rw w.if-depth-eq0.true
      | check_inside-then-depth-eq0-via-else-depth-eq0+then-at-types w ↦ inside_none _ _ _ _ w.if-at-types.true
      | check_inside-then-depth-eq0-via-else-depth-eq0+else-at-types+then-types-at-ne40 w ↦
          inside_unopened _ _ _ _ w.if-depth-eq0.false c.requires w.if-at-types.false w.if-types-at-ne40.true
      | check_inside-then-depth-eq0-via-else-depth-eq0+else-at-types+else-types-at-ne40+then-ends_part w ↦
          inside_nothing _ _ _ _ w.if-depth-eq0.false c.requires w.if-at-types.false w.if-types-at-ne40.false w.if-ends_part.ensures
    ]

pub check_inside-returns-in_err-end : goal.check_inside-returns-in_err-end
unfolding passed
check_inside-returns-in_err-end t c =
    rw c.from_residual.ensures
    (inside_some _ _ _ _ c.if-depth-eq0.false c.requires c.if-at-types.false c.if-types-at-ne40.false c.if-ends_part.ensures
    ∙ ap passed c.in_err-end.ensures)

pub check_inside-returns : goal.check_inside-returns
check_inside-returns t c =
    rw c.then_some.ensures
    (brackets_end _ _ _ c.in_ok-end.ensures
    (inside_some _ _ _ _ c.if-depth-eq0.false c.requires c.if-at-types.false c.if-types-at-ne40.false c.if-ends_part.ensures))

-- ---- an item, by its letter's kind

pub check_item-returns-in_err-kind_of : goal.check_item-returns-in_err-kind_of
unfolding item_of
check_item-returns-in_err-kind_of t c =
    rw c.from_residual.ensures (item_at_lem _ _ _ _ c.requires c.kind_of.ensures c.in_err-kind_of.was)

pub check_item-returns-in-Value : goal.check_item-returns-in-Value
unfolding item_of
check_item-returns-in-Value t c =
    (omega arith, omega arith, (value _ _, item_at_lem _ _ _ _ c.requires c.kind_of.ensures (c.in_ok-kind_of.was ∙ ap Some c.in-Value.is), refl))

pub check_item-returns-in_err-check_inside-in-Struct : goal.check_item-returns-in_err-check_inside-in-Struct
unfolding item_of headed
check_item-returns-in_err-check_inside-in-Struct t c =
    rw c.from_residual-in_err-check_inside-in-Struct.ensures
    (item_at_lem _ _ _ _ c.requires c.kind_of.ensures (c.in_ok-kind_of.was ∙ ap Some c.in-Struct.is)
    ∙ ap (headed struct) c.in_err-check_inside-in-Struct.ensures)

pub check_item-returns-in_ok-check_inside-in-Struct : goal.check_item-returns-in_ok-check_inside-in-Struct
unfolding item_of
check_item-returns-in_ok-check_inside-in-Struct t c =
    brackets_item _ _ _ c.in_ok-check_inside-in-Struct.ensures struct (λ t. refl)
    (item_at_lem _ _ _ _ c.requires c.kind_of.ensures (c.in_ok-kind_of.was ∙ ap Some c.in-Struct.is))

pub check_item-returns-in-Rest : goal.check_item-returns-in-Rest
unfolding item_of
check_item-returns-in-Rest t c =
    let e = item_at_lem c.args.types.now c.args.depth c.args.in_array c.args.at c.requires c.kind_of.ensures (c.in_ok-kind_of.was ∙ ap Some c.in-Rest.is) in
    (omega arith, omega arith, (rest, e ∙ rw c.if-not-in_array.true, refl))

pub check_item-returns-in_err-check_inside-in-Array : goal.check_item-returns-in_err-check_inside-in-Array
unfolding item_of headed
check_item-returns-in_err-check_inside-in-Array t c =
    rw c.from_residual-in_err-check_inside-in-Array.ensures
    (item_at_lem _ _ _ _ c.requires c.kind_of.ensures (c.in_ok-kind_of.was ∙ ap Some c.in-Array.is)
    ∙ rw c.if-not-in_array-2.true (ap (headed array) c.in_err-check_inside-in-Array.ensures))

pub check_item-returns-in_ok-check_inside-in-Array : goal.check_item-returns-in_ok-check_inside-in-Array
unfolding item_of
check_item-returns-in_ok-check_inside-in-Array t c =
    brackets_item _ _ _ c.in_ok-check_inside-in-Array.ensures array (λ t. refl)
    (item_at_lem _ _ _ _ c.requires c.kind_of.ensures (c.in_ok-kind_of.was ∙ ap Some c.in-Array.is) ∙ rw c.if-not-in_array-2.true)

pub check_item-returns-in_default : goal.check_item-returns-in_default
unfolding item_of
check_item-returns-in_default t c =
    item_at_lem _ _ _ _ c.requires c.kind_of.ensures (c.in_ok-kind_of.was ∙ ap Some c.in-Rest.is) ∙ rw c.if-not-in_array.false

pub check_item-returns-in_default-2 : goal.check_item-returns-in_default-2
unfolding item_of
check_item-returns-in_default-2 t c =
    item_at_lem _ _ _ _ c.requires c.kind_of.ensures (c.in_ok-kind_of.was ∙ ap Some c.in-Array.is) ∙ rw c.if-not-in_array-2.false

-- ---- a part, item by item

pub check_sequence-check_item-requires : goal.check_sequence-check_item-requires
check_sequence-check_item-requires t c =
    let h = more_left c.args.types.now c.loop-at.next c.loop-at-test.ensures in (omega arith, h)

pub check_sequence-returns-in_err-end : goal.check_sequence-returns-in_err-end
check_sequence-returns-in_err-end t c =
    rw c.from_residual.ensures
    (c.loop-at.invariant.2 None (part_bad c.args.types.now _ _ c.loop-at.next c.loop-at-test.ensures c.in_err-end.ensures))

pub check_sequence-loop-at-preserved : goal.check_sequence-loop-at-preserved
check_sequence-loop-at-preserved t c =
    let f = rw c.in-Next.is at c.in_ok-end.ensures in
    let on = part_next _ _ _ _ c.loop-at-test.ensures _ f in
    (omega arith, omega arith, λ r h. c.loop-at.invariant.2 r (on r h))

pub check_sequence-returns-in-Last : goal.check_sequence-returns-in-Last
check_sequence-returns-in-Last t c =
    let f = rw c.in-Last.is at c.in_ok-end.ensures in
    rw (c.then_some.ensures, c.ends_part-in-Last.ensures) (c.loop-at.invariant.2 _ (part_last _ _ _ _ c.loop-at-test.ensures _ f))

pub check_sequence-returns : goal.check_sequence-returns
check_sequence-returns t c =
    let inv = c.loop-at.invariant in
    inv.2 (Some _) (part_closed _ _ _ _ inv.1 c.loop-at-test.ensures)
