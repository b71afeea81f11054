-- Each way through the reader is what the laws of the reader say of a letter's kind, or of an item more.
use Rattle.std.proofs.Common.{◌≡◌, arith, rules, sym, ◌∙◌}
use Rattle.std.specs.Prelude.{Err}
use lib.Seq.{length-take-le}
use Rattle.typestring.proofs.LawsPlaces.{part_item, item_first, array_inner}
use Rattle.datatype.specs.Reading.{leaf_reads}
use Rattle.datatype.proofs.LawsReader.{reads_value, span_small, reads_rest, struct_at, struct_room, struct_misfit, struct_reads, reads_array, array_at, element_misfit, element_room, element_on, elements_end, sequence_ends, turn_misfit, turn_room, turn_on}
use Rattle.datatype.proofs.LawsLeaves.{counted_fits}
use Rattle.datatype.proofs.reading.+reading_parts.Goals as goal

-- ---- an item

pub read_item-bounds-types-at : goal.read_item-bounds-types-at
read_item-bounds-types-at t c = let w = c.requires.0 in (item_first _ _ _ w.0 w.1).1

pub read_item-unwrap-requires : goal.read_item-unwrap-requires
read_item-unwrap-requires t c =
    let w = c.requires.0 in
    let is = c.kind_of.ensures ∙ (item_first c.args.types.now c.args.at c.args.depth w.0 w.1).0 in search rules

pub read_item-returns-in_err-span-in-Value : goal.read_item-returns-in_err-span-in-Value
unfolding leaf_reads
read_item-returns-in_err-span-in-Value t c =
    let a = c.args in
    let m = c.in_err-span-in-Value.field-0.0 in
    let gives : c.from_residual.result ≡ Err m = search rules in
    reads_value a.types.now a.at _ _ _ _ _ _ _ _ (Err m) (sym c.kind_of.ensures ∙ c.in-Value.ensures) (sym c.in_err-span-in-Value.was ∙ c.span_of.ensures) gives

pub read_item-with_leaf-requires : goal.read_item-with_leaf-requires
read_item-with_leaf-requires t c =
    let room = c.requires.1 in (
      omega (arith, room.few, room.short),
      span_small _ _ _ _ _ room.within room.short (sym c.kind_of.ensures ∙ c.in-Value.ensures) (sym c.in_ok-span-in-Value.was ∙ c.span_of.ensures),
    )

pub read_item-returns-in_ok-span-in-Value : goal.read_item-returns-in_ok-span-in-Value
read_item-returns-in_ok-span-in-Value t c =
    let a = c.args in
    reads_value a.types.now a.at _ _ _ _ _ _ _ _ _ (sym c.kind_of.ensures ∙ c.in-Value.ensures) (sym c.in_ok-span-in-Value.was ∙ c.span_of.ensures)
    c.with_leaf.ensures

pub read_item-returns-in-Rest : goal.read_item-returns-in-Rest
read_item-returns-in-Rest t c =
    let a = c.args in
    reads_rest a.types.now a.at _ _ _ _ _ _ _ (sym c.kind_of.ensures ∙ c.in-Rest.ensures) (rw c.rest.ensures at c.with_leaf-in-Rest.ensures)

-- ---- t and its contents

pub read_item-overflow_sub-depth : goal.read_item-overflow_sub-depth
read_item-overflow_sub-depth t c =
    let a = c.args in omega (arith, (struct_at a.types.now a.at a.depth c.requires.0 (sym c.kind_of.ensures ∙ c.in-Struct.ensures)).0)

pub read_item-slice_bounds-inner-end : goal.read_item-slice_bounds-inner-end
read_item-slice_bounds-inner-end t c =
    let w = counted_fits c.args.part.now c.args.start.next _ _ _ c.requires.1.within (sym c.counted.ensures ∙ c.in_ok-contents-in-Struct.was) in
    sym (length-take-le c.in_ok-contents-in-Struct.contents.next c.args.part.now w.2)

pub read_item-read_sequence-requires : goal.read_item-read_sequence-requires
read_item-read_sequence-requires t c =
    let a = c.args in
    let w = struct_at a.types.now a.at a.depth c.requires.0 (sym c.kind_of.ensures ∙ c.in-Struct.ensures) in
    let s = c.in_ok-contents-in-Struct.contents in
    (omega (arith, w.0, w.1), (w.2, struct_room _ _ _ _ _ s.start s.size s.next c.requires.1 w.1 (sym c.counted.ensures ∙ c.in_ok-contents-in-Struct.was)))

pub read_item-returns-in_err-contents-in-Struct : goal.read_item-returns-in_err-contents-in-Struct
read_item-returns-in_err-contents-in-Struct t c =
    let a = c.args in
    let m = c.in_err-contents-in-Struct.field-0.0 in
    let gives : c.from_residual-in_err-contents-in-Struct.result ≡ Err m = search rules in
    rw gives
    (struct_misfit a.types.now a.at _ _ _ _ _ _ (sym c.kind_of.ensures ∙ c.in-Struct.ensures) m.cause (sym c.counted.ensures ∙ c.in_err-contents-in-Struct.was))

pub read_item-returns-in_err-reached-in-Struct : goal.read_item-returns-in_err-reached-in-Struct
read_item-returns-in_err-reached-in-Struct t c =
    let a = c.args in
    let s = c.in_ok-contents-in-Struct.contents in
    let gives : c.from_residual-in_err-reached-in-Struct.result ≡ Err c.in_err-reached-in-Struct.field-0.0 = search rules in
    rw gives
    (struct_reads a.types.now a.at _ _ _ _ _ _ (sym c.kind_of.ensures ∙ c.in-Struct.ensures) s.start s.size s.next _
    (sym c.counted.ensures ∙ c.in_ok-contents-in-Struct.was) (rw c.in_err-reached-in-Struct.was at c.read_sequence.ensures))

pub read_item-returns-in_ok-reached-in-Struct : goal.read_item-returns-in_ok-reached-in-Struct
read_item-returns-in_ok-reached-in-Struct t c =
    let a = c.args in
    let s = c.in_ok-contents-in-Struct.contents in
    rw c.filling.ensures
    (struct_reads a.types.now a.at _ _ _ _ _ _ (sym c.kind_of.ensures ∙ c.in-Struct.ensures) s.start s.size s.next _
    (sym c.counted.ensures ∙ c.in_ok-contents-in-Struct.was) (rw c.in_ok-reached-in-Struct.was at c.read_sequence.ensures))

-- ---- A and its elements

pub read_item-overflow_sub-depth-in-loop-read : goal.read_item-overflow_sub-depth-in-loop-read
read_item-overflow_sub-depth-in-loop-read t c =
    let a = c.args in
    let w = array_at a.types.now a.at a.depth c.requires.0 (sym c.kind_of.ensures ∙ c.in-Array.ensures) in
    omega (arith, (array_inner a.types.now a.at a.depth w.0 w.1).0)

pub read_item-read_sequence-requires-in-loop-read : goal.read_item-read_sequence-requires-in-loop-read
read_item-read_sequence-requires-in-loop-read t c =
    let a = c.args in
    let room = c.requires.1 in
    let inv = c.loop-read.invariant in
    let w = array_at a.types.now a.at a.depth c.requires.0 (sym c.kind_of.ensures ∙ c.in-Array.ensures) in
    let inner = array_inner a.types.now a.at a.depth w.0 w.1 in (
      omega (arith, inner.0, inner.1),
      ((w.0, inner.2), record { few = room.few; placed = inner.1; short = room.short; within = inv.0; counted = omega (arith, inv.1) }),
    )

pub read_item-returns-in_err-read-in-Array : goal.read_item-returns-in_err-read-in-Array
read_item-returns-in_err-read-in-Array t c =
    let a = c.args in
    let m = c.in_err-read-in-Array.field-0.0 in
    let gives : c.from_residual-in_err-read-in-Array.result ≡ Err m = search rules in
    rw gives
    (reads_array a.types.now a.at _ _ _ _ _ _ _ (sym c.kind_of.ensures ∙ c.in-Array.ensures)
    (λ u w. c.loop-read.invariant.3 u w _ _
    (element_misfit a.types.now _ a.at _ _ _ _ _ _ u w c.loop-read-test.true c.read_sequence-in-loop-read.ensures _ m.cause c.in_err-read-in-Array.was)))

pub read_item-loop-read-smaller : goal.read_item-loop-read-smaller
read_item-loop-read-smaller t c =
    let a = c.args in
    let r = c.in_ok-read-in-Array.read in
    let w = array_at a.types.now a.at a.depth c.requires.0 (sym c.kind_of.ensures ∙ c.in-Array.ensures) in
    let turn = element_room a.types.now _ a.at _ _ _ _ _ _ w.0 w.1 c.loop-read-test.true c.read_sequence-in-loop-read.ensures r.next r.leaves
    c.in_ok-read-in-Array.was c.loop-read.invariant.1 in
    omega (arith, turn.0, turn.1)

pub read_item-loop-read-preserved : goal.read_item-loop-read-preserved
read_item-loop-read-preserved t c =
    let a = c.args in
    let test = c.loop-read-test.true in
    let element = c.read_sequence-in-loop-read.ensures in
    let q = c.in_ok-read-in-Array.read in
    let w = array_at a.types.now a.at a.depth c.requires.0 (sym c.kind_of.ensures ∙ c.in-Array.ensures) in
    let turn = element_room a.types.now _ a.at _ _ _ _ _ _ w.0 w.1 test element q.next q.leaves c.in_ok-read-in-Array.was c.loop-read.invariant.1 in (
      turn.1,
      turn.2,
      search rules,
      λ u w r l₂ d. c.loop-read.invariant.3 u w r l₂ (element_on a.types.now _ a.at _ _ _ _ _ _ u w test element q.next q.leaves c.in_ok-read-in-Array.was r l₂ d),
    )

pub read_item-returns-after-loop-read : goal.read_item-returns-after-loop-read
read_item-returns-after-loop-read t c =
    let a = c.args in
    let loop = c.loop-read in
    reads_array a.types.now a.at _ _ _ _ _ _ _ (sym c.kind_of.ensures ∙ c.in-Array.ensures)
    (λ u w. loop.invariant.3 u w _ _ (elements_end u _ loop.read.next _ loop.read.leaves c.loop-read-test.false))

-- ---- a sequence, item by item

pub read_sequence-read_item-requires : goal.read_sequence-read_item-requires
read_sequence-read_item-requires t c =
    let inv = c.loop-list.invariant in
    let v = inv.3 c.requires.0.0 c.requires.0.1 in
    let x = part_item _ _ v.0 (sym c.loop-list-test.ensures) v.1 in
    (omega arith, ((x.0, x.3), inv.0))

pub read_sequence-returns-in_err-read : goal.read_sequence-returns-in_err-read
read_sequence-returns-in_err-read t c =
    let loop = c.loop-list in
    let m = c.in_err-read.field-0.0 in
    let gives : c.from_residual.result ≡ Err m = search rules in
    rw gives
    (λ u w. let v = loop.invariant.3 u w in
    v.2 _ _
    (turn_misfit c.args.types.now _ loop.place _ _ _ _ _ _ v.0 v.1 (sym c.loop-list-test.ensures) c.read_item.ensures _ m.cause c.in_err-read.was))

pub read_sequence-item_end-place-requires : goal.read_sequence-item_end-place-requires
read_sequence-item_end-place-requires t c =
    let v = c.loop-list.invariant.3 c.requires.0.0 c.requires.0.1 in
    let x = part_item _ _ v.0 (sym c.loop-list-test.ensures) v.1 in
    (x.0, _, x.3)

pub read_sequence-loop-list-smaller : goal.read_sequence-loop-list-smaller
read_sequence-loop-list-smaller t c =
    let loop = c.loop-list in
    let q = c.in_ok-read.read in
    let v = loop.invariant.3 c.requires.0.0 c.requires.0.1 in
    let turn = turn_room c.args.types.now _ loop.place _ _ _ _ _ _ v.0 v.1 (sym c.loop-list-test.ensures) c.read_item.ensures q.next q.leaves
    c.in_ok-read.was _ c.item_end-place.ensures loop.invariant.0 in
    omega (arith, turn.0, turn.1.placed)

pub read_sequence-loop-list-preserved : goal.read_sequence-loop-list-preserved
read_sequence-loop-list-preserved t c =
    let types = c.args.types.now in
    let loop = c.loop-list in
    let going = sym c.loop-list-test.ensures in
    let item = c.read_item.ensures in
    let ends = c.item_end-place.ensures in
    let q = c.in_ok-read.read in
    let v = loop.invariant.3 c.requires.0.0 c.requires.0.1 in
    let turn = turn_room types _ loop.place _ _ _ _ _ _ v.0 v.1 going item q.next q.leaves c.in_ok-read.was _ ends loop.invariant.0 in (
      turn.1,
      omega (arith, turn.0),
      search rules,
      λ u f.
          let v = loop.invariant.3 u f in
          let x = turn_on types _ loop.place _ _ _ _ _ _ v.0 v.1 going item q.next q.leaves c.in_ok-read.was _ ends in
          (x.0, x.1, λ r l₂ d. v.2 r l₂ (x.2 r l₂ d)),
    )

pub read_sequence-returns : goal.read_sequence-returns
read_sequence-returns t c = λ u w.
    let loop = c.loop-list in
    let v = loop.invariant.3 u w in
    v.2 _ _ (sequence_ends _ _ _ loop.read.next _ loop.read.leaves v.0 (sym c.loop-list-test.ensures) v.1)
