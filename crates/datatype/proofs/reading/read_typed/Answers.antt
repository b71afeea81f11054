-- A first reading, on none of the list, decides the answer; a second one fills the list.
use Rattle.std.proofs.Common.{◌≡◌, sym, ◌∙◌, refl, [], arith, rules}
use Rattle.std.specs.Prelude.{Err}
use Rattle.datatype.specs.declared.reading.Refusal.TheVariants as refusal
use Rattle.datatype.proofs.LawsAnswers.{answers_malformed, answers_long, readable, answers_misfit, few_leaves, answers_short, answers_leaves}
use Rattle.datatype.proofs.reading.read_typed.Goals as goal

pub returns-then-not-is_type : goal.returns-then-not-is_type
returns-then-not-is_type c =
    let w = answers_malformed c.args.types.now c.args.payload.now c.args.list.now (sym c.is_type.ensures ∙ c.if-not-is_type.true) in
    record { report = w.0; list = w.1 }

pub returns-then-payload-gt-MAX_OCTETS : goal.returns-then-payload-gt-MAX_OCTETS
returns-then-payload-gt-MAX_OCTETS c =
    let w = answers_long c.args.types.now c.args.payload.now c.args.list.now (sym c.is_type.ensures ∙ c.if-not-is_type.false) (omega arith) in
    record { report = w.0; list = w.1 }

pub read_sequence-requires : goal.read_sequence-requires
read_sequence-requires c = readable _ _ [] (sym c.is_type.ensures ∙ c.if-not-is_type.false) (omega arith)

pub returns-in_err-reached : goal.returns-in_err-reached
returns-in_err-reached c =
    let m = c.in_err-reached.field-0.0 in
    let gives : c.from_residual.result ≡ Err (refusal.Misfit m.cause) = search rules in
    let w = answers_misfit c.args.types.now c.args.payload.now c.args.list.now (sym c.is_type.ensures ∙ c.if-not-is_type.false) (omega arith) _ _ _
    c.read_sequence.ensures m.cause (rw c.in_err-reached.was refl) in
    record { report = rw gives w.0; list = w.1 }

pub returns-in_err-counted : goal.returns-in_err-counted
returns-in_err-counted c =
    let m = c.in_err-counted.field-0.0 in
    let gives : c.from_residual-in_err-counted.result ≡ Err (refusal.Misfit m.cause) = search rules in
    let w = answers_misfit c.args.types.now c.args.payload.now c.args.list.now (sym c.is_type.ensures ∙ c.if-not-is_type.false) (omega arith) _ _ _
    c.read_sequence.ensures m.cause (rw c.in_ok-reached.was (sym c.filling.ensures ∙ c.in_err-counted.was)) in
    record { report = rw gives w.0; list = w.1 }

pub overflow_mul-counted : goal.overflow_mul-counted
overflow_mul-counted c =
    let n = c.in_ok-counted.counted in
    omega (
      arith,
      few_leaves c.args.types.now c.args.payload.now c.args.list.now (sym c.is_type.ensures ∙ c.if-not-is_type.false) (omega arith) _ _ _
          c.read_sequence.ensures n.next n.leaves (rw c.in_ok-reached.was (sym c.filling.ensures ∙ c.in_ok-counted.was)),
    )

pub returns-then-list-counted : goal.returns-then-list-counted
returns-then-list-counted c =
    let n = c.in_ok-counted.counted in
    let w = answers_short c.args.types.now c.args.payload.now c.args.list.now (sym c.is_type.ensures ∙ c.if-not-is_type.false) (omega arith) _ _ _
    c.read_sequence.ensures n.next n.leaves (rw c.in_ok-reached.was (sym c.filling.ensures ∙ c.in_ok-counted.was)) c.if-list-counted.true in
    record { report = w.0; list = w.1 }

pub read_sequence-requires-2 : goal.read_sequence-requires-2
read_sequence-requires-2 c = readable _ _ [] (sym c.is_type.ensures ∙ c.if-not-is_type.false) (omega arith)

pub returns : goal.returns
returns c =
    let n = c.in_ok-counted.counted in
    let w = answers_leaves c.args.types.now c.args.payload.now c.args.list.now (sym c.is_type.ensures ∙ c.if-not-is_type.false) (omega arith) _ _ _
    c.read_sequence.ensures n.next n.leaves (rw c.in_ok-reached.was (sym c.filling.ensures ∙ c.in_ok-counted.was)) c.if-list-counted.false _ _
    c.read_sequence-2.ensures in
    record { report = w.0; list = w.1 }
