-- Each return is a case of the definition.
use borrow.Enum.Refused.{opened}
use mathlib.Core.Path.{sym, ap, ◌∙◌}
use Rattle.capture.specs.Reading.{reported}
use Rattle.replay.proofs.LawsChunks.{left_no_head, left_body, left_other, left_found}
use Rattle.replay.proofs.chunks.body_left.Goals as goal

pub returns-in-Err-CutOff : goal.returns-in-Err-CutOff
returns-in-Err-CutOff c =
    let cut = c.in-Err-CutOff in
    c.read_le.ensures ∙ sym (left_body _ c.if-octets-eq-HEAD_SIZE.true (sym (rw cut.field-0-is at cut.ensures)))

pub returns-in_default : goal.returns-in_default
returns-in_default c = sym (left_no_head _ c.if-octets-eq-HEAD_SIZE.false)

pub returns-in_default-2 : goal.returns-in_default-2
returns-in_default-2 c = sym (left_other _ _ c.in_default.ensures (opened c.in_default.in_default-own.keys2))

pub returns-in_default-3 : goal.returns-in_default-3
returns-in_default-3 c = sym (left_found _ c.in_default.field-0 (ap reported (sym c.in_default.is) ∙ c.read_record.ensures))
