-- The invariant: the outcome of what is left, `at` octets later, is that of the whole, and the reader keeps its rules.
use mathlib.Core.Path.{sym, ap, ◌∙◌}
use native.Mathlib.Omega.{arith}
use lib.ListN.{get_or}
use Rattle.hdlc.specs.Reader.{assembling}
use Rattle.hdlc.specs.Rules.{rules as reader-rules}
use Rattle.std.proofs.Common.{rules}
use Rattle.hdlc.proofs.LawsReading.{run_end, run_next, run_decided}
use Rattle.hdlc.proofs.ReaderRules.{rules_told, after_rules}
use Rattle.hdlc.proofs.reader.read_frame.Goals as goal

pub read_octet-step-requires : goal.read_octet-step-requires
read_octet-step-requires c =
    let w = c.loop-at in ((rules_told w.reader w.invariant.keeps).count, omega arith)

pub loop-at-preserved : goal.loop-at-preserved
loop-at-preserved c =
    let step = c.read_octet-step in
    let w = c.loop-at in
    let input = c.args.input.now in
    let h = assembling w.reader w.assembly in
    record {
      inside = omega arith;
      keeps = ap (λ g. reader-rules g.reader) step.ensures.1 ∙ after_rules h (get_or input w.at 0) (omega arith) w.invariant.keeps;
      left =
          sym (run_next h input w.at (omega arith) _ _ step.ensures.0 step.ensures.1 (search rules))
          ∙ w.invariant.left;
    }

pub returns-then-at-input : goal.returns-then-at-input
returns-then-at-input c =
    let w = c.loop-at in
    sym (run_end _ c.args.input.now w.at (omega arith)) ∙ w.invariant.left

pub returns-in-Some : goal.returns-in-Some
returns-in-Some c =
    let step = c.read_octet-step in
    let w = c.loop-at in
    sym
    (run_decided (assembling w.reader w.assembly) c.args.input.now w.at (omega arith) _ _ step.ensures.0 step.ensures.1 _ (search rules))
    ∙ w.invariant.left
