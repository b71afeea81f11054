-- A chunk more, by what its read leaves.
use mathlib.Core.Path.{ap, ◌∙◌}
use lib.ListN.{take}
use Rattle.hdlc.specs.Reader.{fresh}
use Rattle.hdlc.specs.Rules.{rules}
use Rattle.hdlc.proofs.ReaderRules.{fresh_rules, rules_hold}
use Rattle.ncp.proofs.LawsServing.{served_none, served_next, ended_next}
use Rattle.ncp.proofs.serve.serve.Goals as goal

pub loop-init : goal.loop-init
loop-init c =
    let e = c.fresh.ensures in
    record {
      keeps = record { device = c.requires.rules; reader = ap rules e ∙ rules_hold fresh fresh_rules; room = c.requires.room };
      served = served_none _ _ _ (ap (λ r. record { device = c.args.device; reader = r; assembly = c.args.assembly.now }) e);
    }

pub returns-then-read-eq0 : goal.returns-then-read-eq0
returns-then-read-eq0 c =
    let w = c.loop in
    let chunk = c.serve_read.new.chunk in
    ended_next _ (record { session = w.session; read = w.read }) _ w.assembly _ (take c.in_ok-read.read chunk) _ w.invariant.served c.in_ok-read.ensures.state (ap (λ n. take n chunk) c.if-read-eq0.true) c.if-read-eq0.true

pub loop-preserved : goal.loop-preserved
loop-preserved c =
    let w = c.loop in
    let left = c.in_ok-read.ensures in
    record {
      keeps = left.keeps;
      served = served_next _ (record { session = w.session; read = w.read }) _ w.assembly _ (take c.in_ok-read.read c.serve_read.new.chunk) _ w.invariant.served left.state;
    }
