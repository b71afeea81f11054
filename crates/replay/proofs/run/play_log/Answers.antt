-- A turn more, by its chunk.
use mathlib.Core.Logic.{inl, inr}
use mathlib.Core.Path.{refl, sym, ap, ◌∙◌}
use lib.ListN.{take}
use Rattle.replay.specs.Run.{has_ended}
use Rattle.replay.proofs.LawsRun.{ran_none, ran_next, ran_last}
use Rattle.replay.proofs.run.play_log.Goals as goal

pub loop-init : goal.loop-init
loop-init c = ran_none _

pub returns-in_default : goal.returns-in_default
returns-in_default c =
    let t = c.play_next-turn.ensures in
    record {
      turns = _;
      ran = ran_last _ _ _ (take c.play_next-turn.result.read c.play_next-turn.new.space) _ c.loop.invariant t.turned (ap has_ended c.in_default.is);
      why = inl (record { read = _; counted = refl; count = t.count; fits = t.chunk; none = sym t.turned.ended ∙ ap has_ended c.in_default.is });
    }

pub returns-in_err-print : goal.returns-in_err-print
returns-in_err-print c =
    let t = c.play_next-turn.ensures in
    record {
      turns = _;
      ran = ran_next _ _ _ (take c.play_next-turn.result.read c.play_next-turn.new.space) _ c.loop.invariant t.turned t.chunk (ap has_ended c.in-Some.is);
      why = inr (inl c.from_residual.ensures.0);
    }

pub loop-preserved : goal.loop-preserved
loop-preserved c =
    let w = c.loop.invariant in
    let p = c.play_next-turn.ensures in
    ran_next _ _ _ (take c.play_next-turn.result.read c.play_next-turn.new.space) _ w p.turned p.chunk (ap has_ended c.in-Some.is)
