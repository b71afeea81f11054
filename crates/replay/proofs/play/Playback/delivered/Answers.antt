-- A body that reaches the box is the engine's.
use native.Mathlib.Omega.{arith}
use borrow.Author.Tests.{eq-eqb}
use Rattle.engine.proofs.ReplyBounds.{reply_bounds}
use Rattle.replay.specs.Play.{delivered}
use Rattle.replay.proofs.LawsPlay.{front_taken}
use Rattle.replay.proofs.play.Playback.delivered.Goals as goal

pub returns : goal.returns
unfolding delivered
returns c =
    let answered = c.answer-answered.ensures in
    let reply = front_taken (omega (arith, reply_bounds c.args.device c.args.body.now c.requires.rules)) answered.reply in
    rw (eq-eqb _ 2 c.if-body-ne2.false) (λ i. record { device = answered.device i; reply = reply i })
