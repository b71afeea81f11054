-- The box stands where some chunks leave it, one a turn, all of them records.
use Rattle.replay.specs.Playback.{state_of}
use Rattle.replay.specs.Run.{Ran}
use Rattle.replay.proofs.run.play_log.Given as goal

abbrev pub invariant-loop : goal.invariant-loop
invariant-loop l = Ran (state_of l.initial.playback) (state_of l.playback) l.counter
