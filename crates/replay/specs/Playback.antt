-- What the fields of a playback stand for.
use Rattle.device.specs.State.{octets_of}
use Rattle.replay.specs.declared.play.Playback.{Playback}
use Rattle.replay.specs.Play.{State}

abbrev pub state_of : Playback → State
state_of p = record { device = p.device; reply = octets_of p.reply }
