-- One call of the program (01, Bodies and their replies: "prints each reply body").
use Rattle.std.specs.Prelude.{cond, List, [], ◌≡◌, ℕ, ◌*◌, eqb, replicate}
use Rattle.octets.specs.Writing.{Wrote}
use Rattle.lines.specs.Line.{line_of}
use Rattle.hdlc.specs.declared.reader.Reader.{Reader}
use Rattle.device.specs.State.{max_reply}
use Rattle.device.specs.declared.state.Device.{Device}
use Rattle.engine.specs.Engine.{engine}
use Rattle.serial.specs.Receiving.{Result, receive_body}
use Rattle.ncp.specs.declared.turn.Session.{Session}
use Rattle.ncp.specs.declared.turn.Turn.{Turn}

-- the longest line: three letters for each octet of a reply
abbrev pub max_line : ℕ
max_line = 3 * max_reply

-- the receiving call before framing, lent a cleared space
abbrev pub received : Device → Reader → List ℕ → List ℕ → Result
received d r input a = receive_body d r input a (replicate max_reply 0)

-- the engine's reply, where a frame was answered
unfoldable pub reply_body : Device → Result → List ℕ
reply_body d r = cond (eqb r.number 1) (engine d r.request).reply []

-- a turn gives what the receiving call gives, and the line of the reply stands first in the space lent for it
pub record Took (d : Device) (r : Result) (t : Turn) (s : Session) (a before after : List ℕ) : Type 0 where
  pub read : t.read ≡ r.read
  pub device : s.device ≡ r.device
  pub reader : s.reader ≡ r.reader
  pub assembly : a ≡ r.assembly
  pub line : Wrote before after 0 t.len (line_of (reply_body d r))
