-- What the reader holds, told by the octets of a piece.
use Rattle.std.specs.Prelude.{cond, List, [], ◌∷◌, ◌++◌, ℕ, ◌+◌, ltb, length, take, drop}
use Rattle.frame.specs.Frame.{stuffed, with_check, frame}
use Rattle.hdlc.specs.declared.reader.Reader.{Reader}
use Rattle.hdlc.specs.Fate.{decided}
use Rattle.hdlc.specs.Reader.{headed, max_gathered, gathering, overlong, fresh, Assembling, assembling, Outcome}
use Rattle.hdlc.specs.Wire.{gathered, cut_escape, Call}

unfoldable pub reader_after : List ℕ → Reader
reader_after p = cond (ltb max_gathered (length (gathered p))) overlong (gathering (length (gathered p)) (cut_escape p))

-- "Gathered octets fill the assembly buffer from its front; its other octets .. keep what they held"
unfoldable pub over : List ℕ → List ℕ → List ℕ
over g a = take max_gathered g ++ drop (length (take max_gathered g)) a

-- the reader after a piece, over the assembly buffer that it was lent
unfoldable pub holding : List ℕ → List ℕ → Assembling
holding p a = assembling (reader_after p) (over (gathered p) a)

-- a piece after which a reader and its buffer are as they are: what is open in them
unfoldable pub open_piece : Reader → List ℕ → List ℕ
open_piece r a =
    cond r.discarding (stuffed (take max_gathered a ++ (0 ∷ [])))
    (stuffed (take r.count a) ++ cond r.escaped (0x7d ∷ []) [])

-- ---- a call in closed form, over the assembly buffer that it was lent

unfoldable pub closed_form : Call → List ℕ → Outcome
closed_form c a =
    record {
      fate = c.fate;
      read = c.read;
      state = assembling (cond (decided c.fate) fresh (reader_after c.state)) (over (gathered c.state) a);
    }

-- what the call gives that reads the frame of a body: fate 1 or, by the header, 6; the reader is fresh again, and body and check stand at the
-- front of the buffer
abbrev pub frame_read : List ℕ → List ℕ → Outcome
frame_read body a =
    record { fate = headed body; read = length (frame body); state = assembling fresh (with_check body ++ drop (length body + 2) a) }
