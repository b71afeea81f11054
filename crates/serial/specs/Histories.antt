-- Whole histories of receiving calls, and what they are by the octets alone (01, Whole histories).
use Rattle.std.specs.Prelude.{Bool, cond, ◌||◌, ℕ, ◌<◌, eqb, ltb, length, take}
use mathlib.Core.List.{List, [], ◌∷◌, foldl}
use Rattle.octets.specs.Runs.{each, emitted}
use Rattle.frame.specs.Frame.{frame}
use Rattle.hdlc.specs.declared.reader.Reader.{Reader}
use Rattle.hdlc.specs.Reader.{max_gathered, fresh}
use Rattle.hdlc.specs.Wire.{checked_in, unfinished, call, call_reads}
use Rattle.device.specs.declared.state.Device.{Device}
use Rattle.device.specs.Setup.{Setup, device_from}
use Rattle.engine.specs.Merged.{device_after, replies_to}
use Rattle.engine.specs.Carried.{Transcript}
use Rattle.serial.specs.Receiving.{min_output, Result, receive}

-- ---- histories

-- the assembly buffer that a call is lent: the history's own, or "instead .. one under 1,302"
pub data Lent : Type 0 where
  own : Lent
  short : (b : List ℕ) → length b < max_gathered → Lent

-- "Inputs and output spaces are any"
pub record ReceivingCall : Type 0 where
  pub lent : Lent
  pub input : List ℕ
  pub output : List ℕ

-- "Each history has its own assembly buffer, of any length and contents"
pub record History : Type 0 where
  pub assembly : List ℕ
  pub calls : List ReceivingCall

-- ---- its calls, one after the other

-- what stands between two calls; the assembly buffer is the history's own
pub record State : Type 0 where
  pub device : Device
  pub reader : Reader
  pub assembly : List ℕ

abbrev pub lent_from : Lent → List ℕ → List ℕ
lent_from own a = a
lent_from (short b h) a = b

-- the own buffer after a call that left the lent one as b
abbrev pub left_in : Lent → List ℕ → List ℕ → List ℕ
left_in own a b = b
left_in (short _ h) a b = a

unfoldable pub gives : State → ReceivingCall → Result
gives t c = receive t.device t.reader c.input (lent_from c.lent t.assembly) c.output

-- "Each call gets the box and the reader that the last one returned", and the own buffer "as the last call left it"
unfoldable pub next : State → ReceivingCall → State
next t c =
    record {
      device = (gives t c).device;
      reader = (gives t c).reader;
      assembly = left_in c.lent t.assembly (gives t c).assembly;
    }

-- ---- what its calls returned

-- what a call wrote, if it wrote anything
unfoldable pub reply_in : Result → List (List ℕ)
reply_in r = cond (eqb r.written 0) [] (take r.written r.output ∷ [])

-- "octets written", a list for each reply
unfoldable pub calls_write : State → List ReceivingCall → List (List ℕ)
calls_write t cs = emitted (λ u c. reply_in (gives u c)) next t cs

-- the octets that the calls read, by the counts that they returned
unfoldable pub calls_read : State → List ReceivingCall → List ℕ
calls_read t cs = emitted (λ u c. take (gives u c).read c.input) next t cs

-- ---- a history from a box, "with the reader fresh" (02, T-10)

abbrev pub start_from : Device → List ℕ → State
start_from d a = record { device = d; reader = fresh; assembly = a }

unfoldable pub end_from : Device → History → State
end_from d h = foldl next (start_from d h.assembly) h.calls

unfoldable pub replies_from : Device → History → List (List ℕ)
replies_from d h = calls_write (start_from d h.assembly) h.calls

unfoldable pub read_from : Device → History → List ℕ
read_from d h = calls_read (start_from d h.assembly) h.calls

-- ---- "Both start from a fresh reader and what setup returns"

abbrev pub start : Setup → List ℕ → State
start s a = start_from (device_from s) a

unfoldable pub end_of : Setup → History → State
end_of s h = foldl next (start s h.assembly) h.calls

unfoldable pub replies_in : Setup → History → List (List ℕ)
replies_in s h = calls_write (start s h.assembly) h.calls

unfoldable pub read_in : Setup → History → List ℕ
read_in s h = calls_read (start s h.assembly) h.calls

-- ---- the same by the octets

-- a call is refused for its buffers alone; `a` is the history's own, whose length no call changes
unfoldable pub is_refused : List ℕ → ReceivingCall → Bool
is_refused a c = ltb (length (lent_from c.lent a)) max_gathered || ltb (length c.output) min_output

-- after an open piece p a call reads nothing if it is refused, else "its input to the first flag with a fate, that flag included, else all"
unfoldable pub read_by : List ℕ → List ℕ → ReceivingCall → List ℕ
read_by a p c = cond (is_refused a c) [] (call_reads p c.input)

-- "Lay end to end what the unrefused calls read"; each goes on with the piece that the last one left
unfoldable pub laid_from : List ℕ → List ℕ → List ReceivingCall → List ℕ
laid_from a p cs = emitted (read_by a) (λ q c. unfinished q (read_by a q c)) p cs

unfoldable pub laid : History → List ℕ
laid h = laid_from h.assembly [] h.calls

-- its checked bodies, in order
unfoldable pub bodies : History → List (List ℕ)
bodies h = checked_in [] (laid h)

-- ---- one call by the octets

-- what a call reports to its caller: 01's number, how many octets it read, and the octets that it wrote
pub record Report : Type 0 where
  pub number : ℕ
  pub read : ℕ
  pub octets : List ℕ

abbrev pub report : ℕ → ℕ → List ℕ → Report
report n k xs = record { number = n; read = k; octets = xs }

unfoldable pub reported : Result → Report
reported r = report r.number r.read (take r.written r.output)

-- what it has to report after an open piece p, with the device d, and `a` for the own buffer: 12 or 13, else the fate of the first piece
-- that has one (0 if none has), the octets up to its flag, and the frames of the replies to what was checked
unfoldable pub call_means : List ℕ → List ℕ → Device → ReceivingCall → Report
call_means a p d c =
    cond (ltb (length (lent_from c.lent a)) max_gathered) (report 12 0 [])
    (cond (ltb (length c.output) min_output) (report 13 0 [])
    (report (call p c.input).fate.number (call p c.input).read (each frame (replies_to d (checked_in p (call_reads p c.input))))))

-- the piece that is open after a history, and the device
unfoldable pub open_after : History → List ℕ
open_after h = unfinished [] (laid h)

unfoldable pub device_in : Setup → History → Device
device_in s h = device_after (device_from s) (bodies h)

-- ---- what came of a history from the box d, for the engine's promise over checked bodies

abbrev pub transcript : Device → History → Transcript
transcript d h = record { bodies = bodies h; written = replies_from d h; device = (end_from d h).device }
