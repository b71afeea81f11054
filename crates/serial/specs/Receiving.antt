-- The receiving call (01, Octets on the wire).
use Rattle.std.specs.Prelude.{Bool, true, cond, not, ◌&&◌, List, [], ◌++◌, ◌≡◌, ℕ, ◌≤◌, eqb, ltb, length, take, drop, Result as Tried, Ok, Err}
use Rattle.frame.specs.Frame.{frame}
use Rattle.hdlc.specs.declared.reader.Reader.{Reader}
use Rattle.hdlc.specs.declared.reader.Fate.{Fate}
use Rattle.hdlc.specs.Fate.{fate_number, body_in}
use Rattle.hdlc.specs.Reader.{max_gathered, assembling, Outcome, run}
use Rattle.hdlc.specs.Rules.{rules as reader_rules}
use Rattle.device.specs.declared.state.Device.{Device}
use Rattle.device.specs.Rules.{rules}
use Rattle.engine.specs.Engine.{engine}
use Rattle.serial.specs.declared.receiving.Refusal.{Refusal}
use Rattle.serial.specs.declared.receiving.Refusal.TheVariants.{BadState, SmallAssembly, SmallOutput}
use Rattle.serial.specs.declared.receiving.Received.{Received}

-- 01's number of a refusal
abbrev pub refusal_number : Refusal → ℕ
refusal_number BadState = 11
refusal_number SmallAssembly = 12
refusal_number SmallOutput = 13

-- 01's number of an answer
abbrev pub number_of : Tried Fate Refusal → ℕ
number_of (Ok f) = fate_number f
number_of (Err r) = refusal_number r

-- the body of the frame that was answered, from the front of the assembly buffer
abbrev pub request_in : Tried Fate Refusal → List ℕ → List ℕ
request_in (Ok f) a = body_in f a
request_in (Err r) a = []

-- "refused: output under 128"
abbrev pub min_output : ℕ
min_output = 128

-- what a call returns, by 01's number and with the body of the frame that it answered, and every octet of the two buffers that it was lent
pub record Result : Type 0 where
  pub number : ℕ
  pub request : List ℕ
  pub read : ℕ
  pub written : ℕ
  pub device : Device
  pub reader : Reader
  pub assembly : List ℕ
  pub output : List ℕ

abbrev pub result_of : Received → List ℕ → List ℕ → Result
result_of r a out =
    record {
      number = number_of r.answer;
      request = request_in r.answer a;
      read = r.read;
      written = r.written;
      device = r.device;
      reader = r.reader;
      assembly = a;
      output = out;
    }

-- "Refusals .. read and write nothing, return zero for every count and hand the given state back"
abbrev pub refused : ℕ → Device → Reader → List ℕ → List ℕ → Result
refused n d r a out =
    record { number = n; request = []; read = 0; written = 0; device = d; reader = r; assembly = a; output = out }

-- fate 1, "frame answered": octets are written at the front of the output, and behind them stands what the output held
abbrev pub replied : Outcome → Device → List ℕ → List ℕ → Result
replied o d xs out =
    record {
      number = 1;
      request = o.fate.body;
      read = o.read;
      written = length xs;
      device = d;
      reader = o.state.reader;
      assembly = o.state.assembly;
      output = xs ++ drop (length xs) out;
    }

-- any other: "Fates 2 to 6 change no property and write no reply"
abbrev pub unanswered : Outcome → Device → List ℕ → Result
unanswered o d out =
    record {
      number = o.fate.number;
      request = [];
      read = o.read;
      written = 0;
      device = d;
      reader = o.state.reader;
      assembly = o.state.assembly;
      output = out;
    }

-- what was read: a checked body is the engine's, and `octets` are those that go out for its reply
unfoldable pub unrefused : (List ℕ → List ℕ) → Device → Outcome → List ℕ → Result
unrefused octets d o out =
    let e = engine d o.fate.body in
    cond (eqb o.fate.number 1) (replied o e.device (octets e.reply) out) (unanswered o d out)

-- "state breaks its own rules": the box, or the reader
unfoldable pub breaks_rules : Device → Reader → Bool
breaks_rules d r = not (rules d && reader_rules r)

-- the refusals that both calls below have
unfoldable pub admit : Device → Reader → List ℕ → Tried Unit Refusal
admit d r a = cond (breaks_rules d r) (Err BadState) (cond (ltb (length a) max_gathered) (Err SmallAssembly) (Ok tt))

-- "refusals in the order 11, 12, 13"; a reply goes out as a frame
unfoldable pub receive : Device → Reader → List ℕ → List ℕ → List ℕ → Result
receive d r input a out =
    cond (breaks_rules d r) (refused 11 d r a out)
    (cond (ltb (length a) max_gathered) (refused 12 d r a out)
    (cond (ltb (length out) min_output) (refused 13 d r a out)
    (unrefused frame d (run (assembling r a) input) out)))

-- the same before framing: a reply goes out as its body. The code lends a space of 61 octets, which has room for any
unfoldable pub receive_body : Device → Reader → List ℕ → List ℕ → List ℕ → Result
receive_body d r input a space =
    cond (breaks_rules d r) (refused 11 d r a space)
    (cond (ltb (length a) max_gathered) (refused 12 d r a space)
    (unrefused (λ b. b) d (run (assembling r a) input) space))

-- what `receive_body` gave, with what it wrote framed into an output: `receive` (proofs/Framing.antt)
unfoldable pub framed : Result → List ℕ → Result
framed r out =
    let xs = cond (eqb r.written 0) [] (frame (take r.written r.output)) in
    record {
      number = r.number;
      request = r.request;
      read = r.read;
      written = length xs;
      device = r.device;
      reader = r.reader;
      assembly = r.assembly;
      output = xs ++ drop (length xs) out;
    }

-- a box, a reader and an assembly buffer for which there is no refusal 11 or 12
pub record Keeps (d : Device) (r : Reader) (a : List ℕ) : Type 0 where
  pub device : rules d ≡ true
  pub reader : reader_rules r ≡ true
  pub room : max_gathered ≤ length a
