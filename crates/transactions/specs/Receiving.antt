-- The host's receiving call: frames from the cable, and the table that is told their bodies (01, Octets on the wire; 02, T-06).
use Rattle.std.specs.Prelude.{Bool, cond, not, ◌&&◌, List, [], ◌∷◌, ℕ, Result as RustResult, Ok, Err, eqb, ltb, length, take}
use Rattle.hdlc.specs.declared.reader.Reader.{Reader}
use Rattle.hdlc.specs.Fate.{fate_number}
use Rattle.hdlc.specs.Reader.{max_gathered, assembling, Outcome, run}
use Rattle.hdlc.specs.Rules.{rules as reader_rules}
use Rattle.transactions.specs.declared.receiving.Heard.{Heard}
use Rattle.transactions.specs.declared.receiving.Heard.TheVariants.{Read, Body}
use Rattle.transactions.specs.declared.receiving.ReceiveRefusal.{ReceiveRefusal}
use Rattle.transactions.specs.declared.receiving.ReceiveRefusal.TheVariants.{BadState, SmallAssembly}
use Rattle.transactions.specs.declared.receiving.Received.{Received}
use Rattle.transactions.specs.Answer.{Report, reported}
use Rattle.transactions.specs.Table.{Numbers, numbers_of, rules, Result, after_reply}

-- 01's number of what a call tells; what the table reported, where it was told a body
abbrev pub number_of : RustResult Heard ReceiveRefusal → ℕ
number_of (Ok (Read f)) = fate_number f
number_of (Ok (Body n a)) = 1
number_of (Err BadState) = 11
number_of (Err SmallAssembly) = 12

abbrev pub reports_in : RustResult Heard ReceiveRefusal → List Report
reports_in (Ok (Read f)) = []
reports_in (Ok (Body n a)) = reported a ∷ []
reports_in (Err why) = []

-- the body of a checked frame, from the front of the assembly buffer
abbrev pub body_in : RustResult Heard ReceiveRefusal → List ℕ → List ℕ
body_in (Ok (Read f)) a = []
body_in (Ok (Body n x)) a = take n a
body_in (Err why) a = []

-- what a call returns, and every octet of the buffer that it was lent
pub record Reception : Type 0 where
  pub number : ℕ
  pub body : List ℕ
  pub reports : List Report
  pub read : ℕ
  pub numbers : Numbers
  pub reader : Reader
  pub assembly : List ℕ

abbrev pub reception_of : Received → List ℕ → Reception
reception_of r a =
    record {
      number = number_of r.heard;
      body = body_in r.heard a;
      reports = reports_in r.heard;
      read = r.read;
      numbers = numbers_of r.table;
      reader = r.reader;
      assembly = a;
    }

-- 01, Octets on the wire: "Refusals .. read and write nothing, return zero for every count and hand the given state back"
abbrev pub refused : ℕ → Numbers → Reader → List ℕ → Reception
refused n d r a = record { number = n; body = []; reports = []; read = 0; numbers = d; reader = r; assembly = a }

-- fate 1: the table is told the body
abbrev pub told : Outcome → Result → Reception
told o r =
    record {
      number = 1;
      body = o.fate.body;
      reports = r.report ∷ [];
      read = o.read;
      numbers = r.numbers;
      reader = o.state.reader;
      assembly = o.state.assembly;
    }

-- any other: nothing
abbrev pub untold : Outcome → Numbers → Reception
untold o d =
    record {
      number = o.fate.number;
      body = [];
      reports = [];
      read = o.read;
      numbers = d;
      reader = o.state.reader;
      assembly = o.state.assembly;
    }

unfoldable pub unrefused : Numbers → Outcome → Reception
unrefused d o = cond (eqb o.fate.number 1) (told o (after_reply d o.fate.body)) (untold o d)

-- "refused: state breaks its own rules": the table, or the reader
unfoldable pub breaks_rules : Numbers → Reader → Bool
breaks_rules d r = not (rules d && reader_rules r)

-- "refusals in the order 11, 12, 13"; nothing is written, so there is no 13
unfoldable pub receive : Numbers → Reader → List ℕ → List ℕ → Reception
receive d r input a =
    cond (breaks_rules d r) (refused 11 d r a)
    (cond (ltb (length a) max_gathered) (refused 12 d r a)
    (unrefused d (run (assembling r a) input)))
