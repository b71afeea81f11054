-- What becomes of a frame (01, Octets on the wire, the table of numbers).
use Rattle.std.specs.Prelude.{Bool, not, cond, List, [], ◌∷◌, ℕ, ◌+◌, eqb, take, Option, None, Some}
use Rattle.hdlc.specs.declared.reader.Fate.{Fate}
use Rattle.hdlc.specs.declared.reader.Fate.TheVariants.{Unfinished, Checked, Short, WrongCheck, TooLong, CutEscape, BadHeader}

-- 01's number, 0 where no frame is finished, and of a checked frame its body
pub record Fated : Type 0 where
  pub number : ℕ
  pub body : List ℕ

-- fate 1, and any other
abbrev pub checked : List ℕ → Fated
checked body = record { number = 1; body = body }

abbrev pub unchecked : ℕ → Fated
unchecked n = record { number = n; body = [] }

-- whether a frame has its fate
abbrev pub decided : Fated → Bool
decided f = not (eqb f.number 0)

-- as a list: none where no frame has one
unfoldable pub given : Fated → List Fated
given f = cond (decided f) (f ∷ []) []

-- ---- what the code gives

-- 01's number of a fate
abbrev pub fate_number : Fate → ℕ
fate_number Unfinished = 0
fate_number (Checked n) = 1
fate_number Short = 2
fate_number WrongCheck = 3
fate_number TooLong = 4
fate_number CutEscape = 5
fate_number BadHeader = 6

-- the body of a checked frame, from the front of the assembly buffer
abbrev pub body_in : Fate → List ℕ → List ℕ
body_in Unfinished a = []
body_in (Checked n) a = take n a
body_in Short a = []
body_in WrongCheck a = []
body_in TooLong a = []
body_in CutEscape a = []
body_in BadHeader a = []

abbrev pub fated : Fate → List ℕ → Fated
fated f a = record { number = fate_number f; body = body_in f a }

-- as a list, of an octet that decides one or none
abbrev pub told : Option Fate → List ℕ → List Fated
told None a = []
told (Some f) a = fated f a ∷ []

-- ---- a call

-- its fate, how many octets it read, and the state in which it ends
pub record Read (S : Type 0) : Type 0 where
  pub fate : Fated
  pub read : ℕ
  pub state : S

-- the same n octets later
abbrev pub later : {S : Type 0} → ℕ → Read S → Read S
later n o = record { fate = o.fate; read = n + o.read; state = o.state }
