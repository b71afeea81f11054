-- The program's calls one after the other, and their lines.
use Rattle.std.specs.Prelude.{cond, ◌⊎◌, ◌≡◌, ◌++◌, ℕ, zero, suc, eqb, length, drop, Result as Tried, IfOk, IsErr}
use Rattle.std.specs.declared.io.Error.{Error}
use mathlib.Core.List.{List, [], ◌∷◌, foldl}
use Rattle.octets.specs.Runs.{emitted}
use Rattle.lines.specs.Line.{line_of}
use Rattle.hdlc.specs.declared.reader.Reader.{Reader}
use Rattle.hdlc.specs.Reader.{fresh}
use Rattle.device.specs.declared.state.Device.{Device}
use Rattle.serial.specs.Receiving.{Result, Keeps}
use Rattle.ncp.specs.declared.turn.Session.{Session}
use Rattle.ncp.specs.declared.serve.Progress.{Progress}
use Rattle.ncp.specs.Turn.{received, reply_body}

-- what stands between two calls
pub record State : Type 0 where
  pub device : Device
  pub reader : Reader
  pub assembly : List ℕ

abbrev pub state_of : Session → List ℕ → State
state_of s a = record { device = s.device; reader = s.reader; assembly = a }

abbrev pub KeepsState : State → Type 0
KeepsState s = Keeps s.device s.reader s.assembly

-- the program starts with a fresh reader
abbrev pub start : Device → List ℕ → State
start d a = record { device = d; reader = fresh; assembly = a }

-- ---- a call

abbrev pub gives : State → List ℕ → Result
gives s xs = received s.device s.reader xs s.assembly

unfoldable pub next : State → List ℕ → State
next s xs = record { device = (gives s xs).device; reader = (gives s xs).reader; assembly = (gives s xs).assembly }

-- the line that it prints; of no reply, nothing
unfoldable pub line_for : State → List ℕ → List ℕ
line_for s xs = line_of (reply_body s.device (gives s xs))

-- ---- a chunk

-- it is fed to a call, and what the call left unread is fed again, until nothing is left; at most so many calls
unfoldable pub feeds : ℕ → State → List ℕ → List (List ℕ)
feeds zero s xs = []
feeds (suc n) s xs = cond (eqb (length xs) 0) [] (xs ∷ feeds n (next s xs) (drop (gives s xs).read xs))

-- a call reads an octet at least: so many calls are enough
unfoldable pub fed : State → List ℕ → List (List ℕ)
fed s xs = feeds (length xs) s xs

unfoldable pub chunk_leaves : State → List ℕ → State
chunk_leaves s xs = foldl next s (fed s xs)

unfoldable pub chunk_lines : State → List ℕ → List ℕ
chunk_lines s xs = emitted line_for next s (fed s xs)

-- ---- chunks

unfoldable pub chunks_leave : State → List (List ℕ) → State
chunks_leave s xss = foldl chunk_leaves s xss

unfoldable pub lines_of : State → List (List ℕ) → List ℕ
lines_of s xss = emitted chunk_lines chunk_leaves s xss

-- the most reads that the program makes
abbrev pub max_reads : ℕ
max_reads = 18446744073709551615

-- unless a line could not be written, the session stands where some chunks leave it, one a read. Which chunks came is the operating system's
-- part
pub record Served (s : State) (t : Tried Progress Error) (a : List ℕ) (reads : ℕ) : Type 0 where
  pub chunks : List (List ℕ)
  pub count : length chunks ≡ reads
  pub left : IfOk t (λ p. state_of p.session a ≡ chunks_leave s chunks)

-- the last of some chunks has no octets, and none were read last
pub record LastEmpty (t : Tried Progress Error) (xss : List (List ℕ)) : Type 0 where
  pub before : List (List ℕ)
  pub last : xss ≡ before ++ ([] ∷ [])
  pub read : IfOk t (λ p. p.read ≡ 0)

-- the program ends when a line could not be written, when a read gave nothing, or after all its reads
pub record Ended (s : State) (t : Tried Progress Error) (a : List ℕ) : Type 0 where
  pub reads : ℕ
  pub served : Served s t a reads
  pub why : IsErr t ⊎ (LastEmpty t served.chunks ⊎ (reads ≡ max_reads))
