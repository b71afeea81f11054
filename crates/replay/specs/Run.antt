-- The program's chunks, one after the other.
use Rattle.std.specs.Prelude.{Bool, true, false, Option, Some, None, Result, Ok, IsErr, ◌⊎◌, ◌≡◌, ℕ, length, take}
use Rattle.std.specs.declared.io.Error.{Error}
use mathlib.Core.List.{List, [], ◌∷◌, foldl}
use Rattle.replay.specs.declared.run.Turn.{Turn}
use Rattle.replay.specs.Play.{State, yes_or_no}
use Rattle.replay.specs.Chunks.{IsChunk, entry_in, is_none, after_chunk, chunk_lines}

-- the most chunks that the program reads
abbrev pub max_chunks : ℕ
max_chunks = 18446744073709551615

-- what a turn gives: nothing where its chunk is no record, else what the record gives
abbrev pub has_ended : Option (Option Bool) → Bool
has_ended None = true
has_ended (Some l) = false

abbrev pub line_of : Option (Option Bool) → List Bool
line_of None = []
line_of (Some l) = yes_or_no l

-- a turn on a chunk: the box after it, the line for it, and whether it is no record
pub record Turned (s p : State) (t : Option (Option Bool)) (xs : List ℕ) : Type 0 where
  pub state : p ≡ after_chunk s xs
  pub line : line_of t ≡ chunk_lines s xs
  pub ended : has_ended t ≡ is_none (entry_in xs)

-- a turn on a chunk that was read to the front of a space
pub record Took (s p : State) (t : Turn) (space : List ℕ) : Type 0 where
  pub count : t.read ≡ length (take t.read space)
  pub chunk : IsChunk (take t.read space)
  pub turned : Turned s p t.line (take t.read space)

-- chunks that are records
pub data AllRecords : List (List ℕ) → Type 0 where
  none : AllRecords []
  more : {xs : List ℕ} {xss : List (List ℕ)} → IsChunk xs → is_none (entry_in xs) ≡ false → AllRecords xss → AllRecords (xs ∷ xss)

-- the box stands where so many chunks leave it, all of them records. Which chunks came is the operating system's part
pub record Ran (s t : State) (n : ℕ) : Type 0 where
  pub chunks : List (List ℕ)
  pub all : AllRecords chunks
  pub count : length chunks ≡ n
  pub left : t ≡ foldl after_chunk s chunks

-- the chunk behind them, which is at the front of the space and whose octets are counted, is no record: the log ends there, or is at fault
pub record NoRecord (r : Result ℕ Error) (space : List ℕ) : Type 0 where
  pub read : ℕ
  pub counted : r ≡ Ok read
  pub count : read ≡ length (take read space)
  pub fits : IsChunk (take read space)
  pub none : is_none (entry_in (take read space)) ≡ true

-- the program ends at the first chunk that is no record, when a line could not be written, or after all its chunks
pub record Ended (s p : State) (r : Result ℕ Error) (space : List ℕ) : Type 0 where
  pub turns : ℕ
  pub ran : Ran s p turns
  pub why : NoRecord r space ⊎ (IsErr r ⊎ (turns ≡ max_chunks))
