-- PROMISE: what the program plays is the log that came in, up to its first fault. Whatever chunks came, if they are records and the one behind
-- them is none, then what was read, laid end to end, is a log of just these records: their lines are the log's, and so is the box at the end.
use mathlib.Core.Bool.{true, false}
use mathlib.Core.Path.{◌≡◌, refl, sym, ap, ap₂, ◌∙◌}
use mathlib.Core.List.{List, [], ◌∷◌, ◌++◌, map, append_assoc, append-nil, foldl, foldl-append}
use Prim.Native.Nat.{ℕ, ◌+◌, ◌^◌}
use lib.Seq.{drop_at}
use Rattle.octets.specs.Runs.{each, emitted}
use Rattle.octets.proofs.LawsRuns.{emitted_append}
use Rattle.octets.proofs.LawsTests.{impossible}
use Rattle.capture.specs.Reading.{Report, record_in, read_front}
use Rattle.capture.specs.Logs.{entry_of, with_entry, entries_in}
use Rattle.capture.proofs.LawsReading.{FrontCase, nothing, found, front_case, Front, front_then, front_is}
use Rattle.capture.proofs.LawsLogs.{entries_end, entries_next}
use Rattle.capture.proofs.OneRecord.{at_front, record_then}
use Rattle.device.specs.declared.state.Device.{Device}
use Rattle.replay.specs.Play.{State, silent, next, line_for, after_all, lines_from, replayed}
use Rattle.replay.specs.Chunks.{IsChunk, entry_in, is_none, after_chunk, chunk_lines}
use Rattle.replay.specs.Run.{max_chunks, AllRecords, none, more}
use Rattle.replay.proofs.LawsChunks.{there, chunk_size}

-- ---- chunks laid end to end

-- a chunk with an entry has a record at its front
some_front : (xs : List ℕ) → is_none (entry_in xs) ≡ false → Front xs (record_in xs)
unfolding entry_in
some_front xs e = by_case (front_case xs) e
  where
    by_case : {q : Report} → FrontCase xs q → is_none (map (entry_of xs) q.found) ≡ false → Front xs (record_in xs)
    by_case (nothing n) e = impossible (cc e)
    by_case (found f) e = f

-- one with none is the end of a log, or its fault
none_last : (xs : List ℕ) → is_none (entry_in xs) ≡ true → (entries_in xs).entries ≡ []
unfolding entry_in
none_last xs e = by_case (front_case xs) refl e
  where
    by_case : {q : Report} → FrontCase xs q → read_front xs ≡ q → is_none (map (entry_of xs) q.found) ≡ true → (entries_in xs).entries ≡ []
    by_case (nothing n) p e = ap (λ q. q.entries) (entries_end xs p)
    by_case (found f) p e = impossible (cc e)

-- a chunk that is a record, and whatever octets came behind it
chunk_then : (xs ys : List ℕ) → IsChunk xs → is_none (entry_in xs) ≡ false
    → entries_in (xs ++ ys) ≡ record { entries = entry_in xs ++ (entries_in ys).entries; fault = (entries_in ys).fault }
chunk_then xs ys p e =
    let f = some_front xs e in
    let is = at_front xs ∙ front_is f in
    entries_next (xs ++ ys) (front_is (front_then ys f))
    ∙ ap₂ with_entry (record_then xs ys 0 is).1 (ap entries_in (drop_at xs ys _ (chunk_size xs p f)))
    ∙ ap (λ es. record { entries = es ++ (entries_in ys).entries; fault = (entries_in ys).fault }) (sym (there xs is))

pub chunks_then : {xss : List (List ℕ)} (ys : List ℕ) → AllRecords xss
    → entries_in (each (λ xs. xs) xss ++ ys) ≡ record { entries = each entry_in xss ++ (entries_in ys).entries; fault = (entries_in ys).fault }
chunks_then ys none = refl
chunks_then ys (more {xs} {xss} p e k) =
    let zs : List ℕ = each (λ xs. xs) xss ++ ys in
    ap entries_in (append_assoc xs (each (λ xs. xs) xss) ys)
    ∙ chunk_then xs zs p e
    ∙ ap (λ q. record { entries = entry_in xs ++ q.entries; fault = q.fault }) (chunks_then ys k)
    ∙ ap (λ es. record { entries = es; fault = (entries_in ys).fault }) (sym (append_assoc (entry_in xs) (each entry_in xss) (entries_in ys).entries))

-- ---- chunks played are records played

lines_each : (s : State) (xss : List (List ℕ)) → emitted chunk_lines after_chunk s xss ≡ lines_from s (each entry_in xss)
unfolding chunk_lines after_chunk after_all lines_from
lines_each s [] = refl
lines_each s (xs ∷ xss) =
    ap (λ l. lines_from s (entry_in xs) ++ l) (lines_each (after_chunk s xs) xss) ∙ sym (emitted_append line_for next s (entry_in xs) (each entry_in xss))

state_each : (s : State) (xss : List (List ℕ)) → foldl after_chunk s xss ≡ after_all s (each entry_in xss)
unfolding after_chunk after_all
state_each s [] = refl
state_each s (xs ∷ xss) = state_each (after_chunk s xs) xss ∙ sym (foldl-append next s (entry_in xs) (each entry_in xss))

module _ (d : Device) {xss : List (List ℕ)} (last : List ℕ) (all : AllRecords xss) (end : is_none (entry_in last) ≡ true) where
  records : each entry_in xss ≡ (entries_in (each (λ xs. xs) xss ++ last)).entries
  records =
      sym (
      ap (λ q. q.entries) (chunks_then last all) ∙ ap (λ es. each entry_in xss ++ es) (none_last last end) ∙ append-nil (each entry_in xss)
      )

  pub replays : emitted chunk_lines after_chunk (silent d) xss ≡ replayed d (entries_in (each (λ xs. xs) xss ++ last)).entries
  replays = lines_each (silent d) xss ∙ ap (lines_from (silent d)) records

  pub leaves : foldl after_chunk (silent d) xss ≡ after_all (silent d) (entries_in (each (λ xs. xs) xss ++ last)).entries
  leaves = state_each (silent d) xss ∙ ap (after_all (silent d)) records

-- ---- the program's chunks are as many as a 64-bit number counts

pub all_chunks : max_chunks + 1 ≡ 2 ^ 64
all_chunks = refl
