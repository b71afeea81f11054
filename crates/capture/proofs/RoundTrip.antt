-- PROMISE: "Any list of good records written is read back the same."
use mathlib.Core.Path.{◌≡◌, refl}
use mathlib.Core.List.{List, [], ◌∷◌, ◌++◌, append_assoc, append-nil, foldl}
use Prim.Native.Nat.{ℕ, ◌+◌, ◌≤◌}
use native.Mathlib.Omega.{arith}
use lib.ListN.{length, take, drop, length-append}
use lib.Seq.{sets, length-sets, drop-drop, drop_at, take-append_seam, drop-append_seam}
use Rattle.std.proofs.Common.{rules}
use Rattle.octets.specs.Runs.{each}
use Rattle.octets.specs.LittleEndian.{le_octets}
use Rattle.octets.proofs.LawsLittleEndian.{length_le}
use Rattle.octets.proofs.LawsWriting.{sets_append, sets_front}
use Rattle.capture.specs.Records.{Entry, record_of, Good, Located}
use Rattle.capture.specs.Reading.{one, read_front, read_at}
use Rattle.capture.specs.Writing.{Report, put}
use Rattle.capture.specs.Logs.{log_of, AllGood, none, more, entry_of, entries_in, unwritten, write_next, numbers_from, write_all}
use Rattle.capture.proofs.LawsRecords.{record_length, good_range, length_back}
use Rattle.capture.proofs.LawsReading.{front_end, read_from_lem}
use Rattle.capture.proofs.Answers.{write_fits}
use Rattle.capture.proofs.LawsLogs.{entries_end, entries_next}

-- ---- one record, whatever stands behind it

-- where its parts stand, counted from its first octet
abbrev parts : Entry → Located
parts e = record { direction = e.direction; start = 5; len = length e.body; next = 5 + length e.body }

module _ (e : Entry) (rest : List ℕ) (g : Good e) where
  front_back : read_front (record_of e ++ rest) ≡ one (parts e)
  front_back = search (rules, length_back e rest g, good_range g, record_length e, length-append (record_of e) rest)

  held_back : entry_of (record_of e ++ rest) (parts e) ≡ e
  unfolding entry_of
  held_back = search (rules, append_assoc (le_octets 2 (length e.body)) e.body rest, drop_at (le_octets 2 (length e.body)) (e.body ++ rest) 2 (length_le 2 (length e.body)), take-append_seam e.body rest)

  rest_back : drop (5 + length e.body) (record_of e ++ rest) ≡ rest
  rest_back = drop_at (record_of e) rest _ (record_length e)

-- the same from a place on
abbrev pub standing : ℕ → Entry → Located
standing at e = record { direction = e.direction; start = at + 5; len = length e.body; next = at + (5 + length e.body) }

-- so wherever it stands in a log: the record is found there, and holds what was written
module _ (before after : List ℕ) (e : Entry) (g : Good e) where
  abbrev place : ℕ
  place = length before

  pub record_back : read_at (before ++ (record_of e ++ after)) place ≡ one (standing place e)
  record_back = search (rules, read_from_lem (before ++ (record_of e ++ after)) place (search (rules, length-append before (record_of e ++ after))), drop-append_seam before (record_of e ++ after), front_back e after g)

  pub entry_back : entry_of (before ++ (record_of e ++ after)) (standing place e) ≡ e
  unfolding entry_of
  entry_back = search (rules, drop-drop 5 place (before ++ (record_of e ++ after)), drop-append_seam before (record_of e ++ after), held_back e after g)

-- ---- a log

-- a log of good records, and octets behind it: these records, and those of the octets
pub log_then : {es : List Entry} (rest : List ℕ) → AllGood es
    → entries_in (log_of es ++ rest) ≡ record { entries = es ++ (entries_in rest).entries; fault = (entries_in rest).fault }
unfolding log_of
log_then rest none = refl
log_then rest (more {e} {es} g gs) =
    let xs : List ℕ = log_of es ++ rest in
    search (rules, append_assoc (record_of e) (log_of es) rest, entries_next (record_of e ++ xs) (front_back e xs g), held_back e xs g, rest_back e xs g, log_then rest gs)

pub log_back : {es : List Entry} → AllGood es → entries_in (log_of es) ≡ record { entries = es; fault = 0 }
log_back {es} g = search (rules, append-nil (log_of es), append-nil es, entries_end [] (front_end [] refl), log_then [] g)

-- so no two entries have one record
pub record_same : {e f : Entry} → Good e → Good f → record_of e ≡ record_of f → e ≡ f
unfolding log_of
record_same {e} {f} g h s = search (rules, s, log_back (more g none), log_back (more h none))

-- ---- a log that is written record by record

-- from any place, where it fits: each call answers 0 and goes on where the last one stopped
record WroteAll (w : Report) (es : List Entry) (xs : List ℕ) : Type 0 where
  numbers : numbers_from w es ≡ each (λ _. 0 ∷ []) es
  next : (foldl write_next w es).next ≡ w.next + length xs
  held : (foldl write_next w es).space ≡ sets w.space w.next xs

wrote_all : {es : List Entry} (w : Report) → AllGood es → w.next + length (log_of es) ≤ length w.space → WroteAll w es (log_of es)
unfolding log_of write_next
wrote_all w none room = record { numbers = refl; next = omega arith; held = refl }
wrote_all w (more {e} {es} g gs) room =
    let size = length-append (record_of e) (log_of es) in
    let v : Report = put w.space w.next (record_of e) in
    let first : write_next w e ≡ v =
    write_fits w.space w.next e.direction e.body (good_range g) (omega (arith, size, record_length e)) in
    let rest = wrote_all v gs (search (rules, size, length-sets w.space w.next (record_of e))) in
    record {
      numbers = search (rules, first, rest.numbers);
      next = search (rules, first, rest.next, size);
      held = search (rules, first, rest.held, sets_append (record_of e) w.space w.next (log_of es));
    }

-- what is written into a space, and what is read from its part up to the last place returned
pub record WrittenBack (space : List ℕ) (es : List Entry) : Type 0 where
  pub numbers : numbers_from (unwritten space) es ≡ each (λ _. 0 ∷ []) es
  pub next : (write_all space es).next ≡ length (log_of es)
  pub held : (write_all space es).space ≡ log_of es ++ drop (length (log_of es)) space
  pub read : entries_in (take (write_all space es).next (write_all space es).space) ≡ record { entries = es; fault = 0 }

pub written_back : (space : List ℕ) {es : List Entry} → AllGood es → length (log_of es) ≤ length space → WrittenBack space es
unfolding write_all
written_back space {es} g room =
    let w = wrote_all (unwritten space) g (search rules) in
    let held : (write_all space es).space ≡ log_of es ++ drop (length (log_of es)) space = search (rules, w.held, sets_front (log_of es) space room) in
    record {
      numbers = w.numbers;
      next = search (rules, w.next);
      held = held;
      read = search (rules, w.next, held, take-append_seam (log_of es) (drop (length (log_of es)) space), log_back g);
    }
