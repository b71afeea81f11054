-- Laws of chunks: the record at the front of one, and what is to come behind a head.
use types.Run.{OneOf, miss}
use denote.Enum.Declared.{tag_of}
use Rattle.std.specs.Prelude.{Option, Some, None, Result, Ok, Err}
use Rattle.std.specs.Option.{option_flatten}
use Rattle.std.specs.Result.{result_ok}
use Rattle.capture.specs.declared.records.Record.{Record}
use Rattle.capture.specs.declared.reading.ReadError.{ReadError}
use Rattle.capture.specs.declared.reading.ReadError.TheVariants.{BadMark, CutOff, OutOfRange}
use Rattle.capture.specs.contracts.reading.ReadError.{the_type as error_type}
use mathlib.Core.Bool.{true, false, ◌&&◌}
use mathlib.Core.Path.{◌≡◌, refl, sym, ap, ◌∙◌}
use mathlib.Core.List.{List, [], ◌∷◌, ◌++◌}
use Prim.Native.Nat.{ℕ, ◌+◌, ◌≤◌}
use native.Mathlib.Omega.{arith}
use borrow.Author.Tests.{eq-eqb, ne_eqb, eqb-true, eqb-false}
use lib.Dec.{eqb}
use lib.ListN.{length, take, drop, length-take, take-append-drop}
use lib.Seq.{take-take, take_at, length-take-le}
use Rattle.octets.specs.Body.{max_body}
use Rattle.octets.proofs.LawsTests.{by_test, chosen, both_told, impossible}
use Rattle.capture.specs.Records.{head_size, is_in_range, Located, located}
use Rattle.capture.specs.Reading.{number_of, Report, one, no_record, reported, has_mark, direction_in, length_in, read_front, read_at}
use Rattle.capture.specs.Logs.{entry_of}
use Rattle.capture.proofs.LawsRecords.{range_told}
use Rattle.capture.proofs.LawsReading.{front_mark, front_range, length_then, Front}
use Rattle.capture.proofs.OneRecord.{at_front}
use Rattle.replay.specs.Chunks.{body_left, IsChunk, entry_in}

-- ---- a chunk that was read

module _ (xs : List ℕ) where
  pub there : {r : Located} → read_at xs 0 ≡ one r → entry_in xs ≡ entry_of xs r ∷ []
  unfolding entry_in
  there e = rw (sym (at_front xs) ∙ e)

  -- what the code makes of an answer: the record, or none
  pub none_there : (a : Result (Option Record) ReadError) → reported a ≡ read_at xs 0 → option_flatten (result_ok a) ≡ None → entry_in xs ≡ []
  unfolding entry_in
  none_there (Ok None) e f = rw (sym (at_front xs) ∙ sym e)
  none_there (Ok (Some r)) e f = cc
  none_there (Err x) e f = rw (sym (at_front xs) ∙ sym e)

  pub one_there : (a : Result (Option Record) ReadError) {r : Record} → reported a ≡ read_at xs 0 → option_flatten (result_ok a) ≡ Some r
      → read_at xs 0 ≡ one (located r)
  one_there (Ok None) e f = cc
  one_there (Ok (Some q)) {r} e f = let same : q ≡ r = cc in sym e ∙ ap (λ x. one (located x)) same
  one_there (Err x) e f = cc

-- ---- what is to come behind a head

module _ (xs : List ℕ) where
  pub left_no_head : (length xs ≡ head_size → ⊥) → body_left xs ≡ 0
  unfolding body_left
  left_no_head h = rw (ne_eqb (length xs) head_size h)

  -- by another number none
  left_none : {n : ℕ} → (read_front xs).number ≡ n → eqb n 22 ≡ false → body_left xs ≡ 0
  unfolding body_left
  left_none e o = by_test (eqb (length xs) head_size) (λ t. rw (t, e, o)) (λ t. rw t)

  numbered : {q : Report} → q ≡ read_at xs 0 → (read_front xs).number ≡ q.number
  numbered e = ap (λ q. q.number) (sym (at_front xs) ∙ sym e)

  pub left_other : (e : ReadError) → no_record (number_of e) ≡ read_at xs 0 → OneOf (0 ∷ 2 ∷ []) (tag_of error_type e) → body_left xs ≡ 0
  left_other BadMark e o = left_none (numbered e) refl
  left_other CutOff e o = absurd (miss (0 ∷ 2 ∷ []) 1 tt o)
  left_other OutOfRange e o = left_none (numbered e) refl

  pub left_found : (r : Option Record) → reported (Ok r) ≡ read_at xs 0 → body_left xs ≡ 0
  left_found None e = left_none (numbered e) refl
  left_found (Some r) e = left_none (numbered e) refl

  module _ (five : length xs ≡ head_size) where
    pub left_body : read_at xs 0 ≡ no_record 22 → body_left xs ≡ length_in xs
    unfolding body_left
    left_body e = rw (eq-eqb (length xs) head_size five, numbered (sym e))

    -- a head that is cut off only behind itself is a good one
    good_head : eqb (read_front xs).number 22 ≡ true → is_in_range (direction_in xs) (length_in xs) ≡ true
    good_head t =
        by_test (has_mark xs)
        (λ m. by_test (is_in_range (direction_in xs) (length_in xs)) (λ r. r)
        (λ r. impossible (cc (rw (front_range xs (omega arith) m r) at t))))
        (λ m. impossible (cc (rw (front_mark xs (omega arith) m) at t)))

  pub left_most : body_left xs ≤ max_body
  unfolding body_left
  left_most =
      chosen (λ n. n ≤ max_body) (eqb (length xs) head_size && eqb (read_front xs).number 22)
      (λ t. let b = both_told t in
      (range_told (direction_in xs) (length_in xs) (good_head (eqb-true (length xs) head_size b.0) b.1)).2)
      (λ _. omega arith)

-- ---- what two reads leave: h octets, and behind them k

pub read_is_chunk : (xs ys : List ℕ) (h k : ℕ) → h ≤ head_size → h ≤ length xs → k ≤ body_left (take h xs) → IsChunk (take (h + k) (take h xs ++ ys))
unfolding IsChunk
read_is_chunk xs ys h k few room more =
    by_test (eqb h head_size)
    (λ t. let five : h ≡ head_size = eqb-true h head_size t in
    let front : take head_size (take (h + k) (take h xs ++ ys)) ≡ take h xs =
    take-take head_size (h + k) (take h xs ++ ys) (omega arith) ∙ take_at (take h xs) ys head_size (length-take-le h xs room ∙ five) in
    rw front (omega (arith, length-take (h + k) (take h xs ++ ys))))
    (λ t. let nothing : body_left (take h xs) ≡ 0 = left_no_head (take h xs) (λ e. eqb-false h head_size t (sym (length-take-le h xs room) ∙ e)) in
    omega (arith, length-take (h + k) (take h xs ++ ys)))

-- ---- a chunk that is a record is nothing else

pub left_length : (xs : List ℕ) → body_left xs ≤ length_in xs
unfolding body_left
left_length xs =
    chosen (λ n. n ≤ length_in xs) (eqb (length xs) head_size && eqb (read_front xs).number 22) (λ _. omega arith) (λ _. omega arith)

pub chunk_size : (xs : List ℕ) {r : Located} → IsChunk xs → Front xs r → length xs ≡ r.next
unfolding IsChunk
chunk_size xs p f =
    let head : List ℕ = take head_size xs in
    let five : length head ≡ head_size = length-take-le head_size xs f.head in
    let same : length_in xs ≡ length_in head =
    ap length_in (sym (take-append-drop head_size xs)) ∙ length_then head (drop head_size xs) (omega arith) in
    rw f.is (omega (arith, p, left_length head, same, f.inside))
