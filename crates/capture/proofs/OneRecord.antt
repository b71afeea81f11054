-- PROMISE: whatever is read as a record is exactly what is written for it, so that a record has one spelling; it lies in the log and goes on by
-- seven octets at least. At a place not past the end the answer depends on the octets from it on alone, its places counted from there; and on
-- what stands behind a record that is found there it does not depend.
use mathlib.Core.Path.{◌≡◌, refl, sym, ap}
use mathlib.Core.List.{List, [], ◌∷◌, ◌++◌, map}
use Prim.Native.Nat.{ℕ, ◌+◌, ◌-◌, ◌≤◌}
use native.Mathlib.Omega.{arith}
use native.Mathlib.Nat.{zero-add}
use borrow.Author.Tests.{ltb-false}
use lib.Dec.{ltb}
use lib.ListN.{length, get_or, take, drop, length-append, length-drop}
use lib.Seq.{take-add, take-append-le, drop-append-le, drop-drop}
use Rattle.std.proofs.Common.{rules}
use Rattle.octets.specs.Octets.{Octets}
use Rattle.octets.specs.LittleEndian.{le_at, le_octets}
use Rattle.octets.proofs.LawsLists.{octets_drop, octets_take}
use Rattle.octets.proofs.LawsTests.{by_test, impossible}
use Rattle.octets.proofs.LittleEndianRoundTrip.{octets_back}
use Rattle.capture.specs.Records.{entry, record_of, Good, Located}
use Rattle.capture.specs.Reading.{Report, one, direction_in, length_in, record_in, read_front, shifted, placed, read_at}
use Rattle.capture.specs.Logs.{entry_of}
use Rattle.capture.proofs.LawsRecords.{range_good}
use Rattle.capture.proofs.LawsReading.{FrontCase, nothing, found, front_case, Front, read_from_lem, front_then, front_is}

-- ---- at the front

-- the five octets before a body
head_octets : (xs : List ℕ) → 5 ≤ length xs → take 5 xs ≡ get_or xs 0 0 ∷ get_or xs 1 0 ∷ get_or xs 2 0 ∷ take 2 (drop 3 xs)
head_octets [] h = absurd (omega arith)
head_octets (x ∷ []) h = absurd (omega arith)
head_octets (x ∷ y ∷ []) h = absurd (omega arith)
head_octets (x ∷ y ∷ z ∷ xs) h = refl

module _ (xs : List ℕ) {r : Located} (f : Front xs r) where
  body_length : length (take (length_in xs) (drop 5 xs)) ≡ length_in xs
  body_length = search (rules, f.inside, length-drop 5 xs)

  pub front_good : Good (entry (direction_in xs) (take (length_in xs) (drop 5 xs)))
  front_good = range_good (direction_in xs) (take (length_in xs) (drop 5 xs)) (rw body_length f.range)

  marks : (get_or xs 0 0 ≡ 0x53) × (get_or xs 1 0 ≡ 0x50)
  marks = search (rules, f.mark)

  -- the two octets of the length are those that are written for it
  length_octets : Octets xs → le_octets 2 (length_in xs) ≡ take 2 (drop 3 xs)
  unfolding le_at
  length_octets o =
      let two : length (take 2 (drop 3 xs)) ≡ 2 = search (rules, f.head, length-drop 3 xs) in
      search (rules, two, octets_back (take 2 (drop 3 xs)) (octets_take 2 (drop 3 xs) (octets_drop 3 xs o)))

  pub front_octets : Octets xs → take (5 + length_in xs) xs ≡ record_of (entry (direction_in xs) (take (length_in xs) (drop 5 xs)))
  front_octets o = search (rules, take-add 5 (length_in xs) xs, head_octets xs f.head, body_length, length_octets o, marks.0, marks.1)

-- ---- at a place

shifted_none : (rs : List Located) → map (shifted 0) rs ≡ rs
shifted_none [] = refl
shifted_none (r ∷ rs) = search (rules, shifted_none rs, zero-add r.start, zero-add r.next)

pub at_front : (xs : List ℕ) → read_at xs 0 ≡ read_front xs
at_front xs = search (rules, shifted_none (read_front xs).found)

pub from_place : (log : List ℕ) (at : ℕ) → at ≤ length log → read_at log at ≡ placed at (read_at (drop at log) 0)
from_place log at h = search (rules, read_from_lem log at h, at_front (drop at log))

-- what a reading of a record tells of the octets from the place on
pub record Spelled (log : List ℕ) (at : ℕ) (r : Located) : Type 0 where
  pub start : r.start ≡ at + 5
  pub next : r.next ≡ r.start + r.len
  pub inside : r.next ≤ length log
  pub goes_on : at + 7 ≤ r.next
  pub good : Good (entry_of log r)
  pub octets : take (r.next - at) (drop at log) ≡ record_of (entry_of log r)

module _ (log : List ℕ) (at : ℕ) where
  -- a record at a place is one at the front of what stands from there on
  pub front_at : {r : Located} → read_at log at ≡ one r
      → (at ≤ length log) × Front (drop at log) (record_in (drop at log)) × (r ≡ shifted at (record_in (drop at log)))
  front_at {r} e =
      by_test (ltb (length log) at)
      (λ t. impossible (cc (ap (λ q. q.found) (rw t at e))))
      (λ t. let f = by_case (front_case (drop at log)) (rw t at e) in (ltb-false (length log) at t, f.0, f.1))
    where
      by_case : {q : Report} → FrontCase (drop at log) q → placed at q ≡ one r
          → Front (drop at log) (record_in (drop at log)) × (r ≡ shifted at (record_in (drop at log)))
      by_case (nothing n) p = impossible (cc (ap (λ q. q.found) p))
      by_case (found f) p = (f, cc (ap (λ q. q.found) p))

  pub one_record : {r : Located} → Octets log → read_at log at ≡ one r → Spelled log at r
  unfolding entry_of
  one_record {r} o e =
      let f = front_at e in
      let xs : List ℕ = drop at log in
      let n : ℕ = length_in xs in
      let body : drop (at + 5) log ≡ drop 5 xs = sym (drop-drop 5 at log) in
      let size : length xs ≡ length log - at = length-drop at log in
      let part : at + (5 + n) - at ≡ 5 + n = omega arith in
      let g = front_good xs f.1 in
      let least : 2 ≤ n = rw (body_length xs f.1) at g.least in
      rw f.2
      (record {
        start = refl;
        next = omega arith;
        inside = omega (arith, f.1.inside);
        goes_on = omega arith;
        good = rw body g;
        octets = rw (part, body) (front_octets xs f.1 (octets_drop at log o));
      })

-- what stands behind a record changes nothing in it
pub record_then : (log more : List ℕ) (at : ℕ) {r : Located} → read_at log at ≡ one r
    → (read_at (log ++ more) at ≡ one r) × (entry_of (log ++ more) r ≡ entry_of log r)
unfolding entry_of
record_then log more at e =
    let f = front_at log at e in
    let xs : List ℕ = drop at log in
    let n : ℕ = length_in xs in
    let size : length xs ≡ length log - at = length-drop at log in
    let from : drop at (log ++ more) ≡ xs ++ more = drop-append-le at log more f.0 in
    let start : drop (at + 5) (log ++ more) ≡ drop (at + 5) log ++ more = drop-append-le (at + 5) log more (omega (arith, f.1.head)) in
    rw f.2 (
      search (rules, read_from_lem (log ++ more) at (omega (arith, length-append log more)), from, front_is (front_then more f.1)),
      search (rules, start, take-append-le n (drop (at + 5) log) more (omega (arith, f.1.inside, length-drop (at + 5) log))),
    )
