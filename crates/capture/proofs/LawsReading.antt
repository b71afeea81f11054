-- Laws of the record at the front of octets, case by case, and of the one at a place.
use mathlib.Core.Path.{◌≡◌, refl}
use mathlib.Core.Bool.{true, false}
use mathlib.Core.List.{List, ◌++◌}
use Prim.Native.Nat.{ℕ, ◌+◌, ◌≤◌, ◌<◌}
use native.Mathlib.Omega.{arith}
use borrow.Author.Tests.{ltb-false}
use lib.Dec.{eqb, ltb}
use lib.ListN.{length, drop, length-append, length-drop, get_or-append}
use lib.Seq.{take-append-le, drop-append-le}
use Rattle.std.proofs.Common.{rules}
use Rattle.octets.specs.LittleEndian.{le_at}
use Rattle.octets.proofs.LawsTests.{chosen}
use Rattle.capture.specs.Records.{head_size, is_in_range, Located}
use Rattle.capture.specs.Reading.{Report, one, no_record, has_mark, direction_in, length_in, record_in, read_front, placed, read_at}

module _ (xs : List ℕ) where
  pub front_end : length xs ≡ 0 → read_front xs ≡ no_record 0
  front_end h = search rules

  pub front_few : 0 < length xs → length xs < head_size → read_front xs ≡ no_record 22
  front_few some few = search rules

  module _ (head : head_size ≤ length xs) where
    pub front_mark : has_mark xs ≡ false → read_front xs ≡ no_record 21
    front_mark m = search rules

    pub front_range : has_mark xs ≡ true → is_in_range (direction_in xs) (length_in xs) ≡ false → read_front xs ≡ no_record 23
    front_range m r = search rules

    module _ (m : has_mark xs ≡ true) (r : is_in_range (direction_in xs) (length_in xs) ≡ true) where
      pub front_cut : length xs < head_size + length_in xs → read_front xs ≡ no_record 22
      front_cut l = search rules

      pub front_whole : head_size + length_in xs ≤ length xs → read_front xs ≡ one (record_in xs)
      front_whole l = search rules

-- ---- octets behind a head change nothing in it

module _ (xs ys : List ℕ) (head : head_size ≤ length xs) where
  mark_then : has_mark (xs ++ ys) ≡ has_mark xs
  mark_then = search (rules, get_or-append xs ys 0 0 (search rules), get_or-append xs ys 0 1 (search rules))

  direction_then : direction_in (xs ++ ys) ≡ direction_in xs
  direction_then = get_or-append xs ys 0 2 (omega arith)

  pub length_then : length_in (xs ++ ys) ≡ length_in xs
  unfolding le_at
  length_then = search (rules, drop-append-le 3 xs ys (search rules), take-append-le 2 (drop 3 xs) ys (search (rules, length-drop 3 xs)))

-- ---- the record at a place

pub read_from_lem : (log : List ℕ) (at : ℕ) → at ≤ length log → read_at log at ≡ placed at (read_front (drop at log))
read_from_lem log at h = search rules

-- ---- by cases on what stands at the front

-- what is known where a record was found
pub record Front (xs : List ℕ) (r : Located) : Type 0 where
  pub is : r ≡ record_in xs
  pub head : head_size ≤ length xs
  pub mark : has_mark xs ≡ true
  pub range : is_in_range (direction_in xs) (length_in xs) ≡ true
  pub inside : head_size + length_in xs ≤ length xs

pub data FrontCase (xs : List ℕ) : Report → Type 0 where
  nothing : (n : ℕ) → FrontCase xs (no_record n)
  found : Front xs (record_in xs) → FrontCase xs (one (record_in xs))

pub front_case : (xs : List ℕ) → FrontCase xs (read_front xs)
front_case xs =
    chosen (FrontCase xs) (eqb (length xs) 0) (λ _. nothing 0)
    (λ _. chosen (FrontCase xs) (ltb (length xs) head_size) (λ _. nothing 22)
    (λ h. chosen (FrontCase xs) (has_mark xs)
    (λ m. chosen (FrontCase xs) (is_in_range (direction_in xs) (length_in xs))
    (λ r. chosen (FrontCase xs) (ltb (length xs) (head_size + length_in xs)) (λ _. nothing 22)
    (λ l. found (record { is = refl; head = ltb-false (length xs) head_size h; mark = m; range = r; inside = ltb-false (length xs) (head_size + length_in xs) l })))
    (λ _. nothing 23))
    (λ _. nothing 21)))

-- a record at the front is there whatever stands behind it
pub front_then : {xs : List ℕ} {r : Located} (ys : List ℕ) → Front xs r → Front (xs ++ ys) r
front_then {xs} ys f =
    let direction = direction_then xs ys f.head in
    let len = length_then xs ys f.head in
    record {
      is = search (rules, f.is, direction, len);
      head = search (rules, f.head, length-append xs ys);
      mark = search (rules, mark_then xs ys f.head, f.mark);
      range = search (rules, direction, len, f.range);
      inside = search (rules, f.inside, len, length-append xs ys);
    }

pub front_is : {xs : List ℕ} {r : Located} → Front xs r → read_front xs ≡ one r
front_is {xs} f = search (rules, f.is, front_whole xs f.head f.mark f.range f.inside)
