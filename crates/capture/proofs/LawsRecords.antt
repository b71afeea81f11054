-- Laws of records: how long they are, and what is in range.
use mathlib.Core.Path.{◌≡◌, ap, ◌∙◌}
use mathlib.Core.Bool.{true}
use mathlib.Core.List.{List, ◌++◌, append_assoc}
use Prim.Native.Nat.{ℕ, ◌+◌, ◌*◌, ◌≤◌}
use native.Mathlib.Omega.{arith}
use borrow.Author.Tests.{le-leb, leb-true}
use lib.Dec.{leb}
use lib.ListN.{length, get_or, take, length-append}
use lib.Seq.{take_at}
use Rattle.octets.specs.LittleEndian.{le, le_at, le_octets}
use Rattle.octets.proofs.LawsLittleEndian.{length_le}
use Rattle.octets.proofs.LawsRanges.{inside, inside_told}
use Rattle.octets.proofs.LittleEndianRoundTrip.{number_back}
use Rattle.octets.proofs.LawsTests.{both, both_told}
use Rattle.std.proofs.lemmas.List.{drop_more}
use Rattle.capture.specs.Records.{Entry, entry, record_of, head_size, is_in_range, Good}
use Rattle.capture.specs.Reading.{length_in}

pub record_length : (e : Entry) → length (record_of e) ≡ head_size + length e.body
record_length e = omega (arith, length-append (le_octets 2 (length e.body)) e.body, length_le 2 (length e.body))

-- ---- what is in range: a direction of 0 or 1, and a length of 2 to 1,300

module _ (direction n : ℕ) where
  pub range_told : is_in_range direction n ≡ true → (direction ≤ 1) × (2 ≤ n) × (n ≤ 1300)
  range_told t =
      let b = both_told {a = leb direction 1} t in
      let size = inside_told 2 1300 n b.1 in
      (leb-true direction 1 b.0, size.0, size.1)

  pub range_holds : direction ≤ 1 → 2 ≤ n → n ≤ 1300 → is_in_range direction n ≡ true
  range_holds d least most = both _ _ (le-leb direction 1 d) (inside 2 1300 n least most)

pub range_good : (direction : ℕ) (body : List ℕ) → is_in_range direction (length body) ≡ true → Good (entry direction body)
range_good direction body t = let r = range_told direction (length body) t in record { direction = r.0; least = r.1; most = r.2 }

pub good_range : {e : Entry} → Good e → is_in_range e.direction (length e.body) ≡ true
good_range {e} g = range_holds e.direction (length e.body) g.direction g.least g.most

-- the length in a record's head
pub length_back : (e : Entry) (rest : List ℕ) → Good e → length_in (record_of e ++ rest) ≡ length e.body
unfolding le_at
length_back e rest g =
    let n : ℕ = length e.body in
    ap le (ap (take 2) (append_assoc (le_octets 2 n) e.body rest) ∙ take_at (le_octets 2 n) (e.body ++ rest) 2 (length_le 2 n))
    ∙ number_back 2 n (omega (arith, g.most))

-- the two octets of the length
pub length_told : (xs : List ℕ) → head_size ≤ length xs → length_in xs ≡ get_or xs 3 0 + get_or xs 4 0 * 256
unfolding le_at le
length_told xs h = rw (drop_more xs 3 0 (omega arith), drop_more xs 4 0 (omega arith)) (omega arith)
