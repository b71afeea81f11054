-- PROMISE: the line of octets is a text that spells them, and the end of the line. So what is printed is read back.
use mathlib.Core.Path.{◌≡◌, refl}
use mathlib.Core.List.{List, [], ◌∷◌, ◌++◌}
use Prim.Native.Nat.{ℕ, suc, ◌/◌, ◌%◌, ◌<◌, ◌≤◌}
use native.Mathlib.Omega.{arith}
use lib.ListN.{length, drop, get_or}
use Rattle.std.specs.Prelude.{Some}
use Rattle.std.proofs.Common.{rules}
use Rattle.octets.specs.Octets.{Octets as AreOctets}
use Rattle.lines.specs.declared.reader.HexLine.TheVariants.{Octets}
use Rattle.lines.specs.Line.{digits, separator, line_of}
use Rattle.lines.specs.Spelling.{space, line_end, lower, Two, Spells, last, spaced}
use Rattle.lines.specs.Reader.{outcome, read_line}
use Rattle.lines.proofs.ReadsSpelled.{reads_spelled}

-- a line without its end
pub record Printed (xs : List ℕ) : Type 0 where
  pub text : List ℕ
  pub spells : Spells text xs
  pub whole : line_of xs ≡ text ++ line_end ∷ []

two_digits : (x : ℕ) → x < 256 → Two (get_or digits (x / 16) 0) (get_or digits (x % 16) 0) x
two_digits x h = record { high = lower (omega arith) refl; low = lower (omega arith) refl }

between : (n : ℕ) → separator (suc n) ≡ space
between n = search rules

pub line_back : (x : ℕ) (xs : List ℕ) → AreOctets (x ∷ xs) → Printed (x ∷ xs)
unfolding line_of
line_back x [] o =
    record { text = get_or digits (x / 16) 0 ∷ get_or digits (x % 16) 0 ∷ []; spells = last (two_digits x (o 0)); whole = refl }
line_back x (y ∷ ys) o =
    let rest = line_back y ys (λ k. o (suc k)) in
    let high = get_or digits (x / 16) 0 in
    let low = get_or digits (x % 16) 0 in
    record {
      text = high ∷ low ∷ space ∷ rest.text;
      spells = spaced (two_digits x (o 0)) rest.spells;
      whole = search (rules, between (length ys), rest.whole);
    }

pub line_read : (x : ℕ) (xs : List ℕ) (o : AreOctets (x ∷ xs)) (out : List ℕ) → length (x ∷ xs) ≤ length out
    → read_line (line_back x xs o).text out ≡ outcome (Some (Octets (length (x ∷ xs)))) ((x ∷ xs) ++ drop (length (x ∷ xs)) out)
line_read x xs o out room = reads_spelled (line_back x xs o).spells out room
