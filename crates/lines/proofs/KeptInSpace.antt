-- PROMISE: the octets that a reader tells to be kept lie in the space that it was lent, whatever the text and in whatever pieces.
use mathlib.Core.Path.{◌≡◌, refl, ◌∙◌}
use mathlib.Core.List.{List, [], ◌∷◌}
use Prim.Native.Nat.{ℕ, ◌≤◌}
use native.Mathlib.Omega.{arith}
use lib.Dec.{eqb}
use lib.ListN.{length}
use Rattle.std.proofs.Common.{rules}
use Rattle.std.specs.Prelude.{Option, Some, None}
use Rattle.octets.proofs.LawsTests.{chosen}
use Rattle.lines.specs.declared.reader.Stage.{Stage}
use Rattle.lines.specs.declared.reader.Stage.TheVariants.{Start, Half, Octet, Space, Wrong}
use Rattle.lines.specs.declared.reader.LineReader.{LineReader}
use Rattle.lines.specs.declared.reader.HexLine.{HexLine}
use Rattle.lines.specs.declared.reader.HexLine.TheVariants.{Octets, More}
use Rattle.lines.specs.Spelling.{space}
use Rattle.lines.specs.Reader.{digit_of, fresh, at, Keeping, keeping, with_octet, half_of, completed, first, step_from, step, reading, good_line, answer_at, answer_of, read_line}

abbrev pub InSpace : Keeping → Type 0
InSpace h = h.reader.count ≤ length h.out

-- what a letter may change
record Goes (h g : Keeping) : Type 0 where
  size : length g.out ≡ length h.out
  inside : InSpace h → InSpace g

moved : (h : Keeping) (p : Stage) → Goes h (keeping (at h.reader p) h.out)
moved h p = record { size = refl; inside = λ i. i }

kept_goes : (h : Keeping) (x : ℕ) → Goes h (with_octet h x)
kept_goes h x = record { size = search rules; inside = λ i. search rules }

first_goes : (h : Keeping) (c : ℕ) → Goes h (keeping (first h.reader c) h.out)
first_goes h c = moved h (half_of (digit_of c))

completed_goes : (h : Keeping) (v : ℕ) (d : Option ℕ) → Goes h (completed h v d)
completed_goes h v (Some low) = kept_goes h _
completed_goes h v None = moved h Wrong

goes : (p : Stage) (h : Keeping) (c : ℕ) → Goes h (step_from p h c)
goes Start h c = first_goes h c
goes (Half v) h c = completed_goes h v (digit_of c)
goes Octet h c = chosen (λ r. Goes h (keeping r h.out)) (eqb c space) (λ t. moved h Space) (λ t. first_goes h c)
goes Space h c = first_goes h c
goes Wrong h c = record { size = refl; inside = λ i. i }

pub same_size : (text : List ℕ) (h : Keeping) → length (reading h text).out ≡ length h.out
same_size [] h = refl
same_size (c ∷ text) h = same_size text (step h c) ∙ (goes h.reader.stage h c).size

pub kept_in_space : (text : List ℕ) (h : Keeping) → InSpace h → InSpace (reading h text)
kept_in_space [] h i = i
kept_in_space (c ∷ text) h i = kept_in_space text (step h c) ((goes h.reader.stage h c).inside i)

-- how many an answer tells to be kept
abbrev pub count_of : Option HexLine → ℕ
count_of (Some (Octets n)) = n
count_of (Some (More n)) = n
count_of None = 0

answered : (r : LineReader) → count_of (Some (good_line r)) ≡ r.count
answered r = search rules

counted : (p : Stage) (r : LineReader) → count_of (answer_at p r) ≤ r.count
counted Start r = search rules
counted (Half v) r = search rules
counted Octet r = search rules
counted Space r = search rules
counted Wrong r = search rules

pub finished_in_space : (h : Keeping) → InSpace h → count_of (answer_of h.reader) ≤ length h.out
finished_in_space h i = omega (arith, counted h.reader.stage h.reader)

pub line_in_space : (text out : List ℕ) → count_of (read_line text out).answer ≤ length out
line_in_space text out =
    let h = reading (keeping fresh out) text in
    omega (arith, finished_in_space h (kept_in_space text (keeping fresh out) (omega arith)), same_size text (keeping fresh out))
