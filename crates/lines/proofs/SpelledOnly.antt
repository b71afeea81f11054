-- PROMISE: only a text that spells octets is read as octets; every other one is answered `None`.
use mathlib.Core.Bool.{cond}
use mathlib.Core.Path.{◌≡◌, refl, subst}
use mathlib.Core.List.{List, [], ◌∷◌}
use Prim.Native.Nat.{ℕ, ◌+◌, ◌*◌, ◌/◌, ◌%◌, ◌<◌}
use native.Mathlib.Omega.{arith}
use native.Mathlib.Nat.{mod-eq_of_lt}
use borrow.Author.Tests.{eqb-true}
use lib.Dec.{eqb}
use Rattle.std.specs.Prelude.{Option, Some, None}
use Rattle.octets.proofs.LawsTests.{by_test, impossible}
use Rattle.lines.specs.declared.reader.Stage.{Stage}
use Rattle.lines.specs.declared.reader.Stage.TheVariants.{Start, Half, Octet, Space, Wrong}
use Rattle.lines.specs.declared.reader.LineReader.{LineReader}
use Rattle.lines.specs.declared.reader.HexLine.{HexLine}
use Rattle.lines.specs.Spelling.{space, Digit, Two, Spells, none, last, joined, spaced, Spelled}
use Rattle.lines.specs.Reader.{digit_of, fresh, at, Keeping, keeping, with_octet, half_of, completed, first, second, step_from, reading, answer_at, answer_of, read_line}
use Rattle.lines.proofs.LawsSpelling.{digit, digit_less}
use Rattle.lines.proofs.LawsKeeping.{kept_stage}

-- a text that spells an octet at least
record SomeOctets (text : List ℕ) : Type 0 where
  octet : ℕ
  octets : List ℕ
  spells : Spells text (octet ∷ octets)

-- what is left of a line, by the stage that is reached: with what stands before it, it spells octets
Rest : Stage → List ℕ → Type 0
Rest Start text = Spelled text
Rest (Half v) text = (h : ℕ) → Digit h (v % 16) → SomeOctets (h ∷ text)
Rest Octet text = (h l x : ℕ) → Two h l x → SomeOctets (h ∷ l ∷ text)
Rest Space text = SomeOctets text
Rest Wrong text = ⊥

abbrev Taken : Keeping → List ℕ → Type 0
Taken h text = answer_of (reading h text).reader ≡ None → ⊥

spelled : {text : List ℕ} → SomeOctets text → Spelled text
spelled s = record { octets = s.octet ∷ s.octets; spells = s.spells }

-- the end of a line
ends : (p : Stage) (r : LineReader) → (answer_at p r ≡ None → ⊥) → Rest p []
unfolding Rest
ends Start r taken = record { octets = []; spells = none }
ends (Half v) r taken = absurd (taken refl)
ends Octet r taken = λ h l x t. record { octet = x; octets = []; spells = last t }
ends Space r taken = absurd (taken refl)
ends Wrong r taken = absurd (taken refl)

-- one letter, where what follows it is known
module _ (c : ℕ) (text : List ℕ) (h : Keeping) (follows : (g : Keeping) → Taken g text → Rest g.reader.stage text) where
  starts : Taken (keeping (first h.reader c) h.out) text → SomeOctets (c ∷ text)
  unfolding Rest
  starts = by_digit (digit_of c) refl
    where
      by_digit : (d : Option ℕ) → digit_of c ≡ d → Taken (keeping (at h.reader (half_of d)) h.out) text → SomeOctets (c ∷ text)
      by_digit (Some v) e taken =
          let d = digit e in
          follows (keeping (at h.reader (Half v)) h.out) taken c (rw (mod-eq_of_lt (digit_less d)) d)
      by_digit None e taken = absurd (follows (keeping (at h.reader Wrong) h.out) taken)

  completes : (v : ℕ) → Taken (second h v c) text → (a : ℕ) → Digit a (v % 16) → SomeOctets (a ∷ c ∷ text)
  unfolding Rest
  completes v = by_digit (digit_of c) refl
    where
      by_digit : (d : Option ℕ) → digit_of c ≡ d → Taken (completed h v d) text → (a : ℕ) → Digit a (v % 16) → SomeOctets (a ∷ c ∷ text)
      by_digit (Some w) e taken a d =
          let x = v % 16 * 16 + w in
          let less : w < 16 = digit_less (digit e) in
          let high : x / 16 ≡ v % 16 = omega arith in
          let low : x % 16 ≡ w = omega arith in
          subst (λ p. Rest p text) (kept_stage h x) (follows (with_octet h x) taken) a c x
          (record { high = rw high d; low = rw low (digit e) })
      by_digit None e taken a d = absurd (follows (keeping (at h.reader Wrong) h.out) taken)

  separated : Taken (keeping (cond (eqb c space) (at h.reader Space) (first h.reader c)) h.out) text → (a b x : ℕ) → Two a b x → SomeOctets (a ∷ b ∷ c ∷ text)
  unfolding Rest
  separated =
      by_test (eqb c space)
      (λ t. simp t
      (λ taken a b x w.
      let s = follows (keeping (at h.reader Space) h.out) taken in
      rw (eqb-true c space t) (record { octet = x; octets = s.octet ∷ s.octets; spells = spaced w s.spells })))
      (λ t. simp t (λ taken a b x w. let s = starts taken in record { octet = x; octets = s.octet ∷ s.octets; spells = joined w s.spells }))

  goes : (p : Stage) → h.reader.stage ≡ p → Taken (step_from p h c) text → Rest p (c ∷ text)
  unfolding Rest
  goes Start e taken = spelled (starts taken)
  goes (Half v) e taken = completes v taken
  goes Octet e taken = separated taken
  goes Space e taken = starts taken
  goes Wrong e taken = subst (λ p. Rest p text) e (follows h taken)

rest : (text : List ℕ) (h : Keeping) → Taken h text → Rest h.reader.stage text
rest [] h taken = ends h.reader.stage h.reader taken
rest (c ∷ text) h taken = goes c text h (rest text) h.reader.stage refl taken

pub spelled_only : (text out : List ℕ) → ((read_line text out).answer ≡ None → ⊥) → Spelled text
unfolding Rest
spelled_only text out taken = rest text (keeping fresh out) taken

-- so a text that spells none is answered `None`
refused : (text : List ℕ) (a : Option HexLine) → ((a ≡ None → ⊥) → Spelled text) → (Spelled text → ⊥) → a ≡ None
refused text (Some l) told not = absurd (not (told (λ e. impossible cc)))
refused text None told not = refl

pub no_octets : (text out : List ℕ) → (Spelled text → ⊥) → (read_line text out).answer ≡ None
no_octets text out not = refused text (read_line text out).answer (spelled_only text out) not
