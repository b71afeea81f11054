-- PROMISE: a line of the script is played by its text. Where no line has begun, the octets of a text without an end of line in it, and then
-- the end of the line, play the text's event: what is to be printed is what the event says on the table, the table is the one that it
-- leaves, and the next line finds none begun.
use mathlib.Core.Logic.{◌≢◌}
use mathlib.Core.Path.{◌≡◌, refl, ap, ◌∙◌}
use mathlib.Core.List.{List, [], ◌∷◌, ◌++◌, foldl, foldl-append}
use Prim.Native.Nat.{ℕ, suc}
use borrow.Author.Tests.{ne_eqb}
use lib.ListN.{get_or}
use Rattle.transactions.specs.Table.{Numbers}
use Rattle.transaction_script.specs.Line.{coming, fresh, taking, event_in, body_in}
use Rattle.transaction_script.specs.Play.{playing}
use Rattle.transaction_script.specs.Run.{State, ends, after_line, after_octet, after_octets}
use Rattle.transaction_script.proofs.EventTold.{event_told}

abbrev pub OneLine : List ℕ → Type 0
OneLine text = (k : ℕ) → get_or text k 0 ≢ 0x0a

-- no line has begun
abbrev pub between : Numbers → List ℕ → State
between d space = record { numbers = d; coming = coming fresh space }

taken : (text : List ℕ) (s : State) → OneLine text → after_octets s text ≡ record { numbers = s.numbers; coming = foldl taking s.coming text }
unfolding after_octets after_octet
taken [] s one = refl
taken (c ∷ text) s one =
    ap (λ z. foldl after_octet z text) (rw (ne_eqb c 0x0a (one 0)))
    ∙ taken text (record { numbers = s.numbers; coming = taking s.coming c }) (λ k. one (suc k))

module _ (d : Numbers) (text space : List ℕ) (one : OneLine text) where
  pub line_played : ends (after_octets (between d space) text) ≡ playing d (event_in text space) (body_in text space)
  unfolding ends
  line_played =
      let told = event_told text space in
      ap ends (taken text (between d space) one) ∙ ap (λ e. playing d e (foldl taking (coming fresh space) text).space) told.0
      ∙ ap (playing d (event_in text space)) told.1

  pub line_left : after_octets (between d space) (text ++ (0x0a ∷ []))
      ≡ between (playing d (event_in text space) (body_in text space)).numbers (body_in text space)
  unfolding after_octets after_octet after_line
  line_left =
      foldl-append after_octet (between d space) text (0x0a ∷ [])
      ∙ λ i. between (line_played i).numbers (bodies i)
    where
      bodies : (after_octets (between d space) text).coming.space ≡ body_in text space
      bodies = ap (λ z. z.coming.space) (taken text (between d space) one) ∙ (event_told text space).1
