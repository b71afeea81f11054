-- An octet more is taken, and what is kept of the line has room then too.
use mathlib.Core.Path.{sym, ap, subst, ◌∙◌}
use mathlib.Core.List.{foldl}
use Prim.Native.Nat.{ℕ, ◌+◌, ◌≤◌}
use native.Mathlib.Omega.{arith}
use borrow.Author.Tests.{ltb-true}
use lib.Dec.{eqb, ltb}
use lib.ListN.{drop}
use Rattle.octets.proofs.LawsTests.{chosen}
use Rattle.transaction_script.proofs.LawsFolding.{take_next}
use Rattle.transaction_script.specs.Line.{max_text, len_after, taking}
use Rattle.transaction_script.specs.Run.{State, state_of, line_end, after_line, after_octet}
use Rattle.transaction_script.proofs.run.Script.take_chunk.Goals as goal

-- what is kept of the line that is coming in has room
abbrev Room : State → Type 0
Room s = s.coming.line.len ≤ max_text

still_room : (s : State) (c : ℕ) → Room s → Room (after_octet s c)
unfolding after_octet after_line taking len_after
still_room s c h =
    let len = s.coming.line.len in
    chosen Room (eqb c line_end) (λ t. omega arith)
    (λ t. chosen (λ (n : ℕ). n ≤ max_text) (ltb len max_text) (λ u. omega (arith, ltb-true len max_text u)) (λ u. h))

pub returns-in_err-take_octet-clause-room : goal.returns-in_err-take_octet-clause-room
returns-in_err-take_octet-clause-room c =
    let w = c.loop-octet in subst Room (sym c.take_octet.ensures) (still_room (state_of w.self w.body) _ w.invariant.room)

pub loop-octet-preserved : goal.loop-octet-preserved
loop-octet-preserved c =
    let w = c.loop-octet in
    let chunk = c.args.chunk.now in
    record {
      room = subst Room (sym c.take_octet.ensures) (still_room (state_of w.self w.body) _ w.invariant.room);
      left =
          ap (λ s. foldl after_octet s (drop (w.octet-index + 1) chunk)) c.take_octet.ensures
          ∙ take_next after_octet (state_of w.self w.body) chunk w.octet-index (omega arith)
          ∙ w.invariant.left;
    }
