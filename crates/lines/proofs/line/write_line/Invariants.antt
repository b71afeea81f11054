-- The invariant: what is left, put at the place reached, gives the whole.
use Rattle.std.proofs.Common.{◌≡◌, ◌*◌, length, drop}
use Rattle.std.proofs.lemmas.List.Edits.{sets}
use Rattle.lines.specs.Line.{line_of}
use Rattle.lines.proofs.line.write_line.Given as goal

abbrev pub invariant-loop-i : goal.invariant-loop-i
invariant-loop-i l =
    (length l.out ≡ length l.initial.out) × (l.next ≡ 3 * l.i) × (sets l.out l.next (line_of (drop l.i l.body)) ≡ sets l.initial.out 0 (line_of l.body))
