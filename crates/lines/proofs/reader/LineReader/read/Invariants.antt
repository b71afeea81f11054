-- The invariant: reading what is left from here is reading the whole.
use Rattle.std.proofs.Common.{◌≡◌, drop}
use Rattle.lines.specs.Reader.{keeping, reading}
use Rattle.lines.proofs.reader.LineReader.read.Given as goal

abbrev pub invariant-loop-letter : goal.invariant-loop-letter
invariant-loop-letter l =
    reading (keeping l.reader l.out) (drop l.letter-index l.text) ≡ reading (keeping l.initial.reader l.initial.out) l.text
