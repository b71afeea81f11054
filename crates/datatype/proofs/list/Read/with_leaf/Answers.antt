-- A leaf's three numbers are put one after the other.
use Rattle.std.proofs.Common.{refl, add-one}
use native.Mathlib.Numerals.{add-two}
use Rattle.datatype.specs.Reading.{leaf_reads, numbers}
use Rattle.datatype.proofs.list.Read.with_leaf.Goals as goal

pub returns : goal.returns
unfolding leaf_reads numbers
returns c = (refl, rw (c.put_number-3.ensures, c.put_number-2.ensures, c.put_number.ensures, c.from.ensures, add-one, add-two) refl)
