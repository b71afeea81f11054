-- A reading goes on, so that it has a size.
use Rattle.std.proofs.Common.{sym, ◌∙◌, arith}
use Rattle.packed.proofs.OneSpelling.{place_after}
use Rattle.datatype.proofs.leaf.Part.packed.Goals as goal

pub overflow_sub-result : goal.overflow_sub-result
overflow_sub-result c = omega (arith, place_after _ _ _ _ (sym c.read_packed.ensures ∙ c.in_ok-integer.was))
