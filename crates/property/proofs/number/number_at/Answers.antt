-- The table's rule, by its computed test.
use mathlib.Core.Path.{refl}
use Rattle.property.specs.Number.{numbers}
use Rattle.property.proofs.TableRule.{numbers_keep}
use Rattle.property.proofs.number.number_at.Goals as goal

pub returns : goal.returns
unfolding numbers
returns c =
    record { is = refl; rule = numbers_keep _ c.requires }
