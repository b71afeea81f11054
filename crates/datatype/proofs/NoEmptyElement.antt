-- PROMISE: no element of an array takes zero octets: the items in the brackets of A(..), read anywhere in any part, go on by one octet or
-- more. So the loop over elements ends without a guard.
use mathlib.Core.Bool.{true}
use mathlib.Core.List.{List}
use mathlib.Core.Path.{◌≡◌}
use Prim.Native.Nat.{ℕ, ◌≤◌, ◌<◌}
use native.Mathlib.Omega.{arith}
use lib.ListN.{length}
use Rattle.typestring.specs.Grammar.{Items, HasItem, PartRules}
use Rattle.datatype.specs.Reading.{Leaf, upto, part_reads}
use Rattle.datatype.proofs.LawsTook.{element_took}

pub element_takes : (t : Items) (left : ℕ) (part : List ℕ) (from p : ℕ) (ls : List Leaf) → PartRules t left true → HasItem t → from ≤ length part
    → part_reads t part from ≡ upto p ls → from < p
element_takes t left part from p ls rules some room e = omega (arith, (element_took t left part from p ls rules some room e).onward)
