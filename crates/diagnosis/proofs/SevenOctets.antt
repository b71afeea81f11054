-- PROMISE: seven octets are enough. Steps 2 to 5 come to the same on the first seven as on the whole body, and two bodies of 2 to 1,300
-- octets with the same first seven have the same class.
use mathlib.Core.Path.{◌≡◌, refl, ◌∙◌}
use mathlib.Core.List.{List, [], ◌∷◌}
use Prim.Native.Nat.{ℕ, zero, suc, ◌+◌, ◌≤◌}
use native.Mathlib.Omega.{arith}
use lib.ListN.{take, drop, length-take}
use lib.Seq.{take-take, get_or-take}
use Rattle.octets.specs.Body.{Body}
use Rattle.packed.specs.Packed.{packed_at, read}
use Rattle.packed.specs.declared.Packed.{Packed}
use Rattle.packed.specs.declared.Fault.{Fault}
use Rattle.std.specs.Prelude.{Result, Ok, Err}
use Rattle.packed.proofs.OneSpelling.{place_after, same_octets}
use Rattle.request.specs.Verdict.{by_command, verdict}
use Rattle.engine.specs.Engine.{link_of}
use Rattle.diagnosis.specs.Classes.{link_class, head_class, max_head, class_of}

-- a part that stands in the first n octets
part_front : (k at n : ℕ) (b : List ℕ) → at + k ≤ n → take k (drop at (take n b)) ≡ take k (drop at b)
part_front k zero n b h = take-take k n b (omega arith)
part_front k (suc at) zero b h = absurd (omega arith)
part_front k (suc at) (suc n) [] h = refl
part_front k (suc at) (suc n) (x ∷ b) h = part_front k at n b (omega arith)

number_front : (b : List ℕ) (at n : ℕ) → at + 3 ≤ n → packed_at (take n b) at ≡ packed_at b at
number_front b at n h = same_octets (take n b) b at (part_front 3 at n b h)

-- a number takes three octets at most: it is read from the octets up to there
three_octets : (b : List ℕ) (at n next : ℕ) → packed_at b at ≡ read n next → next ≤ at + 3
three_octets b at n next e =
    let inside = (place_after (take (at + 3) b) at n next (number_front b at (at + 3) (omega arith) ∙ e)).1 in
    omega (arith, length-take (at + 3) b)

-- the command ends at the fourth octet or before, and so the property number at the seventh
by_command_lem : (b : List ℕ) (q : Result Packed Fault) → packed_at b 1 ≡ q → by_command (take max_head b) q ≡ by_command b q
by_command_lem b (Err f) e = refl
by_command_lem b (Ok p) e = rw (number_front b p.next max_head (omega (arith, three_octets b 1 p.number p.next e)))

pub seven_octets : (b : List ℕ) → verdict (take 7 b) ≡ verdict b
unfolding verdict
seven_octets b = rw (number_front b 1 7 (omega arith)) (by_command_lem b (packed_at b 1) refl)

-- so the class by the head is that by the whole body
pub seven_class : (links : ℕ) (b : List ℕ) → head_class links (take 7 b) ≡ head_class links b
unfolding head_class link_class link_of
seven_class links b = rw (get_or-take 7 b 0 0 (omega arith), seven_octets b)

pub same_class : (links : ℕ) (a b : List ℕ) → Body a → Body b → take 7 a ≡ take 7 b → class_of links a ≡ class_of links b
unfolding class_of
same_class links a b p q e = grind arith
