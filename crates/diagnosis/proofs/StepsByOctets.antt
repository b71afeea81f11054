-- PROMISE: what steps 2 to 5 come to is what the octets of the body tell, and nothing else.
use mathlib.Core.Path.{◌≡◌, refl, ap, ◌∙◌}
use mathlib.Core.List.{List}
use Prim.Native.Nat.{ℕ}
use native.Mathlib.Omega.{arith}
use borrow.Author.Tests.{eqb-true, eqb-false, ltb-true, ltb-false}
use lib.Dec.{eqb, ltb}
use Rattle.octets.proofs.LawsTests.{chosen}
use Rattle.std.specs.Prelude.{Option, None, Some, Result, Ok, Err}
use Rattle.packed.specs.Packed.{packed_at, read}
use Rattle.packed.specs.declared.Fault.{Fault}
use Rattle.packed.specs.declared.Packed.{Packed}
use Rattle.property.specs.Row.{lookup, allows}
use Rattle.property.specs.declared.row.Row.{Row}
use Rattle.request.specs.declared.verdict.Refusal.{Refusal}
use Rattle.request.specs.declared.verdict.Request.{Request}
use Rattle.request.specs.Verdict.{command_of, by_row, by_property, by_command, verdict}
use Rattle.diagnosis.specs.Steps.{Names, Numbered, numbered, Told, command_unreadable, command_unknown, is_noop, is_reset, property_unreadable, property_unknown, not_allowed, passes}

by_row_lem : (b : List ℕ) (n at id start : ℕ) (f : Option Row) → Names b n at → packed_at b at ≡ read id start → lookup id ≡ f
    → Told b (numbered (by_row (command_of n) start f))
by_row_lem b n at id start None names e f = property_unknown names e f
by_row_lem b n at id start (Some r) names e f = chosen (λ w. Told b (numbered w)) (allows r (command_of n)) (λ t. passes names e f t) (λ t. not_allowed names e f t)

by_property_lem : (b : List ℕ) (n at : ℕ) (q : Result Packed Fault) → Names b n at → packed_at b at ≡ q
    → Told b (numbered (by_property (command_of n) q))
by_property_lem b n at (Err f) names e = property_unreadable names e
by_property_lem b n at (Ok p) names e = by_row_lem b n at p.number p.next (lookup p.number) names e refl

by_command_lem : (b : List ℕ) (q : Result Packed Fault) → packed_at b 1 ≡ q → Told b (numbered (by_command b q))
by_command_lem b (Err f) e = command_unreadable e
by_command_lem b (Ok p) e =
    let told : Result Request Refusal → Type 0 = λ w. Told b (numbered w) in
    chosen told (eqb p.number 0) (λ t. is_noop (e ∙ ap (λ m. read m p.next) (eqb-true p.number 0 t)))
    (λ t. chosen told (eqb p.number 1) (λ u. is_reset (e ∙ ap (λ m. read m p.next) (eqb-true p.number 1 u)))
    (λ u. chosen told (ltb 5 p.number) (λ w. command_unknown e (ltb-true 5 p.number w))
    (λ w. by_property_lem b p.number p.next (packed_at b p.next)
    (record { command = e; least = omega (arith, eqb-false p.number 0 t, eqb-false p.number 1 u); most = ltb-false 5 p.number w }) refl)))

pub verdict_told : (b : List ℕ) → Told b (numbered (verdict b))
unfolding verdict
verdict_told b = by_command_lem b (packed_at b 1) refl

-- ---- and back

-- a command that names a property is judged by it
named : (b : List ℕ) (n at : ℕ) → Names b n at → verdict b ≡ by_property (command_of n) (packed_at b at)
unfolding verdict
named b n at names = rw names.command (grind arith)

pub told_only : (b : List ℕ) (w : Numbered) → Told b w → numbered (verdict b) ≡ w
unfolding verdict
told_only b w (command_unreadable e) = rw e
told_only b w (command_unknown {n = n} e h) = rw e (grind arith)
told_only b w (is_noop e) = rw e
told_only b w (is_reset e) = rw e
told_only b w (property_unreadable names e) = rw (named b _ _ names, e)
told_only b w (property_unknown names e f) = rw (named b _ _ names, e, f)
told_only b w (not_allowed names e f a) = rw (named b _ _ names, e, f, a)
told_only b w (passes names e f a) = rw (named b _ _ names, e, f, a)
