-- The invariant: what is read so far is the number of the octets behind those that are left.
use Rattle.std.proofs.Common.{arith, ◌<◌, ◌^◌, ◌∙◌, sym, ap, [], ◌∷◌, ◌++◌, refl, append_assoc, append-nil}
use native.Mathlib.Nat.{add-sub_cancel_left}
use Rattle.std.specs.Slice.Iter.{iter_rest}
use Rattle.std.specs.Iterator.Adapters.{rev_source}
use Rattle.octets.specs.LittleEndian.{le, le_at}
use Rattle.octets.proofs.LawsLists.{empty}
use Rattle.octets.proofs.LawsLittleEndian.{le_small}
use Rattle.octets.proofs.little_endian.read_le.Goals as goal
use Rattle.octets.proofs.little_endian.read_le.Goals.{In-Some}

pub loop-octet-init : goal.loop-octet-init
unfolding le
loop-octet-init c =
    (tt, tt, ([], rw append-nil (cc (add-sub_cancel_left c.args.at c.args.width)), refl))

small : (c : In-Some) → c.loop-octet.n < 256 ^ 3
small c =
    let a = c.args in
    let i = c.loop-octet.invariant.2 in
    let h : le i.0 < 256 ^ 3 =
    le_small a.octets.now a.at a.width (iter_rest (rev_source c.next.new.self)) i.0 c.in-Some.octet.now (λ k. (c.type_inv.octets k).fits) c.requires.0
    (i.1 ∙ ap (λ xs. xs ++ i.0) c.in-Some.ensures.steps) in
    omega arith

pub overflow_mul-n : goal.overflow_mul-n
overflow_mul-n c = omega (arith, small c)

pub overflow_add-n : goal.overflow_add-n
overflow_add-n c = omega (arith, small (goal.at.overflow_add-n c).In-Some, c.from.ensures)

pub loop-octet-preserved : goal.loop-octet-preserved
unfolding le
loop-octet-preserved c =
    let i = c.loop-octet.invariant.2 in
    let x = c.in-Some.octet.now in
    let behind = ap (λ xs. xs ++ i.0) c.in-Some.ensures.steps ∙ append_assoc (iter_rest (rev_source c.next.new.self)) (x ∷ []) i.0 in
    (tt, tt, (x ∷ i.0, i.1 ∙ behind, omega (arith, i.2, c.from.ensures)))

pub returns : goal.returns
unfolding le_at
returns c =
    let i = c.loop-octet.invariant.2 in
    i.2 ∙ ap le (sym (i.1 ∙ ap (λ xs. xs ++ i.0) (empty _ c.in-None.ensures.steps.0)))
