-- What the octet at `next` is decides; what the ones after it stand for is joined to it.
use Rattle.std.proofs.Common.{rules, suc, ◌≡◌, ◌+◌, ◌≤◌, length, ◌-◌, ◌<◌, get_or, arith, refl}
use Rattle.packed.specs.Packed.{packed_at, number_in, joined}
use Rattle.packed.proofs.LawsPacked.{number_none, number_last, number_more, read_none, read_last, read_more, scale_at, scale_more, scale_one, low_more}
use Rattle.packed.proofs.read_packed.Goals.{else-octet-eq0-via-then-octet-eq0+else-scale-gt1, else-octet-eq0-via-else-octet-eq0}
use Rattle.packed.proofs.read_packed.Goals as goal

pub loop-scale-init : goal.loop-scale-init
unfolding packed_at
loop-scale-init c = record { rest = refl; none_yet = λ z. refl; low = omega arith }

pub returns-in_err-ok_or : goal.returns-in_err-ok_or
returns-in_err-ok_or c =
    let s = c.args.octets.now in
    let w = c.loop-scale in
    let get = c.get.ensures.lookup in
    let out : length s ≤ w.next = search rules in
    let told = rw (number_none s w.next (3 - w.scale-index) (omega arith) out, read_none w.scale-index w.number _) at w.invariant.rest in
    search rules

pub returns-then-scale-gt1 : goal.returns-then-scale-gt1
unfolding joined
returns-then-scale-gt1 c =
    let s = c.args.octets.now in
    let w = c.loop-scale in
    let there : w.next < length s = search rules in
    let octet : c.from-octet.result ≡ get_or s w.next 0 = search rules in
    let last : get_or s w.next 0 < 128 = omega arith in
    let zero : get_or s w.next 0 ≡ 0 = omega arith in
    let after = scale_more w.scale-index (rw (scale_at w.scale-index c.loop-scale-test.true) at c.if-scale-gt1.true) in
    let index : w.scale-index ≡ suc (w.scale-index - 1) = omega arith in
    rw (number_last s w.next (3 - w.scale-index) (omega arith) there last, zero, index) at w.invariant.rest

pub returns-then-octet-lt128 : goal.returns-then-octet-lt128
returns-then-octet-lt128 c =
    let s = c.args.octets.now in
    let w = c.loop-scale in
    let there : w.next < length s = search rules in
    let octet : c.from-octet.result ≡ get_or s w.next 0 = search rules in
    let last : get_or s w.next 0 < 128 = omega arith in
    let scale = scale_at w.scale-index c.loop-scale-test.true in
    let some : get_or s w.next 0 ≡ 0 → w.scale-index ≡ 0 = λ z. elim c.else-octet-eq0.branch [
      | else-octet-eq0-via-then-octet-eq0+else-scale-gt1 b ↦ scale_one w.scale-index (rw scale at b.if-scale-gt1.false)
      | else-octet-eq0-via-else-octet-eq0 b ↦ absurd (omega (arith, b.if-octet-eq0.false))
    ] in
    rw (number_last s w.next (3 - w.scale-index) (omega arith) there last, read_last w.scale-index w.number _ _ w.invariant.none_yet some, ← octet, ← scale) at w.invariant.rest

pub loop-scale-preserved : goal.loop-scale-preserved
loop-scale-preserved c =
    let s = c.args.octets.now in
    let w = c.loop-scale in
    let there : w.next < length s = search rules in
    let octet : c.from-octet.result ≡ get_or s w.next 0 = search rules in
    let more : 128 ≤ get_or s w.next 0 = omega arith in
    let scale = scale_at w.scale-index c.loop-scale-test.true in
    let fewer : 3 - w.scale-index - 1 ≡ 3 - (w.scale-index + 1) = omega arith in
    record {
      rest = rw (number_more s w.next (3 - w.scale-index) (omega arith) there more, read_more w.scale-index w.number _ _ w.invariant.none_yet, ← octet, ← scale, fewer) at w.invariant.rest;
      none_yet = λ z. absurd (omega arith);
      low = rw scale (low_more w.scale-index w.number (c.from-octet.result - 128) w.invariant.low (omega (arith, c.type_inv.octets w.next)));
    }

pub returns : goal.returns
unfolding number_in joined
returns c =
    let w = c.loop-scale in
    let all : w.scale-index ≡ 3 = omega arith in
    rw all at w.invariant.rest
