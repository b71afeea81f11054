-- Header, command and payload are written one behind the other, and are the body whose frame is written.
use mathlib.Core.Path.{◌≡◌, sym, ap, ap₂, ◌∙◌}
use mathlib.Core.List.{List, [], ◌∷◌}
use Prim.Native.Nat.{ℕ, ◌+◌, ◌-◌, ◌≤◌}
use native.Mathlib.Omega.{arith}
use lib.ListN.{length, take, replicate, length-replicate}
use lib.Seq.{length-take-le, take-append_seam, length-sets}
use Rattle.octets.specs.Writing.{Wrote}
use Rattle.octets.proofs.LawsWriting.{wrote_both, front_count, front_held}
use Rattle.packed.specs.Packed.{packed}
use Rattle.packed.proofs.ReadsBack.{packed_size}
use Rattle.transactions.specs.Writing.{header, command_body, writing_fitting}
use Rattle.transactions.proofs.LawsWriting.{body_size, command_long, command_fitting}
use Rattle.transactions.proofs.writing.write_command.Goals as goal

abbrev space : List ℕ
space = replicate 1300 0

-- header, command and payload, written one behind the other into 1,300 octets
module _ (link number command : ℕ) (payload h0 h1 h2 : List ℕ) (a b e : ℕ) (w0 : Wrote space h0 0 a (header link number ∷ []))
    (w1 : Wrote h0 h1 a b (packed command)) where
  head : Wrote space h1 0 b (header link number ∷ packed command)
  head = wrote_both w0 w1

  head_ends : b ≡ 1 + length (packed command)
  head_ends = head.end ∙ omega arith

  head_room : length h1 ≡ 1300
  head_room = ap length head.held ∙ length-sets space 0 (header link number ∷ packed command) ∙ length-replicate {A = ℕ} 1300 0

  module _ (w2 : Wrote h1 h2 b e payload) (room : length payload ≤ 1300 - b) where
    all : Wrote space h2 0 e (command_body link number command payload)
    all = wrote_both head w2

    size : length (command_body link number command payload) ≤ 1300
    size = omega (arith, body_size link number command payload, head_ends, room, (packed_size command).1)

    ends : e ≡ length (command_body link number command payload)
    ends = front_count {s = space} (rw (length-replicate {A = ℕ} 1300 0) size) all

    within : e ≤ length h2
    within = omega (arith, ends, size, ap length all.held ∙ length-sets space 0 (command_body link number command payload) ∙ length-replicate {A = ℕ} 1300 0)

    stands : take e h2 ≡ command_body link number command payload
    stands =
        ap₂ take ends (front_held {s = space} (rw (length-replicate {A = ℕ} 1300 0) size) all)
        ∙ take-append_seam (command_body link number command payload) _

pub returns-then-at_payload-payload-clause-frame : goal.returns-then-at_payload-payload-clause-frame
returns-then-at_payload-payload-clause-frame c =
    sym
    (command_long _ _ _ _ _ (sym c.is_sendable.ensures ∙ c.if-not-is_sendable.false)
    (omega (
      arith,
      c.if-at_payload-payload.true,
      head_ends c.args.link c.args.number c.args.command [] _ _ [] _ _ 0 c.write_octet-at_command.ensures c.write_packed-at_payload.ensures,
      body_size c.args.link c.args.number c.args.command c.args.payload.now,
    )))

pub write_octets-end-requires : goal.write_octets-end-requires
write_octets-end-requires c =
    let h = head_room c.args.link c.args.number c.args.command [] _ _ [] _ _ 0 c.write_octet-at_command.ensures c.write_packed-at_payload.ensures in
    let e = head_ends c.args.link c.args.number c.args.command [] _ _ [] _ _ 0 c.write_octet-at_command.ensures c.write_packed-at_payload.ensures in
    omega (arith, c.if-at_payload-payload.false, h, e, (packed_size c.args.command).1)

pub slice_bounds-body-end : goal.slice_bounds-body-end
slice_bounds-body-end c =
    within c.args.link c.args.number c.args.command c.args.payload.now _ _ _ _ _ _ c.write_octet-at_command.ensures c.write_packed-at_payload.ensures
    c.write_octets-end.ensures c.if-at_payload-payload.false

pub slice_bounds-write_fitting-end : goal.slice_bounds-write_fitting-end
slice_bounds-write_fitting-end c =
    sym
    (length-take-le _ _
    (within c.args.link c.args.number c.args.command c.args.payload.now _ _ _ _ _ _ c.write_octet-at_command.ensures
    c.write_packed-at_payload.ensures c.write_octets-end.ensures c.if-at_payload-payload.false))

pub write_fitting-requires : goal.write_fitting-requires
write_fitting-requires c =
    let a = c.args in
    let s =
    stands a.link a.number a.command a.payload.now _ _ _ _ _ _ c.write_octet-at_command.ensures c.write_packed-at_payload.ensures
    c.write_octets-end.ensures c.if-at_payload-payload.false in
    let m =
    size a.link a.number a.command a.payload.now _ _ _ _ _ _ c.write_octet-at_command.ensures c.write_packed-at_payload.ensures
    c.write_octets-end.ensures c.if-at_payload-payload.false in
    rw s (omega (arith, body_size a.link a.number a.command a.payload.now, (packed_size a.command).0), m)

pub returns-clause-frame : goal.returns-clause-frame
returns-clause-frame c =
    let a = c.args in
    let s =
    stands a.link a.number a.command a.payload.now _ _ _ _ _ _ c.write_octet-at_command.ensures c.write_packed-at_payload.ensures
    c.write_octets-end.ensures c.if-at_payload-payload.false in
    let m =
    size a.link a.number a.command a.payload.now _ _ _ _ _ _ c.write_octet-at_command.ensures c.write_packed-at_payload.ensures
    c.write_octets-end.ensures c.if-at_payload-payload.false in
    c.write_fitting.ensures.frame ∙ ap (λ b. writing_fitting b a.out.now) s
    ∙ sym (command_fitting _ _ _ _ _ (sym c.is_sendable.ensures ∙ c.if-not-is_sendable.false) m)
