-- How long a reply is, from a state that keeps its rules.
use mathlib.Core.Path.{◌≡◌, refl}
use mathlib.Core.Bool.{true}
use mathlib.Core.List.{List, [], ◌∷◌}
use Prim.Native.Nat.{ℕ, ◌<◌, ◌≤◌}
use native.Mathlib.Omega.{arith}
use lib.ListN.{length, get_or, length-append}
use Rattle.octets.proofs.LawsLittleEndian.{length_le}
use Rattle.packed.specs.Packed.{packed}
use Rattle.packed.proofs.ReadsBack.{packed_size}
use Rattle.property.specs.Number.{number_at, slot_count}
use Rattle.property.specs.declared.commands.Command.{Command}
use Rattle.property.specs.declared.row.Kind.{Kind}
use Rattle.property.specs.declared.row.Kind.TheVariants.{ReadOnly, Power, Number, Name, Ports}
use Rattle.property.specs.declared.row.ReadOnly.{ReadOnly as Fixed}
use Rattle.property.specs.declared.row.ReadOnly.TheVariants.{LastStatus, ProtocolVersion, VersionText, InterfaceType, Vendor, Capabilities, InterfaceCount, HardwareAddress}
use Rattle.property.specs.declared.row.Row.{Row}
use Rattle.property.proofs.TableRule.{numbers_keep, width_most}
use Rattle.device.specs.State.{octets_of, max_reply}
use Rattle.device.specs.Rules.{settings_rule, link_rule}
use Rattle.device.proofs.StateRules.{settings_told, name_room, ports_room}
use Rattle.device.specs.declared.view.View.{View}
use Rattle.reply.specs.Value.{fixed_value, number_value, value_of}
use Rattle.reply.specs.Reply.{content, success_reply, max_content}

module _ (v : View) (s : settings_rule v.settings ≡ true) where
  fixed_size : (x : Fixed) → length (fixed_value v x) ≤ max_content
  unfolding fixed_value
  fixed_size LastStatus = omega (arith, packed_size v.link.status)
  fixed_size ProtocolVersion = omega arith
  fixed_size VersionText =
      let t = (settings_told v.settings s).text in
      omega (arith, length-append (octets_of v.settings.text) (0 ∷ []), t.most, t.counted)
  fixed_size InterfaceType = omega arith
  fixed_size Vendor = omega (arith, packed_size v.settings.vendor)
  fixed_size Capabilities = omega arith
  fixed_size InterfaceCount = omega arith
  fixed_size HardwareAddress = omega (arith, (settings_told v.settings s).address)

  pub value_size : link_rule v.link ≡ true → (k : Kind) → ((slot : ℕ) → k ≡ Number slot → slot < slot_count) → length (value_of v k) ≤ max_content
  unfolding value_of number_value
  value_size l (ReadOnly x) h = fixed_size x
  value_size l Power h = omega arith
  value_size l (Number slot) h =
      omega (arith, length_le (number_at slot).width (get_or v.link.numbers slot 0), width_most (number_at slot) (numbers_keep slot (h slot refl)))
  value_size l Name h = let t = name_room v.link l in omega (arith, length-append (octets_of v.link.name) (0 ∷ []), t.most, t.counted)
  value_size l Ports h = let t = ports_room v.link l in omega (arith, t.most, t.counted)

pub replied_size : (v : View) (h : ℕ) (c : Command) (r : Row) (p : List ℕ) → length (content v c r.kind p) ≤ max_content
    → (3 ≤ length (success_reply v h c r p)) × (length (success_reply v h c r p) ≤ max_reply)
unfolding success_reply
replied_size v h c r p few =
    let id = packed_size r.id in
    let all = length-append (packed r.id) (content v c r.kind p) in
    (omega arith, omega arith)
