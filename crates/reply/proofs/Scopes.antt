-- PROMISE: the table's scope is whose value it is. What a row of the device's scope holds is the same on every link; what a row of a
-- link's scope holds depends on that link alone.
use mathlib.Core.Path.{◌≡◌, refl, sym, ap, ◌∙◌}
use mathlib.Core.Bool.{true, false}
use mathlib.Core.List.{◌∷◌, [], ◌++◌}
use lib.ListN.{get_or}
use Rattle.octets.specs.LittleEndian.{le_octets}
use Rattle.octets.proofs.LawsTests.{impossible}
use Rattle.packed.specs.Packed.{packed}
use Rattle.property.specs.Number.{number_at}
use Rattle.property.specs.Rule.{of_device, fixed_shared, is_shared, row_rule}
use Rattle.property.specs.declared.row.ReadOnly.{ReadOnly as Fixed}
use Rattle.property.specs.declared.row.ReadOnly.TheVariants.{LastStatus, ProtocolVersion, VersionText, InterfaceType, Vendor, Capabilities, InterfaceCount, HardwareAddress}
use Rattle.property.specs.declared.row.Kind.{Kind}
use Rattle.property.specs.declared.row.Kind.TheVariants.{ReadOnly, Power, Number, Name, Ports}
use Rattle.property.specs.declared.row.Row.{Row}
use Rattle.property.proofs.TableRule.{scope_told}
use Rattle.device.specs.State.{octets_of}
use Rattle.device.specs.declared.view.View.{View}
use Rattle.reply.specs.Value.{fixed_value, number_value, value_of}

module _ (v w : View) (settings : v.settings ≡ w.settings) (power : v.power ≡ w.power) where
  fixed_shared_lem : (x : Fixed) → fixed_shared x ≡ true → fixed_value v x ≡ fixed_value w x
  unfolding fixed_value
  fixed_shared_lem LastStatus t = impossible cc
  fixed_shared_lem ProtocolVersion t = refl
  fixed_shared_lem VersionText t = ap (λ s. octets_of s.text ++ (0 ∷ [])) settings
  fixed_shared_lem InterfaceType t = refl
  fixed_shared_lem Vendor t = ap (λ s. packed s.vendor) settings
  fixed_shared_lem Capabilities t = refl
  fixed_shared_lem InterfaceCount t = ap (λ s. s.links ∷ []) settings
  fixed_shared_lem HardwareAddress t = ap (λ s. s.address) settings

  kind_shared : (k : Kind) → is_shared k ≡ true → value_of v k ≡ value_of w k
  unfolding value_of
  kind_shared (ReadOnly x) t = fixed_shared_lem x t
  kind_shared Power t = ap (λ p. p ∷ []) power
  kind_shared (Number slot) t = impossible cc
  kind_shared Name t = impossible cc
  kind_shared Ports t = impossible cc

  pub shared_value : (r : Row) → row_rule r ≡ true → of_device r.scope ≡ true → value_of v r.kind ≡ value_of w r.kind
  shared_value r t s = kind_shared r.kind (sym (scope_told r t) ∙ s)

module _ (v w : View) (link : v.link ≡ w.link) where
  kind_own : (k : Kind) → is_shared k ≡ false → value_of v k ≡ value_of w k
  unfolding value_of fixed_value number_value
  kind_own (ReadOnly LastStatus) t = ap (λ l. packed l.status) link
  kind_own (ReadOnly ProtocolVersion) t = impossible cc
  kind_own (ReadOnly VersionText) t = impossible cc
  kind_own (ReadOnly InterfaceType) t = impossible cc
  kind_own (ReadOnly Vendor) t = impossible cc
  kind_own (ReadOnly Capabilities) t = impossible cc
  kind_own (ReadOnly InterfaceCount) t = impossible cc
  kind_own (ReadOnly HardwareAddress) t = impossible cc
  kind_own Power t = impossible cc
  kind_own (Number slot) t = ap (λ l. le_octets (number_at slot).width (get_or l.numbers slot 0)) link
  kind_own Name t = ap (λ l. octets_of l.name ++ (0 ∷ [])) link
  kind_own Ports t = ap (λ l. octets_of l.ports) link

  pub own_value : (r : Row) → row_rule r ≡ true → of_device r.scope ≡ false → value_of v r.kind ≡ value_of w r.kind
  own_value r t s = kind_own r.kind (sym (scope_told r t) ∙ s)
