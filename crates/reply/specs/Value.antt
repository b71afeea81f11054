-- The octets of the value that a property holds (01, The property table).
use Rattle.std.specs.Prelude.{ℕ, List, [], ◌∷◌, ◌++◌, get_or}
use Rattle.octets.specs.LittleEndian.{le_octets}
use Rattle.packed.specs.Packed.{packed}
use Rattle.property.specs.Number.{number_at}
use Rattle.property.specs.declared.row.ReadOnly.{ReadOnly as Fixed}
use Rattle.property.specs.declared.row.ReadOnly.TheVariants.{LastStatus, ProtocolVersion, VersionText, InterfaceType, Vendor, Capabilities, InterfaceCount, HardwareAddress}
use Rattle.property.specs.declared.row.Kind.{Kind}
use Rattle.property.specs.declared.row.Kind.TheVariants.{ReadOnly, Power, Number, Name, Ports}
use Rattle.device.specs.State.{octets_of}
use Rattle.device.specs.declared.view.View.{View}

-- types i, ii, U, i, i, A(i), C and E
unfoldable pub fixed_value : View → Fixed → List ℕ
fixed_value v LastStatus = packed v.link.status
fixed_value v ProtocolVersion = 4 ∷ 3 ∷ []
fixed_value v VersionText = octets_of v.settings.text ++ (0 ∷ [])
fixed_value v InterfaceType = 3 ∷ []
fixed_value v Vendor = packed v.settings.vendor
fixed_value v Capabilities = 24 ∷ 52 ∷ []
fixed_value v InterfaceCount = v.settings.links ∷ []
fixed_value v HardwareAddress = v.settings.address

-- "Multi-octet numbers are little-endian"
unfoldable pub number_value : View → ℕ → List ℕ
number_value v slot = le_octets (number_at slot).width (get_or v.link.numbers slot 0)

unfoldable pub value_of : View → Kind → List ℕ
value_of v (ReadOnly f) = fixed_value v f
value_of v Power = v.power ∷ []
value_of v (Number slot) = number_value v slot
value_of v Name = octets_of v.link.name ++ (0 ∷ [])
value_of v Ports = octets_of v.link.ports
