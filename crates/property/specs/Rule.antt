-- The rules of the two tables, which a lookup's caller may rely on.
use Rattle.std.specs.Prelude.{suc, ◌^◌, Bool, true, false, cond, not, ◌&&◌, ◌||◌, ◌≡◌, eqb, ltb, leb, get_or, Option, None, Some}
use Rattle.property.specs.declared.row.ReadOnly.{ReadOnly as Fixed}
use Rattle.property.specs.declared.row.ReadOnly.TheVariants.{LastStatus, ProtocolVersion, VersionText, InterfaceType, Vendor, Capabilities, InterfaceCount, HardwareAddress}
use Rattle.property.specs.declared.row.Kind.{Kind}
use Rattle.property.specs.declared.row.Kind.TheVariants.{ReadOnly, Power, Number, Name, Ports}
use Rattle.property.specs.declared.row.Scope.{Scope}
use Rattle.property.specs.declared.row.Scope.TheVariants as scope
use Rattle.property.specs.declared.row.Row.{Row}
use Rattle.property.specs.declared.number.Number.{Number as Numeric}
use Rattle.property.specs.Number.{ids, within, slot_count}
use Rattle.property.specs.Status.{status_number}

abbrev pub of_device : Scope → Bool
of_device scope.Device = true
of_device scope.Link = false

-- of what no command changes, only the last status is a link's own
abbrev pub fixed_shared : Fixed → Bool
fixed_shared LastStatus = false
fixed_shared ProtocolVersion = true
fixed_shared VersionText = true
fixed_shared InterfaceType = true
fixed_shared Vendor = true
fixed_shared Capabilities = true
fixed_shared InterfaceCount = true
fixed_shared HardwareAddress = true

-- the kinds whose value is the whole device's: "Only 7 is shared among writable properties"
abbrev pub is_shared : Kind → Bool
is_shared (ReadOnly f) = fixed_shared f
is_shared Power = true
is_shared (Number slot) = false
is_shared Name = false
is_shared Ports = false

-- what is read only is not set, the power state is 7, a slot is one of a link's nine and its property is the row's, and only ports are
-- inserted and removed
abbrev pub kind_rule : Kind → Row → Bool
kind_rule (ReadOnly f) r = not r.set && not r.items
kind_rule Power r = eqb r.id 7 && not r.items
kind_rule (Number slot) r = ltb slot slot_count && (eqb r.id (get_or ids slot 0) && not r.items)
kind_rule Name r = not r.items
kind_rule Ports r = true

-- "Every property allows GET"; the scope is the kind's; the id takes at most two octets packed
abbrev pub row_rule : Row → Bool
row_rule r = r.get && (cond (of_device r.scope) (is_shared r.kind) (not (is_shared r.kind)) && (ltb r.id 16384 && kind_rule r.kind r))

abbrev pub KeepsRule : Option Row → Type 0
KeepsRule None = Unit {0}
KeepsRule (Some r) = row_rule r ≡ true

-- 1 to 4 octets, the top of that width, 3 or 9 for a value outside ("value out of range: 3", "a bool not 00 or 01: 9"), and a default
-- that is one of the values
abbrev pub number_rule : Numeric → Bool
number_rule n =
    let s = status_number n.outside in
    leb 1 n.width && (leb n.width 4 && (eqb (suc n.top) (256 ^ n.width) && ((eqb s 3 || eqb s 9) && within n n.default)))
