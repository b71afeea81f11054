-- 01, The property table: the rows.
use Rattle.std.specs.Prelude.{ℕ, Bool, true, false, List, [], ◌∷◌, eqb, Option, find}
use Rattle.property.specs.declared.commands.Command.{Command}
use Rattle.property.specs.declared.commands.Command.TheVariants.{Get, Set, Insert, Remove}
use Rattle.property.specs.declared.row.ReadOnly.TheVariants.{LastStatus, ProtocolVersion, VersionText, InterfaceType, Vendor, Capabilities, InterfaceCount, HardwareAddress}
use Rattle.property.specs.declared.row.Kind.{Kind}
use Rattle.property.specs.declared.row.Kind.TheVariants.{ReadOnly, Power, Number, Name, Ports}
use Rattle.property.specs.declared.row.Scope.{Scope}
use Rattle.property.specs.declared.row.Scope.TheVariants as scope
use Rattle.property.specs.declared.row.Row.{Row}

-- "Every property allows GET": the commands beside it, by 01's column Writable
abbrev pub read_only : ℕ → Scope → Kind → Row
read_only id scope kind = record { id = id; kind = kind; get = true; set = false; items = false; scope = scope }

abbrev pub settable : ℕ → Scope → Kind → Row
settable id scope kind = record { id = id; kind = kind; get = true; set = true; items = false; scope = scope }

abbrev pub with_items : ℕ → Scope → Kind → Row
with_items id scope kind = record { id = id; kind = kind; get = true; set = true; items = true; scope = scope }

-- 01's table has twenty rows
abbrev pub row_count : ℕ
row_count = 20

unfoldable pub rows : List Row
rows =
    read_only 0 scope.Link (ReadOnly LastStatus) ∷
    read_only 1 scope.Device (ReadOnly ProtocolVersion) ∷
    read_only 2 scope.Device (ReadOnly VersionText) ∷
    read_only 3 scope.Device (ReadOnly InterfaceType) ∷
    read_only 4 scope.Device (ReadOnly Vendor) ∷
    read_only 5 scope.Device (ReadOnly Capabilities) ∷
    read_only 6 scope.Device (ReadOnly InterfaceCount) ∷
    settable 7 scope.Device Power ∷
    read_only 8 scope.Device (ReadOnly HardwareAddress) ∷
    settable 32 scope.Link (Number 0) ∷
    settable 33 scope.Link (Number 1) ∷
    settable 37 scope.Link (Number 2) ∷
    settable 54 scope.Link (Number 3) ∷
    settable 65 scope.Link (Number 4) ∷
    settable 66 scope.Link (Number 5) ∷
    settable 68 scope.Link Name ∷
    with_items 92 scope.Link Ports ∷
    settable 94 scope.Link (Number 6) ∷
    settable 5376 scope.Link (Number 7) ∷
    settable 5377 scope.Link (Number 8) ∷
    []

-- the value past the end of the rows
abbrev pub no_row : Row
no_row = record { id = 0; kind = ReadOnly LastStatus; get = false; set = false; items = false; scope = scope.Device }

-- the row of a property, or none: the property is unknown
unfoldable pub lookup : ℕ → Option Row
lookup id = find (λ r. eqb r.id id) rows

unfoldable pub allows : Row → Command → Bool
allows r Get = r.get
allows r Set = r.set
allows r Insert = r.items
allows r Remove = r.items
