-- Spinel bodies. Framing and the command engine both hold to these bounds, and know nothing of each other.
use Rattle.std.specs.Prelude.{List, ◌≡◌, ℕ, ◌/◌, ◌≤◌, length, get_or}

-- 01, Octets on the wire: "Bodies have 2 to 1,300 octets"
abbrev pub min_body : ℕ
min_body = 2

abbrev pub max_body : ℕ
max_body = 1300

abbrev pub Body : List ℕ → Type 0
Body body = (min_body ≤ length body) × (length body ≤ max_body)

-- "Header: two bits 10, two bits link, four bits transaction"
abbrev pub header_of : List ℕ → ℕ
header_of b = get_or b 0 0

-- a body as the command engine takes it, and as fate 1 gives it: of these bounds, and the header's top two bits are 10
abbrev pub SpinelBody : List ℕ → Type 0
SpinelBody body = (min_body ≤ length body) × (length body ≤ max_body) × (header_of body / 64 ≡ 2)
