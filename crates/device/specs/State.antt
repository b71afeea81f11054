-- The state of the box (01, Setup and The property table).
use Rattle.std.specs.Prelude.{ℕ, List, [], map, length, take, replicate}
use Rattle.octets.specs.Padding.{pad}
use Rattle.property.specs.Status.{reset_status}
use Rattle.property.specs.Number.{numbers, power_state}
use Rattle.device.specs.declared.state.Padded.{Padded}
use Rattle.device.specs.declared.state.Link.{Link}
use Rattle.device.specs.declared.state.Settings.{Settings}
use Rattle.device.specs.declared.state.Device.{Device}

-- ---- limits

-- "Links 1 to 4 .., vendor 0 to 2,097,151, version text 0 to 32 octets .., hardware address of 8 octets"
abbrev pub max_links : ℕ
max_links = 4

abbrev pub max_vendor : ℕ
max_vendor = 2097151

abbrev pub max_text : ℕ
max_text = 32

abbrev pub address_size : ℕ
address_size = 8

-- 68 network name, "0 to 16 octets"
abbrev pub max_name : ℕ
max_name = 16

-- 92 assisting ports, up to 8
abbrev pub max_ports : ℕ
max_ports = 8

-- the octets of either
abbrev pub max_held : ℕ
max_held = 16

-- "no property in 01 makes a reply body over 61 octets" (02, T-04)
abbrev pub max_reply : ℕ
max_reply = 61

-- ---- octets in their arrays, and back

abbrev pub padded_from : (places : ℕ) → List ℕ → Padded places
padded_from places xs = record { octets = pad places xs; len = length xs }

abbrev pub text_from : List ℕ → Padded max_text
text_from = padded_from max_text

abbrev pub held_from : List ℕ → Padded max_held
held_from = padded_from max_held

abbrev pub octets_of : {places : ℕ} → Padded places → List ℕ
octets_of p = take p.len p.octets

-- ---- fresh states: "Fresh equals after reset"

unfoldable pub defaults : List ℕ
defaults = map (λ n. n.default) numbers

-- last status 114, every number's default, no name and no ports
abbrev pub fresh_link : Link
fresh_link = record { status = reset_status; numbers = defaults; name = held_from []; ports = held_from [] }

-- the value past the end of the links
abbrev pub no_link : Link
no_link = record { status = 0; numbers = []; name = record { octets = []; len = 0 }; ports = record { octets = []; len = 0 } }

unfoldable pub fresh : Settings → Device
fresh s = record { settings = s; power = power_state.default; links = replicate max_links fresh_link }
