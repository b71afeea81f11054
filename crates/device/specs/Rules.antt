-- The rules of the state (01, Setup: "State rules for 11").
use Rattle.std.specs.Prelude.{ℕ, ◌%◌, Bool, cond, ◌&&◌, List, eqb, ltb, leb, length, get_or, take}
use Rattle.octets.specs.Scanning.{all_below, zeros_from}
use Rattle.property.specs.Status.{max_status, reset_status}
use Rattle.property.specs.Number.{number_at, power_state, interface_up, stack_up, within, slot_count}
use Rattle.device.specs.declared.state.Link.{Link}
use Rattle.device.specs.declared.state.Settings.{Settings}
use Rattle.device.specs.declared.state.Device.{Device}
use Rattle.device.specs.State.{no_link, address_size, max_held, max_links, max_text, max_vendor}
use Rattle.device.specs.Text.{is_text}
use Rattle.device.specs.Ports.{ports_in, distinct}

-- "places past a count hold zero"
unfoldable pub padded : List ℕ → ℕ → Bool
padded xs n = leb n (length xs) && zeros_from n xs

-- a text, of at most the octets of its array
unfoldable pub text_rule : List ℕ → ℕ → Bool
text_rule xs n = padded xs n && is_text (length xs) (take n xs)

-- "ports distinct and at most 8": of two octets each, in an array of 16
unfoldable pub ports_rule : List ℕ → ℕ → Bool
ports_rule xs n = padded xs n && (eqb (n % 2) 0 && distinct (ports_in (take n xs)))

-- "the value ranges below"
unfoldable pub in_range : List ℕ → Bool
in_range xs = all_below slot_count (λ slot. within (number_at slot) (get_or xs slot 0))

-- "stack up only with interface up"
unfoldable pub stack_rule : List ℕ → Bool
stack_rule xs = leb (get_or xs stack_up 0) (get_or xs interface_up 0)

-- the lengths of a link's arrays, which the types of the code give
unfoldable pub sized : Link → Bool
sized l = eqb (length l.numbers) slot_count && (eqb (length l.name.octets) max_held && eqb (length l.ports.octets) max_held)

-- a link that is set up: "each last status 0 to 127"
unfoldable pub link_rule : Link → Bool
link_rule l =
    sized l && (leb l.status max_status && (in_range l.numbers && (stack_rule l.numbers
    && (text_rule l.name.octets l.name.len && ports_rule l.ports.octets l.ports.len))))

unfoldable pub at_defaults : List ℕ → Bool
at_defaults xs = all_below slot_count (λ slot. eqb (get_or xs slot 0) (number_at slot).default)

-- "links not set up hold the defaults"
unfoldable pub is_fresh : Link → Bool
is_fresh l =
    sized l && (eqb l.status reset_status && (eqb l.name.len 0 && (eqb l.ports.len 0 && (at_defaults l.numbers
    && (zeros_from 0 l.name.octets && zeros_from 0 l.ports.octets)))))

-- link k, where so many are set up
unfoldable pub link_kept : ℕ → Link → ℕ → Bool
link_kept links l k = cond (ltb k links) (link_rule l) (is_fresh l)

-- "these ranges": links 1 to 4, vendor 0 to 2,097,151, text of at most 32 octets; and the lengths of the arrays
unfoldable pub settings_rule : Settings → Bool
settings_rule s =
    eqb (length s.text.octets) max_text && (eqb (length s.address) address_size && (leb 1 s.links && (leb s.links max_links && (leb s.vendor max_vendor
    && text_rule s.text.octets s.text.len))))

unfoldable pub rules : Device → Bool
rules d =
    settings_rule d.settings && (within power_state d.power && (eqb (length d.links) max_links
    && all_below max_links (λ k. link_kept d.settings.links (get_or d.links k no_link) k)))
