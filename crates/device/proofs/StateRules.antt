-- PROMISE: what the rules tell. A link that is set up keeps its rule, one that is not is the fresh link; the settings are in their ranges,
-- and the arrays have their lengths.
use mathlib.Core.Path.{◌≡◌, sym, ◌∙◌}
use mathlib.Core.Bool.{true}
use mathlib.Core.List.{List, []}
use Prim.Native.Nat.{ℕ, ◌%◌, ◌≤◌, ◌<◌}
use native.Mathlib.Omega.{arith}
use native.Mathlib.Nat.{sub-zero}
use borrow.Author.Tests.{eq-eqb, eqb-true, leb-true, lt-ltb, le-ltb}
use lib.Dec.{eqb, leb}
use lib.ListN.{length, get_or, replicate, length-replicate, get_or-replicate, take}
use lib.Seq.{ext_get_or, length-take-le}
use Rattle.octets.specs.Padding.{pad}
use Rattle.octets.specs.Scanning.{all_below, zeros_from}
use Rattle.octets.proofs.LawsScanning.{all_at, all_of}
use Rattle.property.specs.Status.{max_status, reset_status}
use Rattle.property.specs.Number.{numbers, number_at, power_state, within, slot_count}
use Rattle.octets.proofs.LawsTests.{both_told}
use Rattle.device.specs.declared.state.Link.{Link}
use Rattle.device.specs.declared.state.Settings.{Settings}
use Rattle.device.specs.declared.state.Device.{Device}
use Rattle.device.specs.State.{octets_of, defaults, fresh_link, no_link, max_held, max_text, max_vendor, address_size, max_links}
use Rattle.device.specs.Ports.{ports_in, distinct}
use Rattle.device.specs.Rules.{padded, text_rule, ports_rule, in_range, stack_rule, sized, link_rule, at_defaults, is_fresh, link_kept, settings_rule, rules}
use Rattle.device.proofs.LawsRules.{padded_within, default_at}

-- ---- a link's arrays

pub sized_told : (l : Link) → sized l ≡ true → (length l.numbers ≡ slot_count) × (length l.name.octets ≡ max_held) × (length l.ports.octets ≡ max_held)
unfolding sized
sized_told l t =
    let a = both_told t in
    let b = both_told a.1 in
    (eqb-true _ _ a.0, eqb-true _ _ b.0, eqb-true _ _ b.1)

-- ---- a link that is set up

pub record LinkFacts (l : Link) : Type 0 where
  pub sized : sized l ≡ true
  pub status : leb l.status max_status ≡ true
  pub range : in_range l.numbers ≡ true
  pub stack : stack_rule l.numbers ≡ true
  pub name : text_rule l.name.octets l.name.len ≡ true
  pub ports : ports_rule l.ports.octets l.ports.len ≡ true

pub link_told : (l : Link) → link_rule l ≡ true → LinkFacts l
unfolding link_rule
link_told l t =
    let a = both_told t in
    let b = both_told a.1 in
    let c = both_told b.1 in
    let d = both_told c.1 in
    let e = both_told d.1 in
    record { sized = a.0; status = b.0; range = c.0; stack = d.0; name = e.0; ports = e.1 }

pub link_from : (l : Link) → LinkFacts l → link_rule l ≡ true
unfolding link_rule
link_from l f = rw (f.sized, f.status, f.range, f.stack, f.name, f.ports)

-- ---- a link that is not set up

zeros : (n : ℕ) (xs : List ℕ) → length xs ≡ n → zeros_from 0 xs ≡ true → xs ≡ pad n []
unfolding pad zeros_from all_below
zeros n xs e t =
    let zs : List ℕ = replicate n 0 in
    let all = rw (sub-zero (length xs)) at t in
    rw (sub-zero n) (ext_get_or 0 xs zs (e ∙ sym (length-replicate n 0))
    (λ i h. eqb-true _ _ (all_at (length xs) (λ k. eqb (get_or xs k 0) 0) all i h) ∙ sym (get_or-replicate n i 0 0 (omega arith))))

at_defaults_lem : (xs : List ℕ) → length xs ≡ slot_count → at_defaults xs ≡ true → xs ≡ defaults
unfolding at_defaults defaults numbers
at_defaults_lem xs e t =
    ext_get_or 0 xs defaults e
    (λ i h. let low : i < slot_count = omega arith in
    eqb-true _ _ (all_at slot_count (λ k. eqb (get_or xs k 0) (number_at k).default) t i low) ∙ sym (default_at i low))

abbrev Fresh : Link → Type 0
Fresh l =
    (sized l ≡ true) × (eqb l.status reset_status ≡ true) × (eqb l.name.len 0 ≡ true) × (eqb l.ports.len 0 ≡ true)
    × (at_defaults l.numbers ≡ true) × (zeros_from 0 l.name.octets ≡ true) × (zeros_from 0 l.ports.octets ≡ true)

fresh_told : (l : Link) → is_fresh l ≡ true → Fresh l
unfolding is_fresh
fresh_told l t =
    let a = both_told t in
    let b = both_told a.1 in
    let c = both_told b.1 in
    let d = both_told c.1 in
    let e = both_told d.1 in
    let f = both_told e.1 in
    (a.0, b.0, c.0, d.0, e.0, f.0, f.1)

-- a link at its defaults is the fresh link
pub fresh_link_lem : (l : Link) → is_fresh l ≡ true → l ≡ fresh_link
fresh_link_lem l t =
    let f = fresh_told l t in
    let size = sized_told l f.0 in
    let numbers = at_defaults_lem l.numbers size.0 f.4 in
    let name = zeros max_held l.name.octets size.1 f.5 in
    let ports = zeros max_held l.ports.octets size.2 f.6 in
    λ i. record {
      status = eqb-true l.status reset_status f.1 i;
      numbers = numbers i;
      name = record { octets = name i; len = eqb-true l.name.len 0 f.2 i };
      ports = record { octets = ports i; len = eqb-true l.ports.len 0 f.3 i };
    }

-- ---- octets in their arrays

-- so many octets at the front of an array of so many places
pub record Room (xs : List ℕ) (n places : ℕ) : Type 0 where
  pub inside : n ≤ length xs
  pub most : n ≤ places
  pub counted : length (take n xs) ≡ n

room : (xs : List ℕ) (n places : ℕ) → length xs ≡ places → padded xs n ≡ true → Room xs n places
room xs n places size t =
    let inside = padded_within xs n t in
    record { inside = inside; most = omega arith; counted = length-take-le n xs inside }

text_room : (xs : List ℕ) (n places : ℕ) → length xs ≡ places → text_rule xs n ≡ true → Room xs n places
unfolding text_rule
text_room xs n places size t = room xs n places size (both_told t).0

ports_told : (xs : List ℕ) (n : ℕ) → ports_rule xs n ≡ true → (padded xs n ≡ true) × (eqb (n % 2) 0 ≡ true) × (distinct (ports_in (take n xs)) ≡ true)
unfolding ports_rule
ports_told xs n t =
    let a = both_told t in
    let b = both_told a.1 in
    (a.0, b.0, b.1)

module _ (l : Link) (t : link_rule l ≡ true) where
  pub nine_numbers : length l.numbers ≡ slot_count
  nine_numbers = (sized_told l (link_told l t).sized).0

  pub name_room : Room l.name.octets l.name.len max_held
  name_room = let f = link_told l t in text_room _ _ max_held (sized_told l f.sized).1 f.name

  pub ports_room : Room l.ports.octets l.ports.len max_held
  ports_room = let f = link_told l t in room _ _ max_held (sized_told l f.sized).2 (ports_told _ _ f.ports).0

  -- ports have two octets each, and none stands twice
  pub ports_even : length (octets_of l.ports) % 2 ≡ 0
  ports_even = rw ports_room.counted (eqb-true _ _ (ports_told _ _ (link_told l t).ports).1)

  pub ports_distinct : distinct (ports_in (octets_of l.ports)) ≡ true
  ports_distinct = (ports_told _ _ (link_told l t).ports).2

-- ---- settings

pub record SettingsFacts (s : Settings) : Type 0 where
  pub text : Room s.text.octets s.text.len max_text
  pub address : length s.address ≡ address_size
  pub some : 1 ≤ s.links
  pub links : s.links ≤ max_links
  pub vendor : s.vendor ≤ max_vendor

pub settings_told : (s : Settings) → settings_rule s ≡ true → SettingsFacts s
unfolding settings_rule
settings_told s t =
    let a = both_told t in
    let b = both_told a.1 in
    let c = both_told b.1 in
    let d = both_told c.1 in
    let e = both_told d.1 in
    record {
      text = text_room _ _ max_text (eqb-true _ _ a.0) e.1;
      address = eqb-true _ _ b.0;
      some = leb-true _ _ c.0;
      links = leb-true _ _ d.0;
      vendor = leb-true _ _ e.0;
    }

-- ---- the box

pub rules_from : (d : Device) → settings_rule d.settings ≡ true → within power_state d.power ≡ true → length d.links ≡ max_links
    → ((k : ℕ) → k < max_links → link_kept d.settings.links (get_or d.links k no_link) k ≡ true) → rules d ≡ true
unfolding rules
rules_from d s p four kept = rw (s, p, eq-eqb _ _ four, all_of max_links (λ k. link_kept d.settings.links (get_or d.links k no_link) k) kept)

module _ (d : Device) (t : rules d ≡ true) where
  parts : (settings_rule d.settings ≡ true) × (within power_state d.power ≡ true) × (eqb (length d.links) 4 ≡ true)
      × (all_below max_links (λ k. link_kept d.settings.links (get_or d.links k no_link) k) ≡ true)
  unfolding rules
  parts =
      let a = both_told t in
      let b = both_told a.1 in
      let c = both_told b.1 in
      (a.0, b.0, c.0, c.1)

  pub settings_of : settings_rule d.settings ≡ true
  settings_of = parts.0

  pub power_of : within power_state d.power ≡ true
  power_of = parts.1

  pub four : length d.links ≡ max_links
  four = eqb-true _ _ parts.2

  pub some : 1 ≤ d.settings.links
  some = (settings_told d.settings settings_of).some

  pub few : d.settings.links ≤ max_links
  few = (settings_told d.settings settings_of).links

  pub kept : (k : ℕ) → k < max_links → link_kept d.settings.links (get_or d.links k no_link) k ≡ true
  kept k h = all_at max_links (λ j. link_kept d.settings.links (get_or d.links j no_link) j) parts.3 k h

  -- a link that is set up keeps its rule
  pub link_at : (k : ℕ) → k < d.settings.links → link_rule (get_or d.links k no_link) ≡ true
  unfolding link_kept
  link_at k h = rw (lt-ltb k d.settings.links h) at (kept k (omega (arith, few)))

  -- and one that is not is the fresh link
  pub unset_at : (k : ℕ) → k < max_links → d.settings.links ≤ k → get_or d.links k no_link ≡ fresh_link
  unfolding link_kept
  unset_at k h past = fresh_link_lem (get_or d.links k no_link) (rw (le-ltb k d.settings.links past) at (kept k h))
