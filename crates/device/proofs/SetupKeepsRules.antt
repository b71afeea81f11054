-- PROMISE: setup's box keeps the rules, refused or not, and so does a fresh box of settings that keep theirs.
use mathlib.Core.Path.{◌≡◌, refl, ◌∙◌}
use mathlib.Core.Bool.{true}
use mathlib.Core.List.{List, []}
use Prim.Native.Nat.{ℕ, ◌<◌}
use borrow.Author.Tests.{eqb-true}
use lib.Dec.{ltb}
use lib.ListN.{length, get_or, replicate, get_or-replicate}
use Rattle.octets.specs.Finding.{before}
use Rattle.octets.specs.Padding.{pad}
use Rattle.octets.specs.Scanning.{all_from, all_below, zeros_from}
use Rattle.octets.proofs.LawsTests.{chosen}
use Rattle.octets.proofs.LawsScanning.{all_of}
use Rattle.utf8.specs.Utf8.{ends, is_utf8}
use Rattle.property.specs.Number.{numbers, within}
use Rattle.device.specs.declared.state.Settings.{Settings}
use Rattle.device.specs.State.{defaults, fresh_link, no_link, fresh, address_size, max_text, max_links}
use Rattle.device.specs.Text.{good_text, is_text}
use Rattle.device.specs.Ports.{ports_in, distinct}
use Rattle.device.specs.Rules.{padded, text_rule, ports_rule, in_range, stack_rule, sized, link_rule, at_defaults, is_fresh, link_kept, settings_rule, rules}
use Rattle.device.specs.Setup.{Report, is_good_setup, settings_from, refusal, setup_for, Setup, device_from}
use Rattle.device.proofs.LawsSetup.{setup_rule, setup_told}
use Rattle.device.proofs.LawsRules.{text_told}

-- the fresh link keeps the rule of a link that is set up, and that of one that is not
fresh_set : link_rule fresh_link ≡ true
unfolding link_rule sized in_range stack_rule text_rule ports_rule padded is_text good_text is_utf8 ends ports_in distinct
    before defaults numbers within pad all_below all_from zeros_from
fresh_set = refl

pub fresh_unset : is_fresh fresh_link ≡ true
unfolding is_fresh sized at_defaults defaults numbers pad all_below all_from zeros_from
fresh_unset = refl

fresh_kept : (links k : ℕ) → k < max_links → link_kept links (get_or (replicate max_links fresh_link) k no_link) k ≡ true
unfolding link_kept
fresh_kept links k h = rw (get_or-replicate max_links k fresh_link no_link h) (chosen (λ b. b ≡ true) (ltb k links) (λ e. fresh_set) (λ e. fresh_unset))

pub fresh_keeps : (s : Settings) → settings_rule s ≡ true → rules (fresh s) ≡ true
unfolding rules fresh within
fresh_keeps s t = rw (t, all_of max_links (λ k. link_kept s.links (get_or (replicate max_links fresh_link) k no_link) k) (fresh_kept s.links))

refusal_keeps : rules refusal.device ≡ true
unfolding refusal settings_rule text_rule padded is_text good_text is_utf8 ends before pad zeros_from all_from
refusal_keeps = fresh_keeps (settings_from 1 0 [] (replicate address_size 0)) refl

ready_keeps : (links vendor : ℕ) (text address : List ℕ) → is_good_setup links vendor text address ≡ true
    → rules (fresh (settings_from links vendor text address)) ≡ true
ready_keeps links vendor text address t =
    let f = setup_told links vendor text address t in
    fresh_keeps (settings_from links vendor text address)
    (setup_rule links vendor text address (text_told max_text text f.3) (eqb-true (length address) address_size f.4) ∙ t)

pub setup_keeps : (links vendor : ℕ) (text address : List ℕ) → rules (setup_for links vendor text address).device ≡ true
unfolding setup_for
setup_keeps links vendor text address =
    chosen (λ (r : Report). rules r.device ≡ true) (is_good_setup links vendor text address) (ready_keeps links vendor text address) (λ e. refusal_keeps)

pub device_from_keeps : (s : Setup) → rules (device_from s) ≡ true
device_from_keeps s = setup_keeps s.links s.vendor s.text s.address
