-- PROMISE: the premise of `separate` can be met. Two histories of link 1: one with noise, cuts in a frame and in an escape, both refusals,
-- joined frames and settings of link 0, the other clean. Their octets and bodies differ, and link 1's merged sequence is the same six
-- items, by computation. So link 1's replies, values and last status are the same; they are those that were worked out from 01's text
-- (engine, proofs/MarkedBodies.antt).
use mathlib.Core.Path.{◌≡◌, refl, sym, ap, ◌∙◌}
use mathlib.Core.List.{List, [], ◌∷◌, map}
use Prim.Native.Nat.{ℕ}
use native.Mathlib.Omega.{arith}
use lib.ListN.{length, replicate}
use Rattle.octets.specs.Finding.{before}
use Rattle.octets.specs.LittleEndian.{le, le_at}
use Rattle.octets.specs.Padding.{pad}
use Rattle.octets.specs.Ranges.{is_between}
use Rattle.utf8.specs.Utf8.{leads, lead_in, step, ends, is_utf8}
use Rattle.frame.specs.Kind.{is_flag, is_escape, is_skipped}
use Rattle.frame.specs.Frame.{frame}
use Rattle.frame.specs.Fcs.{fcs_bit, fcs_bits, fcs_octet, fcs_from, fcs}
use Rattle.hdlc.specs.Fate.{given}
use Rattle.hdlc.specs.Reader.{body_of, check_of, max_gathered}
use Rattle.hdlc.specs.Wire.{kept, meant, pends, gathered, cut_escape, content_fate, piece_fate, ended, grown, finished, unfinished, fates_of, checked_of, checked_in, piece_fate_at, call, call_reads}
use Rattle.device.specs.State.{fresh}
use Rattle.device.specs.Text.{good_text, is_text}
use Rattle.device.specs.Setup.{is_good_setup, setup_for, device_from}
use Rattle.device.specs.declared.view.Effect.TheVariants.{Reset, Powered}
use Rattle.command.specs.Effects.{is_reset, is_power, effect_of}
use Rattle.engine.specs.Engine.{link_of, is_set_up}
use Rattle.engine.specs.Merged.{device_after, Item, whole, only, effect_item, item_of, merged}
use Rattle.engine.specs.Links.{replies_on, values_on, status_on}
use Rattle.engine.specs.Worked.{worked_setup, worked_bodies, replies_on1, values_on1}
use Rattle.engine.proofs.MarkedBodies.{worked_links}
use Rattle.serial.specs.Receiving.{min_output}
use Rattle.serial.specs.Histories.{own, short, ReceivingCall, History, end_of, is_refused, read_by, laid_from, laid, bodies, device_in}
use Rattle.serial.specs.Links.{merged_in, octets_to, bodies_to}
use Rattle.serial.proofs.Faithful.{faithful}
use Rattle.serial.proofs.Separate.{Alike, octets_framed, separate}

-- a call with the own buffer and room for a reply
abbrev reads : List ℕ → ReceivingCall
reads xs = record { lent = own; input = xs; output = replicate min_output 0 }

abbrev pub noisy : History
noisy =
    record {
      assembly = replicate max_gathered 7;
      calls =
          reads (0x01 ∷ 0x02 ∷ 0x03 ∷ 0x7e ∷ []) ∷  -- noise
          reads (0x7d ∷ 0x7e ∷ []) ∷  -- a cut escape
          reads (0x7e ∷ 0x83 ∷ 0x03 ∷ 0x21 ∷ []) ∷  -- the channel of link 0, cut
          record { lent = own; input = 0x1a ∷ 0x29 ∷ 0x9e ∷ 0x7e ∷ []; output = [] } ∷  -- refused with 13
          record { lent = short (replicate 7 0) (omega arith); input = 0x1a ∷ 0x29 ∷ []; output = replicate min_output 0 } ∷  -- refused with 12
          reads (0x1a ∷ 0x29 ∷ 0x9e ∷ 0x7e ∷ []) ∷
          reads (0x81 ∷ 0x01 ∷ 0xda ∷ 0x8b ∷ 0x7e ∷ []) ∷  -- a reset by link 0
          reads (0x93 ∷ 0x03 ∷ 0x21 ∷ 0x0c ∷ 0x3f ∷ 0x28 ∷ []) ∷  -- the channel of link 1, its flag in the next call
          reads (0x7e ∷ []) ∷
          reads (0x83 ∷ 0x03 ∷ 0x07 ∷ 0x02 ∷ 0x03 ∷ 0x75 ∷ 0x7e ∷ []) ∷  -- the power state, set by link 0
          reads (0x92 ∷ 0x02 ∷ 0x21 ∷ 0x36 ∷ 0xf9 ∷ 0x92 ∷ 0x02 ∷ 0x07 ∷ 0x02 ∷ 0xbd ∷ 0x7e ∷ []) ∷  -- two frames joined
          reads (0x92 ∷ 0x02 ∷ 0x07 ∷ 0x02 ∷ 0xbd ∷ 0x7e ∷ []) ∷  -- GET of the power state on link 1
          reads (0x93 ∷ 0x03 ∷ 0x21 ∷ 0xff ∷ 0x2b ∷ 0xed ∷ 0x7e ∷ []) ∷  -- a channel out of range
          reads (0x9d ∷ 0x04 ∷ 0x5c ∷ 0x7d ∷ []) ∷  -- a port inserted, cut in an escape
          reads (0x33 ∷ 0x00 ∷ 0x43 ∷ 0x66 ∷ 0x7e ∷ []) ∷
          [];
    }

abbrev pub clean : History
clean =
    record {
      assembly = replicate 1400 0;
      calls =
          reads (0x7e ∷ 0x84 ∷ 0x01 ∷ 0x62 ∷ 0xf5 ∷ 0x7e ∷ []) ∷  -- a reset by link 0, under another transaction id
          reads (0x7e ∷ 0x93 ∷ 0x03 ∷ 0x21 ∷ 0x0c ∷ 0x3f ∷ 0x28 ∷ 0x7e ∷ []) ∷
          reads (0x7e ∷ 0x89 ∷ 0x03 ∷ 0x07 ∷ 0x02 ∷ 0xad ∷ 0xa9 ∷ 0x7e ∷ []) ∷
          reads (0x7e ∷ 0x92 ∷ 0x02 ∷ 0x07 ∷ 0x02 ∷ 0xbd ∷ 0x7e ∷ []) ∷
          reads (0x7e ∷ 0x93 ∷ 0x03 ∷ 0x21 ∷ 0xff ∷ 0x2b ∷ 0xed ∷ 0x7e ∷ []) ∷
          reads (0x7e ∷ 0x9d ∷ 0x04 ∷ 0x5c ∷ 0x7d ∷ 0x33 ∷ 0x00 ∷ 0x43 ∷ 0x66 ∷ 0x7e ∷ []) ∷
          [];
    }

-- a reset and power state 2 by link 0, and four bodies of link 1
abbrev pub expected : List Item
expected =
    only Reset ∷
    whole (0x93 ∷ 0x03 ∷ 0x21 ∷ 0x0c ∷ []) ∷
    only (Powered 2) ∷
    whole (0x92 ∷ 0x02 ∷ 0x07 ∷ []) ∷
    whole (0x93 ∷ 0x03 ∷ 0x21 ∷ 0xff ∷ []) ∷
    whole (0x9d ∷ 0x04 ∷ 0x5c ∷ 0x13 ∷ 0x00 ∷ []) ∷
    []

pub both_merged : (merged_in worked_setup 1 noisy ≡ expected) × (merged_in worked_setup 1 clean ≡ expected)
unfolding before le le_at pad is_flag is_escape is_skipped fcs_bit fcs_bits fcs_octet fcs_from fcs body_of check_of given
    kept meant pends gathered cut_escape content_fate piece_fate ended grown finished unfinished fates_of piece_fate_at call call_reads
    is_utf8 step leads lead_in is_between ends good_text is_text fresh is_good_setup setup_for link_of is_set_up is_reset is_power effect_of effect_item item_of merged
    is_refused read_by laid_from laid checked_of checked_in bodies merged_in
both_merged = (refl, refl)

pub other_bodies : (length (bodies noisy) ≡ 7) × (bodies clean ≡ worked_bodies)
unfolding le le_at is_flag is_escape is_skipped fcs_bit fcs_bits fcs_octet fcs_from fcs body_of check_of given
    kept meant pends gathered cut_escape content_fate piece_fate ended grown finished unfinished fates_of piece_fate_at call call_reads
    is_refused read_by laid_from laid checked_of checked_in bodies
other_bodies = (refl, refl)

pub alike : Alike worked_setup 1 noisy clean
alike = separate worked_setup 1 (omega arith) noisy clean (both_merged.0 ∙ sym both_merged.1)

-- ---- so link 1 has of the noisy history what was worked out for the bodies of the clean one

pub noisy_replies : (bodies_to worked_setup 1 noisy ≡ replies_on1) × (octets_to worked_setup 1 noisy ≡ map frame replies_on1)
unfolding bodies_to
noisy_replies =
    let replied = alike.bodies ∙ ap (replies_on 1 (device_from worked_setup)) other_bodies.1 ∙ worked_links.replies_1 in
    (replied, octets_framed worked_setup 1 noisy ∙ ap (map frame) replied)

pub noisy_values : let d = (end_of worked_setup noisy).device in (values_on 1 d ≡ values_on1) × (status_on 1 d ≡ 3 ∷ [])
unfolding device_in
noisy_values =
    let end = (faithful worked_setup clean).device ∙ ap (device_after (device_from worked_setup)) other_bodies.1 in
    (alike.values ∙ ap (values_on 1) end ∙ worked_links.values_1, alike.status ∙ ap (status_on 1) end ∙ worked_links.status_1)
