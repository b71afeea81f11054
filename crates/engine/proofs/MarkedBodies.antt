-- PROMISE: every marked body of 01 has the reply that 01 gives it, in one statement over the table. And what demand 3 compares is there: one
-- link's replies, values and last status after six bodies, and other links' replies, are those worked out from 01's text.
use mathlib.Core.Path.{◌≡◌, refl}
use mathlib.Core.List.{[], ◌∷◌, map}
use Rattle.octets.specs.Finding.{before}
use Rattle.octets.specs.LittleEndian.{le, le_octets}
use Rattle.octets.specs.Padding.{pad}
use Rattle.octets.specs.Ranges.{is_between}
use Rattle.packed.specs.Packed.{packed, packed_in, joined, number_in, packed_at}
use Rattle.utf8.specs.Utf8.{leads, lead_in, step, ends, is_utf8}
use Rattle.property.specs.Row.{rows, lookup, allows}
use Rattle.property.specs.Number.{numbers, within}
use Rattle.device.specs.State.{defaults, fresh}
use Rattle.device.specs.Text.{good_text, is_text}
use Rattle.device.specs.Ports.{ports_in, holds, distinct}
use Rattle.device.specs.Setup.{is_good_setup, refusal, setup_for, Setup, device_from}
use Rattle.device.specs.View.{power_after}
use Rattle.request.specs.Verdict.{command_of, verdict}
use Rattle.method.specs.Perform.{get_with, perform}
use Rattle.method.specs.Set.{value_in, conflicts, number_to, set_number, power_to, set_power, set_name, set_ports, set_kind}
use Rattle.method.specs.Items.{insert_port, without, remove_port}
use Rattle.reply.specs.Value.{fixed_value, number_value, value_of}
use Rattle.reply.specs.Reply.{status_reply, reply_command, content, success_reply}
use Rattle.command.specs.Effects.{is_reset}
use Rattle.command.specs.Decision.{concluded, reached, judged_by, judged, status_decision, decision_of, decide}
use Rattle.engine.specs.Engine.{link_of, is_set_up, affect, settled, engine}
use Rattle.engine.specs.Merged.{device_after, replies_to}
use Rattle.engine.specs.Links.{is_answered, replies_on, values_on, status_on}
use Rattle.engine.specs.Marked.{fresh_box, marked}
use Rattle.engine.specs.Worked.{worked_setup, worked_bodies, replies_on0, replies_on1, values_on1, unset_body, unset_reply}

pub marked_bodies : map (λ l. replies_to fresh_box l.bodies) marked ≡ map (λ l. l.replies) marked
unfolding before le le_octets pad packed packed_in joined number_in packed_at rows lookup allows numbers within
    is_utf8 ends good_text is_text ports_in holds distinct defaults fresh is_good_setup refusal setup_for power_after command_of verdict
    get_with value_in conflicts number_to set_number power_to set_power set_name set_ports set_kind insert_port without remove_port perform
    fixed_value number_value value_of status_reply reply_command content success_reply concluded reached judged_by judged status_decision decision_of
    decide link_of is_set_up affect settled engine fresh_box replies_to marked
marked_bodies = refl

-- what links have of the worked bodies
pub record WorkedLinks (s : Setup) : Type 0 where
  pub replies_0 : replies_on 0 (device_from s) worked_bodies ≡ replies_on0
  pub replies_1 : replies_on 1 (device_from s) worked_bodies ≡ replies_on1
  pub replies_2 : replies_on 2 (device_from s) (unset_body ∷ []) ≡ unset_reply ∷ []
  pub values_1 : values_on 1 (device_after (device_from s) worked_bodies) ≡ values_on1
  pub status_1 : status_on 1 (device_after (device_from s) worked_bodies) ≡ 3 ∷ []
  pub status_2 : status_on 2 (device_after (device_from s) worked_bodies) ≡ []

pub worked_links : WorkedLinks worked_setup
unfolding before le le_octets pad packed packed_in joined number_in packed_at rows lookup allows numbers within
    is_utf8 step leads lead_in is_between ends good_text is_text ports_in holds distinct defaults fresh is_good_setup setup_for power_after command_of verdict
    get_with value_in conflicts number_to set_number power_to set_power set_kind insert_port perform
    fixed_value number_value value_of status_reply reply_command content success_reply concluded reached judged_by judged status_decision decision_of
    decide is_reset link_of is_set_up affect settled engine device_after is_answered replies_on values_on status_on
worked_links = record { replies_0 = refl; replies_1 = refl; replies_2 = refl; values_1 = refl; status_1 = refl; status_2 = refl }
