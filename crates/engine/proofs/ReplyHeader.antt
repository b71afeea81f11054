-- PROMISE: "A reply repeats the request's header, zero transactions too, save RESET's", which is 80.
use mathlib.Core.Path.{◌≡◌, refl}
use mathlib.Core.Bool.{cond, ◌&&◌}
use mathlib.Core.List.{List}
use Prim.Native.Nat.{ℕ, ◌/◌}
use Rattle.octets.specs.Body.{header_of}
use Rattle.octets.proofs.LawsTests.{by_test, chosen}
use Rattle.property.specs.Commands.{spinel_header}
use Rattle.device.specs.declared.state.Device.{Device}
use Rattle.device.specs.View.{view_of}
use Rattle.reply.specs.Reply.{status_reply}
use Rattle.command.specs.Effects.{is_reset}
use Rattle.command.proofs.LawsDecisions.{decide_header}
use Rattle.engine.specs.Engine.{link_of, is_set_up, settled, engine}

pub reply_header : (d : Device) (b : List ℕ) → header_of (engine d b).reply ≡ cond (is_set_up d.settings b && is_reset b) spinel_header (header_of b)
unfolding engine settled status_reply
reply_header d b = by_test (is_set_up d.settings b) (λ e. rw e (decide_header (view_of (link_of b) d) b)) (λ e. rw e)

-- so a request whose header begins with the bits 10 has such a reply
pub reply_top : (d : Device) (b : List ℕ) → header_of b / 64 ≡ 2 → header_of (engine d b).reply / 64 ≡ 2
reply_top d b h = rw (reply_header d b) (chosen (λ n. n / 64 ≡ 2) (is_set_up d.settings b && is_reset b) (λ _. refl) (λ _. h))
