-- One body on the box (01, Commands).
use Rattle.std.specs.Prelude.{ℕ, ◌/◌, ◌%◌, Bool, cond, List, ltb, set}
use Rattle.octets.specs.Body.{header_of}
use Rattle.device.specs.State.{fresh}
use Rattle.device.specs.declared.state.Link.{Link}
use Rattle.device.specs.declared.state.Settings.{Settings}
use Rattle.device.specs.declared.state.Device.{Device}
use Rattle.device.specs.declared.view.Effect.{Effect}
use Rattle.device.specs.declared.view.Effect.TheVariants.{None, Reset, Powered}
use Rattle.device.specs.View.{view_of}
use Rattle.reply.specs.Reply.{status_reply}
use Rattle.command.specs.Decision.{Decision, decide}

-- "two bits 10, two bits link, four bits transaction"
unfoldable pub link_of : List ℕ → ℕ
link_of b = header_of b / 16 % 4

unfoldable pub is_set_up : Settings → List ℕ → Bool
is_set_up s b = ltb (link_of b) s.links

-- the box after an effect, with link k as a body left it: RESET "puts all links and the power state to defaults, every last status to 114"
unfoldable pub affect : Effect → Device → ℕ → Link → Device
affect None d k l = record { settings = d.settings; power = d.power; links = set d.links k l }
affect Reset d k l = fresh d.settings
affect (Powered x) d k l = record { settings = d.settings; power = x; links = set d.links k l }

pub record Response : Type 0 where
  pub device : Device
  pub reply : List ℕ

unfoldable pub settled : Device → ℕ → Decision → Response
settled d k o = record { device = affect o.effect d k o.link; reply = o.reply }

-- step 1, "link not set up: status 6"; "An unset link has none", so nothing changes
unfoldable pub engine : Device → List ℕ → Response
engine d b =
    cond (is_set_up d.settings b)
    (settled d (link_of b) (decide (view_of (link_of b) d) b))
    (record { device = d; reply = status_reply (header_of b) 6 })
