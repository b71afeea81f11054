-- What a command on one link can see, and what it can do beyond that link.
use Rattle.std.specs.Prelude.{ℕ, get_or}
use Rattle.property.specs.Number.{power_state}
use Rattle.device.specs.State.{no_link}
use Rattle.device.specs.declared.state.Link.{Link}
use Rattle.device.specs.declared.state.Device.{Device}
use Rattle.device.specs.declared.view.View.{View}
use Rattle.device.specs.declared.view.Effect.{Effect}
use Rattle.device.specs.declared.view.Effect.TheVariants.{None, Reset, Powered}

-- link k, and the values that all links share
abbrev pub view_of : ℕ → Device → View
view_of k d = record { settings = d.settings; power = d.power; link = get_or d.links k no_link }

unfoldable pub power_after : ℕ → Effect → ℕ
power_after p None = p
power_after p Reset = power_state.default
power_after p (Powered x) = x

-- a view after an effect, with the link as a command left it
abbrev pub after : View → Effect → Link → View
after v e l = record { settings = v.settings; power = power_after v.power e; link = l }
