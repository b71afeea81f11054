-- Sequences of bodies, and what one link has to do with them (01, Whole histories).
use Rattle.std.specs.Prelude.{ℕ, cond, ◌&&◌, eqb}
use mathlib.Core.List.{List, [], ◌∷◌, foldl}
use Rattle.octets.specs.Body.{header_of}
use Rattle.octets.specs.Runs.{each, emitted}
use Rattle.property.specs.Number.{power_state}
use Rattle.device.specs.State.{fresh_link}
use Rattle.device.specs.declared.state.Settings.{Settings}
use Rattle.device.specs.declared.state.Device.{Device}
use Rattle.device.specs.declared.state.Link.{Link}
use Rattle.device.specs.declared.view.View.{View}
use Rattle.device.specs.declared.view.Effect.{Effect}
use Rattle.device.specs.declared.view.Effect.TheVariants.{None, Reset, Powered}
use Rattle.reply.specs.Reply.{status_reply}
use Rattle.command.specs.Decision.{decide}
use Rattle.command.specs.Effects.{is_reset, effect_of}
use Rattle.engine.specs.Engine.{link_of, is_set_up, engine}

-- ---- bodies one after the other

abbrev pub device_step : Device → List ℕ → Device
device_step d b = (engine d b).device

unfoldable pub device_after : Device → List (List ℕ) → Device
device_after d bs = foldl device_step d bs

-- one reply to each body, in order
unfoldable pub replies_to : Device → List (List ℕ) → List (List ℕ)
replies_to d bs = emitted (λ e b. (engine e b).reply ∷ []) device_step d bs

-- ---- a link's merged sequence

-- a body of the link, whole, or the effect of another's
pub data Item : Type 0 where
  whole : List ℕ → Item
  only : Effect → Item

-- no effect leaves nothing
unfoldable pub effect_item : Effect → List Item
effect_item None = []
effect_item Reset = only Reset ∷ []
effect_item (Powered x) = only (Powered x) ∷ []

unfoldable pub item_of : Settings → ℕ → List ℕ → List Item
item_of s k b = cond (eqb (link_of b) k) (whole b ∷ []) (cond (is_set_up s b) (effect_item (effect_of b)) [])

-- "in the order received, each checked body of link k whole, and of other links' bodies only the effects"
unfoldable pub merged : Settings → ℕ → List (List ℕ) → List Item
merged s k bs = each (item_of s k) bs

-- ---- a link alone, which knows nothing but its view and its merged sequence

-- what an effect leaves of a view whose link a body left as l
unfoldable pub moved : Effect → View → Link → View
moved None v l = record { settings = v.settings; power = v.power; link = l }
moved Reset v l = record { settings = v.settings; power = power_state.default; link = fresh_link }
moved (Powered x) v l = record { settings = v.settings; power = x; link = l }

unfoldable pub view_step : View → Item → View
view_step v (whole b) = cond (is_set_up v.settings b) (moved (effect_of b) v (decide v b).link) v
view_step v (only e) = moved e v v.link

unfoldable pub view_after : View → List Item → View
view_after v items = foldl view_step v items

unfoldable pub reply_to : View → List ℕ → List ℕ
reply_to v b = cond (is_set_up v.settings b) (decide v b).reply (status_reply (header_of b) 6)

unfoldable pub item_replies : View → Item → List (List ℕ)
item_replies v (whole b) = cond (is_set_up v.settings b && is_reset b) [] (reply_to v b ∷ [])
item_replies v (only e) = []

unfoldable pub view_replies : View → List Item → List (List ℕ)
view_replies v items = emitted item_replies view_step v items
