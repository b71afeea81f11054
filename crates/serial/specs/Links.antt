-- What one link has of a history of receiving calls (01, Whole histories).
use Rattle.std.specs.Prelude.{List, ℕ}
use Rattle.device.specs.declared.state.Settings.{Settings}
use Rattle.device.specs.Setup.{Setup, device_from}
use Rattle.engine.specs.Merged.{Item, merged}
use Rattle.engine.specs.Links.{replies_on, picked}
use Rattle.serial.specs.Histories.{History, replies_in, bodies}

-- what setup made of its settings
abbrev pub settings_in : Setup → Settings
settings_in s = (device_from s).settings

-- link k's merged sequence
unfoldable pub merged_in : Setup → ℕ → History → List Item
merged_in s k h = merged (settings_in s) k (bodies h)

-- link k's replies, "those to its checked frames but resets": the octets that the calls wrote, and the bodies that the engine replied
unfoldable pub octets_to : Setup → ℕ → History → List (List ℕ)
octets_to s k h = picked (settings_in s) k (bodies h) (replies_in s h)

unfoldable pub bodies_to : Setup → ℕ → History → List (List ℕ)
bodies_to s k h = replies_on k (device_from s) (bodies h)
