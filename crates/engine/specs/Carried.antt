-- Histories on the box, whatever carries them (02, T-14: "stated once over checked bodies and carried to each framing").
use Rattle.std.specs.Prelude.{◌≡◌, List, map, ℕ}
use Rattle.device.specs.declared.state.Device.{Device}
use Rattle.engine.specs.Merged.{device_after, replies_to}

-- what came of a history: the checked bodies in order, the octets written, a list for each reply, and the box at the end
pub record Transcript : Type 0 where
  pub bodies : List (List ℕ)
  pub written : List (List ℕ)
  pub device : Device

-- what a framing has to show of a history from the box d, with `frame` for how it writes a body
pub record Carried (frame : List ℕ → List ℕ) (d : Device) (t : Transcript) : Type 0 where
  pub written : t.written ≡ map frame (replies_to d t.bodies)
  pub device : t.device ≡ device_after d t.bodies
