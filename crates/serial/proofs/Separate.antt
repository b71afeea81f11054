-- PROMISE: links are separate, over whole histories (00, demand 3). Take any settings, good or bad, any two histories from them, and any
-- link k of 0 to 3. If link k's merged sequence is the same in both, then so are its replies, as bodies and as octets written, in the
-- same order, and at the end its values in every row of the table and its last status. This is the engine's promise over checked bodies
-- (engine, proofs/AnyFraming.antt), carried by the cable; from any box that keeps its rules, and so from what setup returns.
use mathlib.Core.Path.{◌≡◌}
use mathlib.Core.Bool.{true}
use mathlib.Core.List.{map}
use Prim.Native.Nat.{ℕ, ◌<◌}
use Rattle.frame.specs.Frame.{frame}
use Rattle.device.specs.State.{max_links}
use Rattle.device.specs.Rules.{rules}
use Rattle.device.specs.declared.state.Device.{Device}
use Rattle.device.specs.Setup.{Setup, device_from}
use Rattle.device.proofs.SetupKeepsRules.{device_from_keeps}
use Rattle.engine.specs.Merged.{merged}
use Rattle.engine.specs.Links.{octets_on, values_on, status_on, AlikeOn}
use Rattle.engine.proofs.AnyFraming.{octets_framed as carried-framed, separate as carried-separate}
use Rattle.serial.specs.Histories.{History, end_from, replies_from, end_of, replies_in, bodies, transcript}
use Rattle.serial.specs.Links.{merged_in, octets_to, bodies_to}
use Rattle.serial.proofs.Faithful.{carried}

pub record Alike (s : Setup) (k : ℕ) (g h : History) : Type 0 where
  pub bodies : bodies_to s k g ≡ bodies_to s k h
  pub octets : octets_to s k g ≡ octets_to s k h
  pub values : values_on k (end_of s g).device ≡ values_on k (end_of s h).device
  pub status : status_on k (end_of s g).device ≡ status_on k (end_of s h).device

-- what the calls wrote for link k is what the engine replied to it, framed
pub octets_framed : (s : Setup) (k : ℕ) (h : History) → octets_to s k h ≡ map frame (bodies_to s k h)
unfolding octets_to bodies_to replies_in replies_from octets_on
octets_framed s k h = carried-framed (carried (device_from s) (device_from_keeps s) h) k

-- from any box that keeps its rules
pub separate_from : (d : Device) → rules d ≡ true → (k : ℕ) → k < max_links → (g h : History)
    → merged d.settings k (bodies g) ≡ merged d.settings k (bodies h) → AlikeOn k d (transcript d g) (transcript d h)
separate_from d keeps k few g h m = carried-separate (carried d keeps g) (carried d keeps h) keeps k few m

pub separate : (s : Setup) (k : ℕ) → k < max_links → (g h : History) → merged_in s k g ≡ merged_in s k h → Alike s k g h
unfolding merged_in bodies_to octets_to replies_in replies_from end_of end_from octets_on
separate s k few g h m =
    let alike = separate_from (device_from s) (device_from_keeps s) k few g h m in
    record { bodies = alike.replies; octets = alike.octets; values = alike.values; status = alike.status }
