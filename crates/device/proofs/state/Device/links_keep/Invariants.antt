-- The invariant: what is left is as the whole.
use mathlib.Core.Path.{◌≡◌}
use Prim.Native.Nat.{◌-◌}
use lib.ListN.{get_or}
use Rattle.octets.specs.Scanning.{all_from, all_below}
use Rattle.device.specs.State.{no_link, max_links}
use Rattle.device.specs.Rules.{link_kept}
use Rattle.device.proofs.state.Device.links_keep.Given as goal

abbrev pub invariant-loop-k : goal.invariant-loop-k
invariant-loop-k l =
    all_below max_links (λ j. link_kept l.self.settings.links (get_or l.self.links j no_link) j) ≡ all_from (λ j. link_kept l.self.settings.links (get_or l.self.links j no_link) j) l.k (max_links - l.k)
