-- What setup returns for these settings, which keeps the rules.
use mathlib.Core.Path.{ap}
use mathlib.Core.List.{[]}
use lib.ListN.{replicate}
use Rattle.device.specs.State.{address_size}
use Rattle.device.proofs.SetupKeepsRules.{setup_keeps}
use Rattle.engine.specs.Marked.{fresh_box}
use Rattle.engine.proofs.marked.two_links.Goals as goal

pub returns : goal.returns
unfolding fresh_box
returns c =
    let e = ap (λ t. t.device) c.setup.ensures in record { device = e; keeps = rw e (setup_keeps 2 0 [] (replicate address_size 0)) }
