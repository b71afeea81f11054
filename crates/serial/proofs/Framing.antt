-- PROMISE: with an output of 128 octets or more, the receiving call is the one before framing, and what that wrote stands framed in the
-- output. The two differ in nothing else. 128 is 01's "at most 2n+6 octets framed" for the longest reply body.
use mathlib.Core.Path.{◌≡◌, refl}
use mathlib.Core.List.{List}
use Prim.Native.Nat.{ℕ, ◌+◌, ◌*◌, ◌≤◌}
use borrow.Author.Tests.{le-ltb}
use lib.Dec.{ltb}
use lib.ListN.{length}
use Rattle.octets.proofs.LawsTests.{by_test}
use Rattle.hdlc.specs.declared.reader.Reader.{Reader}
use Rattle.hdlc.specs.Reader.{max_gathered, assembling, run}
use Rattle.device.specs.State.{max_reply}
use Rattle.device.specs.declared.state.Device.{Device}
use Rattle.serial.specs.Receiving.{min_output, breaks_rules, receive, receive_body, framed}
use Rattle.serial.proofs.LawsReceiving.{rules_kept, unrefused_framed}

pub receive_framed : (d : Device) (r : Reader) (input a space out : List ℕ) → min_output ≤ length out
    → receive d r input a out ≡ framed (receive_body d r input a space) out
unfolding receive receive_body framed
receive_framed d r input a space out room =
    by_test (breaks_rules d r) (λ t. rw t)
    (λ t. rw t
    (by_test (ltb (length a) max_gathered) (λ u. rw u)
    (λ u. rw (u, le-ltb _ _ room) (unrefused_framed d (run (assembling r a) input) space out (rules_kept d r t).0))))

pub least_output : min_output ≡ 2 * max_reply + 6
least_output = refl
