-- PROMISE: where box and reader keep their rules and the assembly buffer has room, the call before framing is not refused, reads an octet at
-- least of an input that has one and no more than there are, and leaves a box, a reader and a buffer of which the same holds.
use mathlib.Core.Bool.{true}
use mathlib.Core.Path.{◌≡◌, ap, ◌∙◌}
use mathlib.Core.List.{List}
use Prim.Native.Nat.{ℕ, ◌≤◌, ◌<◌}
use native.Mathlib.Omega.{arith}
use borrow.Author.Tests.{le-ltb}
use lib.Dec.{eqb}
use lib.ListN.{length}
use Rattle.octets.proofs.LawsTests.{by_test}
use Rattle.hdlc.specs.declared.reader.Reader.{Reader}
use Rattle.hdlc.specs.Fate.{decided}
use Rattle.hdlc.specs.Reader.{assembling, Outcome, run}
use Rattle.hdlc.specs.Rules.{rules as reader_rules}
use Rattle.hdlc.specs.Wire.{call}
use Rattle.hdlc.specs.States.{open_piece, closed_form}
use Rattle.hdlc.proofs.LawsReading.{run_reads}
use Rattle.hdlc.proofs.LawsCalls.{reads_all, reads_some}
use Rattle.hdlc.proofs.ClosedForm.{closed_form_lem, same_room}
use Rattle.hdlc.proofs.ReaderRules.{rules_told, run_rules}
use Rattle.device.specs.declared.state.Device.{Device}
use Rattle.device.specs.Rules.{rules}
use Rattle.engine.proofs.RulesKept.{body_keeps}
use Rattle.serial.specs.Receiving.{breaks_rules, unrefused, receive_body, Keeps}
use Rattle.serial.proofs.LawsReceiving.{unrefused_read}

module _ (d : Device) (r : Reader) (input a space : List ℕ) (k : Keeps d r a) where
  outcome : Outcome
  outcome = run (assembling r a) input

  pub not_refused : receive_body d r input a space ≡ unrefused (λ b. b) d (run (assembling r a) input) space
  unfolding receive_body breaks_rules
  not_refused = rw (k.device, k.reader, le-ltb _ _ k.room)

  -- how much it reads
  reads : (receive_body d r input a space).read ≡ outcome.read
  unfolding outcome
  reads = ap (λ q. q.read) not_refused ∙ (unrefused_read (λ b. b) d (run (assembling r a) input) space).1

  pub reads_within : (receive_body d r input a space).read ≤ length input
  unfolding outcome
  reads_within = rw reads (run_reads input (assembling r a))

  pub reads_on : 0 < length input → 0 < (receive_body d r input a space).read
  unfolding outcome closed_form
  reads_on some =
      let c = call (open_piece r a) input in
      rw (reads, closed_form_lem r a input (rules_told r k.reader) k.room)
      (by_test (decided c.fate) (λ t. omega (arith, reads_some input (open_piece r a) t)) (λ t. omega (arith, reads_all input (open_piece r a) t)))

  -- what it leaves
  device_kept : rules (unrefused (λ b. b) d outcome space).device ≡ true
  unfolding unrefused
  device_kept = by_test (eqb outcome.fate.number 1) (λ t. rw t (body_keeps d outcome.fate.body k.device)) (λ t. rw t k.device)

  pub keeps_on : let q = receive_body d r input a space in Keeps q.device q.reader q.assembly
  unfolding outcome
  keeps_on =
      let left = (unrefused_read (λ b. b) d (run (assembling r a) input) space).2 in
      let rules-r = rules_told r k.reader in
      rw not_refused
      (record {
        device = device_kept;
        reader = ap (λ h. reader_rules h.reader) left ∙ run_rules r a input rules-r k.room;
        room = rw (ap (λ h. length h.assembly) left ∙ same_room r a input rules-r k.room) k.room;
      })
