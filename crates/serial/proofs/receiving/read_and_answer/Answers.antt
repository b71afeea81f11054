-- A checked body meets what the engine asks.
use mathlib.Core.Path.{◌≡◌, sym, ap, ◌∙◌}
use mathlib.Core.List.{List}
use Prim.Native.Nat.{ℕ, ◌≤◌}
use native.Mathlib.Omega.{arith}
use borrow.Author.Rules.{rules as found_by}
use lib.ListN.{length, take}
use lib.Seq.{length-take-le}
use Rattle.octets.specs.Body.{SpinelBody}
use Rattle.octets.proofs.LawsWriting.{front_count, front_held}
use mathlib.Core.Bool.{true}
use Rattle.device.specs.declared.state.Device.{Device}
use Rattle.device.specs.Rules.{rules as device_rules}
use Rattle.device.specs.State.{max_reply}
use Rattle.hdlc.specs.declared.reader.Fate.{Fate}
use Rattle.hdlc.specs.declared.reader.Fate.TheVariants.{Checked}
use Rattle.hdlc.specs.declared.reader.Reader.{Reader}
use Rattle.hdlc.specs.Reader.{max_gathered, assembling, outcome, run}
use Rattle.hdlc.specs.Rules.{rules}
use Rattle.hdlc.proofs.ReaderRules.{rules_told}
use Rattle.hdlc.proofs.CheckedBodies.{checked_count}
use Rattle.engine.specs.Engine.{engine}
use Rattle.engine.proofs.ReplyBounds.{reply_bounds}
use Rattle.serial.specs.Receiving.{unrefused}
use Rattle.serial.proofs.receiving.read_and_answer.Goals as goal

-- what was read, with the fate that the pattern found
module _ (reader : Reader) (assembly input : List ℕ) (f : Fate) (count read : ℕ) (next : Reader) (a : List ℕ) (is : f ≡ Checked count)
    (ran : outcome f read next a ≡ run (assembling reader assembly) input) where
  reads : outcome (Checked count) read next a ≡ run (assembling reader assembly) input
  reads = ap (λ g. outcome g read next a) (sym is) ∙ ran

  found : rules reader ≡ true → max_gathered ≤ length assembly → SpinelBody (take count a) × (count ≤ length a)
  found kept room = checked_count _ _ _ (rules_told _ kept) room reads

-- what was answered fits the space
fits : (d : Device) (body space : List ℕ) → device_rules d ≡ true → length space ≡ max_reply → length (engine d body).reply ≤ length space
fits d body space kept size = let b = reply_bounds d body kept in omega arith

pub slice_bounds-answer-end : goal.slice_bounds-answer-end
slice_bounds-answer-end c =
    (found _ _ _ _ _ _ _ _ c.in-Checked.is c.read_frame-fate.ensures c.requires.rules.1 c.requires.room).1

pub slice_bounds-answer-end-in-Checked : goal.slice_bounds-answer-end-in-Checked
slice_bounds-answer-end-in-Checked c =
    sym (length-take-le _ _ (found _ _ _ _ _ _ _ _ c.in-Checked.is c.read_frame-fate.ensures c.requires.rules.1 c.requires.room).1)

pub answer-answered-requires-clause-body : goal.answer-answered-requires-clause-body
answer-answered-requires-clause-body c =
    (found _ _ _ _ _ _ _ _ c.in-Checked.is c.read_frame-fate.ensures c.requires.rules.1 c.requires.room).0

pub returns-in-Checked : goal.returns-in-Checked
unfolding unrefused
returns-in-Checked c =
    let r = c.read_frame-fate.result in
    let a = c.read_frame-fate.new.assembly in
    let w = c.answer-answered.ensures in
    let room = fits c.args.device (take c.in-Checked.len a) c.args.space.now c.requires.rules.0 (search found_by) in
    rw (← reads _ _ _ _ _ _ _ _ c.in-Checked.is c.read_frame-fate.ensures)
    (λ i. record {
      number = 1;
      request = take c.in-Checked.len a;
      read = r.read;
      written = front_count room w.reply i;
      device = w.device i;
      reader = r.reader;
      assembly = a;
      output = front_held room w.reply i;
    })
