-- Each refusal has the tests of the definition; a checked body goes to the table.
use mathlib.Core.Bool.{false}
use mathlib.Core.Path.{◌≡◌, sym, ap, ◌∙◌}
use Prim.Native.Nat.{◌≤◌}
use lib.ListN.{length, take}
use lib.Seq.{length-take-le}
use Rattle.octets.specs.Body.{SpinelBody}
use Rattle.hdlc.specs.declared.reader.Fate.TheVariants.{Checked}
use Rattle.hdlc.specs.Reader.{assembling, outcome, run}
use Rattle.hdlc.proofs.ReaderRules.{rules_told}
use Rattle.hdlc.proofs.CheckedBodies.{checked_count}
use Rattle.transactions.specs.Table.{numbers_of}
use Rattle.transactions.specs.Receiving.{unrefused, breaks_rules, receive}
use Rattle.transactions.proofs.LawsReceiving.{rules_kept, receive_run}
use Rattle.transactions.proofs.receiving.receive.Goals as goal
use Rattle.transactions.proofs.receiving.receive.Goals.{After-read_frame-reading, In-Checked}

reads : (c : In-Checked) → let r = c.read_frame-reading.result in outcome (Checked c.in-Checked.len) r.read r.reader c.read_frame-reading.new.assembly ≡ (run (assembling c.args.reader c.args.assembly.now) c.args.input.now)
reads c =
    let r = c.read_frame-reading.result in
    ap (λ f. outcome f r.read r.reader c.read_frame-reading.new.assembly) (sym c.in-Checked.is) ∙ c.read_frame-reading.ensures

found : (c : In-Checked) → SpinelBody (take c.in-Checked.len c.read_frame-reading.new.assembly) × (c.in-Checked.len ≤ length c.read_frame-reading.new.assembly)
found c =
    checked_count _ _ _ (rules_told _ (rules_kept _ _ (let h : breaks_rules (numbers_of c.args.table) c.args.reader ≡ false = sym c.breaks_rules.ensures ∙ c.if-breaks_rules.false in h)).1) c.if-assembly-lt-MAX_GATHERED.false (reads c)

kept : (c : After-read_frame-reading) → breaks_rules (numbers_of c.args.table) c.args.reader ≡ false
kept c =
    sym c.breaks_rules.ensures ∙ c.if-breaks_rules.false

rest : (c : After-read_frame-reading) → receive (numbers_of c.args.table) c.args.reader c.args.input.now c.args.assembly.now ≡ unrefused (numbers_of c.args.table) (run (assembling c.args.reader c.args.assembly.now) c.args.input.now)
rest c =
    receive_run (numbers_of c.args.table) c.args.reader c.args.input.now c.args.assembly.now (kept c) c.if-assembly-lt-MAX_GATHERED.false

pub slice_bounds-reply-end : goal.slice_bounds-reply-end
unfolding unrefused
slice_bounds-reply-end c =
    (found (goal.at.slice_bounds-reply-end c).In-Checked).1

pub slice_bounds-reply-end-in-Checked : goal.slice_bounds-reply-end-in-Checked
unfolding unrefused
slice_bounds-reply-end-in-Checked c =
    sym (length-take-le _ _ (found (goal.at.slice_bounds-reply-end-in-Checked c).In-Checked).1)
