-- Laws of one turn: what was written is the engine's reply, and its line fits.
use mathlib.Core.Bool.{false}
use mathlib.Core.Path.{◌≡◌, refl, ap}
use mathlib.Core.List.{List}
use Prim.Native.Nat.{ℕ, ◌≤◌}
use native.Mathlib.Omega.{arith}
use lib.Dec.{eqb, ltb}
use lib.ListN.{length, take, drop, replicate, length-append}
use lib.Seq.{length-sets, take-append_seam}
use Rattle.octets.proofs.LawsTests.{chosen}
use Rattle.lines.specs.Line.{line_of}
use Rattle.lines.proofs.LawsLines.{line_length}
use Rattle.hdlc.specs.declared.reader.Reader.{Reader}
use Rattle.hdlc.specs.Reader.{max_gathered, assembling, run}
use Rattle.device.specs.State.{max_reply}
use Rattle.device.specs.declared.state.Device.{Device}
use Rattle.engine.specs.Engine.{engine}
use Rattle.engine.proofs.ReplyBounds.{reply_bounds}
use Rattle.serial.specs.Receiving.{Result, breaks_rules, unrefused, receive_body}
use Rattle.serial.proofs.LawsReceiving.{rules_kept}
use Rattle.ncp.specs.declared.turn.Session.{Session}
use Rattle.ncp.specs.declared.turn.Turn.{Turn}
use Rattle.ncp.specs.Turn.{received, reply_body, Took, max_line}

-- the engine's reply stands at the front of the space
pub record Turned (d : Device) (z : Result) : Type 0 where
  pub room : z.written ≤ length z.output
  pub reply : take z.written z.output ≡ reply_body d z
  pub short : length (reply_body d z) ≤ max_reply

-- a call that answers no frame
silent : (d : Device) (z : Result) → z.written ≡ 0 → eqb z.number 1 ≡ false → Turned d z
unfolding reply_body
silent d z w e = record { room = omega arith; reply = rw (e, w); short = rw e (omega arith) }

module _ (d : Device) (r : Reader) (input a space : List ℕ) where
  -- one that reads: fate 1, and any other
  reads_turned : breaks_rules d r ≡ false → Turned d (unrefused (λ b. b) d (run (assembling r a) input) space)
  unfolding unrefused reply_body
  reads_turned kept =
      let o = run (assembling r a) input in
      let reply = (engine d o.fate.body).reply in
      let size = reply_bounds d o.fate.body (rules_kept d r kept).0 in
      chosen (Turned d) (eqb o.fate.number 1)
      (λ _. record { room = omega (arith, length-append reply (drop (length reply) space)); reply = take-append_seam reply _; short = size.1 })
      (λ e. silent d _ refl e)

  pub turned : Turned d (receive_body d r input a space)
  unfolding receive_body
  turned =
      chosen (Turned d) (breaks_rules d r) (λ _. silent d _ refl refl)
      (λ kept. chosen (Turned d) (ltb (length a) max_gathered) (λ _. silent d _ refl refl) (λ _. reads_turned kept))

-- a turn's line fits where there is room for three octets for each of a reply's 61
pub took_room : (d : Device) (r : Reader) (input a : List ℕ) {a' before after : List ℕ} {t : Turn} {s : Session} → Took d (received d r input a) t s a' before after
    → max_line ≤ length before → t.len ≤ length after
took_room d r input a {before = before} w h =
    let body = reply_body d (received d r input a) in
    omega (arith, (turned d r input a (replicate max_reply 0)).short, w.line.end, line_length body, ap length w.line.held, length-sets before 0 (line_of body))
