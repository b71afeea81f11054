-- PROMISE: a history does what its octets say. For every history its replies are the frames of the engine's replies to the checked
-- bodies, one to each, in order; the octets that its calls say they read are those of 01, Whole histories; the box at its end is the
-- engine's over the checked bodies. And for one more call, which may be any: its number, its count and the octets that it writes are
-- those of the octets, so a reply is written by the call that reads its frame's closing flag, and refusal 11 never comes. All of this
-- from any box that keeps its rules, with a fresh reader, and so from what setup returns.
use mathlib.Core.Logic.{◌≢◌}
use mathlib.Core.Path.{◌≡◌, refl, sym, ap, ◌∙◌}
use mathlib.Core.Bool.{true}
use mathlib.Core.List.{List, [], map}
use Prim.Native.Nat.{ℕ, ◌≤◌}
use native.Mathlib.Omega.{arith}
use lib.Dec.{eqb, ltb}
use lib.ListN.{length, length-map}
use Rattle.octets.proofs.LawsTests.{chosen}
use Rattle.frame.specs.Frame.{frame}
use Rattle.hdlc.specs.Reader.{max_gathered, fresh}
use Rattle.hdlc.specs.Wire.{checked_in}
use Rattle.hdlc.proofs.LawsCalls.{call_number, fresh_after}
use Rattle.hdlc.proofs.ReaderRules.{fresh_rules, rules_hold}
use Rattle.device.specs.declared.state.Device.{Device}
use Rattle.device.specs.Rules.{rules}
use Rattle.device.specs.Setup.{Setup, device_from}
use Rattle.device.proofs.SetupKeepsRules.{device_from_keeps}
use Rattle.engine.specs.Merged.{device_after, replies_to}
use Rattle.engine.specs.Carried.{Carried}
use Rattle.engine.proofs.RepliesInOrder.{one_each}
use Rattle.serial.specs.Receiving.{min_output, Result}
use Rattle.serial.specs.Histories.{ReceivingCall, lent_from, History, gives, reply_in, start_from, end_from, replies_from, read_from, end_of, replies_in, read_in, read_by, laid, bodies, Report, reported, call_means, open_after, device_in, transcript}
use Rattle.serial.proofs.LawsHistories.{Stands, Step, step, Runs, runs}

pub record Faithful (s : Setup) (h : History) : Type 0 where
  pub replies : replies_in s h ≡ map frame (replies_to (device_from s) (bodies h))
  pub one_each : length (replies_in s h) ≡ length (bodies h)
  pub read : read_in s h ≡ laid h
  pub device : (end_of s h).device ≡ device_in s h
  pub more : (c : ReceivingCall) → reported (gives (end_of s h) c) ≡ call_means h.assembly (open_after h) (device_in s h) c
  pub at_most_one : (c : ReceivingCall) → length (checked_in (open_after h) (read_by h.assembly (open_after h) c)) ≤ 1
  pub never_11 : (c : ReceivingCall) → (gives (end_of s h) c).number ≢ 11

-- ---- the start

starts : (d : Device) (a : List ℕ) → rules d ≡ true → Stands a [] (start_from d a)
starts d a keeps =
    record {
      device = keeps;
      reader = rules_hold fresh fresh_rules;
      size = refl;
      holds = fresh_after a;
    }

-- ---- a call answers one frame or none

few_replies : (r : Result) → length (reply_in r) ≤ 1
unfolding reply_in
few_replies r = chosen (λ (l : List (List ℕ)). length l ≤ 1) (eqb r.written 0) (λ _. omega arith) (λ _. omega arith)

-- ---- no call of a history is refused with 11

never : (a p : List ℕ) (d : Device) (c : ReceivingCall) → (call_means a p d c).number ≢ 11
unfolding call_means
never a p d c =
    chosen (λ (m : Report). m.number ≢ 11) (ltb (length (lent_from c.lent a)) max_gathered) (λ _ e. omega arith)
    (λ _. chosen (λ (m : Report). m.number ≢ 11) (ltb (length c.output) min_output) (λ _ e. omega arith)
    (λ _ e. omega (arith, call_number c.input p)))

-- ---- a history from any box that keeps its rules

module _ (d : Device) (keeps : rules d ≡ true) (h : History) where
  all : Runs h.assembly [] (start_from d h.assembly) h.calls
  all = runs h.assembly [] (start_from d h.assembly) h.calls (starts d h.assembly keeps)

  -- one call more
  after : (c : ReceivingCall) → Step h.assembly (open_after h) (read_by h.assembly (open_after h) c) (end_from d h) c
  unfolding end_from open_after laid
  after c = step h.assembly (open_after h) (end_from d h) c all.stands

  -- the cable carries it (engine, specs/Carried.antt)
  pub carried : Carried frame d (transcript d h)
  unfolding replies_from end_from bodies laid
  carried = all.carried

  -- what its calls write and read, and the box at its end
  pub writes_replies : replies_from d h ≡ map frame (replies_to d (bodies h))
  writes_replies = carried.written

  pub one_reply_each : length (replies_from d h) ≡ length (bodies h)
  one_reply_each = ap length writes_replies ∙ length-map (replies_to d (bodies h)) frame ∙ one_each d (bodies h)

  pub reads_laid : read_from d h ≡ laid h
  unfolding read_from laid
  reads_laid = all.read

  pub ends_as_engine : (end_from d h).device ≡ device_after d (bodies h)
  ends_as_engine = carried.device

  -- whatever call comes next
  pub means_more : (c : ReceivingCall) → reported (gives (end_from d h) c) ≡ call_means h.assembly (open_after h) (device_after d (bodies h)) c
  means_more c = (after c).reported ∙ ap (λ e. call_means h.assembly (open_after h) e c) ends_as_engine

  pub few_more : (c : ReceivingCall) → length (checked_in (open_after h) (read_by h.assembly (open_after h) c)) ≤ 1
  few_more c =
      let bs = checked_in (open_after h) (read_by h.assembly (open_after h) c) in
      let e = (end_from d h).device in
      let size : length (reply_in (gives (end_from d h) c)) ≡ length bs = ap length (after c).carried.written ∙ length-map (replies_to e bs) frame ∙ one_each e bs in
      rw (← size) (few_replies (gives (end_from d h) c))

  pub never_11_more : (c : ReceivingCall) → (gives (end_from d h) c).number ≢ 11
  unfolding reported
  never_11_more c e = never h.assembly (open_after h) (device_after d (bodies h)) c (sym (ap (λ m. m.number) (means_more c)) ∙ e)

pub faithful : (s : Setup) (h : History) → Faithful s h
unfolding end_of replies_in read_in device_in end_from replies_from read_from
faithful s h =
    let d = device_from s in
    let keeps = device_from_keeps s in
    record {
      replies = writes_replies d keeps h;
      one_each = one_reply_each d keeps h;
      read = reads_laid d keeps h;
      device = ends_as_engine d keeps h;
      more = means_more d keeps h;
      at_most_one = few_more d keeps h;
      never_11 = never_11_more d keeps h;
    }
