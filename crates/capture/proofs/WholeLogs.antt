-- PROMISE: the records of a whole log, up to its first fault, and that fault's number are what reading it gives, each call at the place that
-- the last one returned. And they are the log: it is what is written for them, and behind it stands what is no record.
use mathlib.Core.Path.{◌≡◌, refl, sym, ap, ◌∙◌}
use mathlib.Core.List.{List, ◌++◌, append_assoc}
use Prim.Native.Nat.{ℕ, zero, suc, ◌+◌, ◌≤◌}
use native.Mathlib.Omega.{arith}
use lib.ListN.{length, take, drop, length-drop, take-append-drop}
use lib.Seq.{drop-drop}
use Rattle.std.proofs.Common.{rules}
use Rattle.octets.specs.Octets.{Octets}
use Rattle.octets.proofs.LawsLists.{octets_drop}
use Rattle.octets.proofs.LawsTests.{impossible}
use Rattle.capture.specs.Records.{entry, record_of, Located}
use Rattle.capture.specs.Reading.{Report, one, no_record, direction_in, length_in, record_in, read_front, placed, read_at}
use Rattle.capture.specs.Logs.{log_of, AllGood, none, more, entry_of, Entries, with_entry, ended, entries_in}
use Rattle.capture.proofs.LawsReading.{FrontCase, nothing, found, front_case, Front, read_from_lem, front_is}
use Rattle.capture.proofs.LawsLogs.{entries_end, entries_next}
use Rattle.capture.proofs.OneRecord.{front_octets, front_good, at_front, front_at}

-- ---- call by call

module _ (log : List ℕ) (at : ℕ) where
  pub call_next : {r : Located} → read_at log at ≡ one r → entries_in (drop at log) ≡ with_entry (entry_of log r) (entries_in (drop r.next log))
  unfolding entry_of
  call_next e =
      let f = front_at log at e in
      search (rules, f.2, entries_next (drop at log) (front_is f.1), drop-drop 5 at log, drop-drop (5 + length_in (drop at log)) at log)

  pub call_end : {n : ℕ} → at ≤ length log → read_at log at ≡ no_record n → entries_in (drop at log) ≡ ended n
  call_end {n} h e = entries_end (drop at log) (by_case (front_case (drop at log)) (sym (read_from_lem log at h) ∙ e))
    where
      by_case : {q : Report} → FrontCase (drop at log) q → placed at q ≡ no_record n → q ≡ no_record n
      by_case (nothing m) p = cc (ap (λ q. q.number) p)
      by_case (found f) p = impossible (cc (ap (λ q. q.found) p))

-- ---- the whole log

-- a log is the records of some entries, end to end, and behind them stands what is answered with a number and no record
pub record Laid (log : List ℕ) (q : Entries) : Type 0 where
  pub good : AllGood q.entries
  pub rest : List ℕ
  pub laid : log ≡ log_of q.entries ++ rest
  pub ends : read_at rest 0 ≡ no_record q.fault

laid_next : (log : List ℕ) → Octets log → Front log (record_in log) → Laid (drop (5 + length_in log) log) (entries_in (drop (5 + length_in log) log))
    → Laid log (entries_in log)
unfolding entry_of log_of
laid_next log o f w =
    let k : ℕ = 5 + length_in log in
    rw (entries_next log (front_is f))
    (record {
      good = more (front_good log f) w.good;
      rest = w.rest;
      laid = search (rules, take-append-drop k log, front_octets log f o, w.laid, append_assoc (record_of (entry (direction_in log) (take (length_in log) (drop 5 log)))) (log_of (entries_in (drop k log)).entries) w.rest);
      ends = w.ends;
    })

laid_step : (log : List ℕ) → Octets log → ((k : ℕ) → 1 ≤ k → k ≤ length log → Laid (drop k log) (entries_in (drop k log))) → Laid log (entries_in log)
unfolding log_of
laid_step log o rest = by_case (front_case log) refl
  where
    by_case : {q : Report} → FrontCase log q → read_front log ≡ q → Laid log (entries_in log)
    by_case (nothing m) e = rw (entries_end log e) (record { good = none; rest = log; laid = refl; ends = at_front log ∙ e })
    by_case (found f) e = laid_next log o f (rest (5 + length_in log) (omega arith) f.inside)

laid_within : (n : ℕ) (log : List ℕ) → length log ≤ n → Octets log → Laid log (entries_in log)
laid_within zero log h o = laid_step log o (λ k some most. absurd (omega arith))
laid_within (suc n) log h o = laid_step log o (λ k some most. laid_within n (drop k log) (omega (arith, length-drop k log)) (octets_drop k log o))

pub whole_log : (log : List ℕ) → Octets log → Laid log (entries_in log)
whole_log log o = laid_within (length log) log (omega arith) o
