-- Laws of whole logs: as many steps as there are octets are enough to read one, what a step gives, and one record more.
use mathlib.Core.Path.{◌≡◌, refl, sym, ap, ◌∙◌}
use mathlib.Core.List.{List, [], ◌∷◌, ◌++◌, foldl-append}
use Prim.Native.Nat.{ℕ, zero, suc, ◌+◌, ◌≤◌}
use native.Mathlib.Omega.{arith}
use lib.ListN.{length, drop, length-drop}
use Rattle.std.proofs.Common.{rules}
use Rattle.capture.specs.Records.{Entry, Good, Located}
use Rattle.capture.specs.Reading.{Report, one, no_record, length_in, read_front}
use Rattle.capture.specs.Logs.{AllGood, none, more, entry_of, Entries, ended, with_entry, entries_by, entries_within, entries_in, unwritten, write_next, write_all}
use Rattle.capture.proofs.LawsReading.{front_end, FrontCase, nothing, found, front_case}

-- what is read behind a record, which stands before its last octet, decides the rest
by_same : {log : List ℕ} {q : Report} (f g : ℕ → Entries) → FrontCase log q → ((next : ℕ) → 1 ≤ next → next ≤ length log → f next ≡ g next)
    → entries_by log q.found q.number f ≡ entries_by log q.found q.number g
unfolding entries_by
by_same f g (nothing n) same = refl
by_same {log} f g (found at) same = ap (with_entry (entry_of log _)) (same (5 + length_in log) (omega arith) at.inside)

none_within : (n : ℕ) (log : List ℕ) → length log ≡ 0 → entries_within n log ≡ ended 0
unfolding entries_within entries_by
none_within zero log e = refl
none_within (suc n) log e = search (rules, front_end log e)

enough : (n m : ℕ) (log : List ℕ) → length log ≤ n → length log ≤ m → entries_within n log ≡ entries_within m log
unfolding entries_within
enough zero m log h k = sym (none_within m log (omega arith))
enough (suc n) zero log h k = none_within (suc n) log (omega arith)
enough (suc n) (suc m) log h k =
    by_same (λ next. entries_within n (drop next log)) (λ next. entries_within m (drop next log)) (front_case log)
    (λ next some most. enough n m (drop next log) (omega (arith, length-drop next log)) (omega (arith, length-drop next log)))

entries_step : (log : List ℕ) → entries_in log ≡ entries_by log (read_front log).found (read_front log).number (λ next. entries_in (drop next log))
unfolding entries_in entries_within
entries_step log =
    enough (length log) (suc (length log)) log (omega arith) (omega arith)
    ∙ by_same (λ next. entries_within (length log) (drop next log)) (λ next. entries_in (drop next log)) (front_case log)
    (λ next some most. enough (length log) (length (drop next log)) (drop next log) (omega (arith, length-drop next log)) (omega arith))

module _ (log : List ℕ) where
  pub entries_end : {n : ℕ} → read_front log ≡ no_record n → entries_in log ≡ ended n
  unfolding entries_by
  entries_end e = search (rules, entries_step log, e)

  pub entries_next : {r : Located} → read_front log ≡ one r → entries_in log ≡ with_entry (entry_of log r) (entries_in (drop r.next log))
  unfolding entries_by
  entries_next e = search (rules, entries_step log, e)

-- ---- one record more

pub good_then : {es : List Entry} {e : Entry} → AllGood es → Good e → AllGood (es ++ (e ∷ []))
good_then none g = more g none
good_then (more h hs) g = more h (good_then hs g)

pub write_then : (space : List ℕ) (es : List Entry) (e : Entry) → write_all space (es ++ (e ∷ [])) ≡ write_next (write_all space es) e
unfolding write_all
write_then space es e = foldl-append write_next (unwritten space) es (e ∷ [])
