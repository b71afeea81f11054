-- PROMISE: what the program's calls come to, whatever the chunks. From a box that keeps its rules, a fresh reader and an assembly buffer with
-- room, the lines that `receive_line` leaves are, end to end, those of the engine's replies to the checked bodies of all the octets, in order,
-- and the box at the end is the engine's over these bodies. The program makes 2^64 - 1 reads at most.
use mathlib.Core.Bool.{true, false}
use mathlib.Core.Path.{◌≡◌, refl, sym, ap, ap₂, subst, ◌∙◌}
use mathlib.Core.List.{List, [], ◌∷◌, ◌++◌, append-nil, foldl}
use Prim.Native.Nat.{ℕ, zero, suc, ◌+◌, ◌^◌, ◌≤◌, ◌<◌}
use native.Mathlib.Omega.{arith}
use borrow.Author.Tests.{eqb-true, eqb-false}
use lib.Dec.{eqb}
use lib.ListN.{length, drop, replicate, length-drop, take-append-drop}
use Rattle.octets.specs.Runs.{each, emitted}
use Rattle.octets.proofs.LawsLists.{empty}
use Rattle.octets.proofs.LawsRuns.{each_append}
use Rattle.octets.proofs.LawsTests.{by_test, chosen}
use Rattle.lines.specs.Line.{line_of}
use Rattle.hdlc.specs.Fate.{given}
use Rattle.hdlc.specs.Reader.{max_gathered, fresh, assembling, Outcome, run}
use Rattle.hdlc.specs.States.{closed_form}
use Rattle.hdlc.specs.Wire.{fates_of, finished, unfinished, checked_of, checked_in, call, call_reads}
use Rattle.hdlc.proofs.ClosedForm.{call_closed}
use Rattle.hdlc.proofs.LawsCalls.{After, fresh_after, after_call, call_checked}
use Rattle.hdlc.proofs.LawsPieces.{unfinished_append}
use Rattle.hdlc.proofs.CheckedBodies.{checked_append}
use Rattle.hdlc.proofs.ReaderRules.{fresh_rules, rules_hold}
use Rattle.device.specs.State.{max_reply}
use Rattle.device.specs.declared.state.Device.{Device}
use Rattle.device.specs.Rules.{rules}
use Rattle.engine.specs.Merged.{device_after, replies_to}
use Rattle.engine.proofs.RepliesInOrder.{device_append, replies_append}
use Rattle.serial.specs.Receiving.{unrefused}
use Rattle.serial.proofs.GoesOn.{not_refused}
use Rattle.serial.proofs.LawsReceiving.{found, unrefused_device, unrefused_read}
use Rattle.ncp.specs.Turn.{reply_body}
use Rattle.ncp.specs.Serve.{State, KeepsState, start, gives, next, line_for, feeds, fed, chunk_leaves, chunk_lines, chunks_leave, lines_of, max_reads}
use Rattle.ncp.proofs.LawsServing.{next_keeps, next_reads}

-- after an open piece p, octets and what comes of them: these lines and the state t
pub record Comes (s : State) (p xs ls : List ℕ) (t : State) : Type 0 where
  pub lines : ls ≡ each line_of (replies_to s.device (checked_in p xs))
  pub device : t.device ≡ device_after s.device (checked_in p xs)
  pub keeps : KeepsState t
  pub piece : After (unfinished p xs) (assembling t.reader t.assembly)

comes_then : {s t u : State} {p xs ys l m : List ℕ} → Comes s p xs l t → Comes t (unfinished p xs) ys m u → Comes s p (xs ++ ys) (l ++ m) u
comes_then {s} {t} {u} {p} {xs} {ys} {l} {m} v w =
    let cs = checked_in (unfinished p xs) ys in
    record {
      lines =
          rw (checked_append p xs ys, replies_append s.device (checked_in p xs) cs, each_append line_of (replies_to s.device (checked_in p xs)) _)
          (ap₂ ◌++◌ v.lines (w.lines ∙ ap (λ d. each line_of (replies_to d cs)) v.device));
      device =
          rw (checked_append p xs ys, device_append s.device (checked_in p xs) cs) (w.device ∙ ap (λ d. device_after d cs) v.device);
      keeps = w.keeps;
      piece = subst (λ q. After q (assembling u.reader u.assembly)) (sym (unfinished_append p xs ys)) w.piece;
    }

-- nothing comes of nothing
comes_none : (s : State) (p : List ℕ) → KeepsState s → After p (assembling s.reader s.assembly) → Comes s p [] [] s
unfolding checked_in checked_of fates_of finished unfinished replies_to device_after
comes_none s p k a = record { lines = refl; device = refl; keeps = k; piece = a }

-- ---- a call

line_unrefused : (d : Device) (o : Outcome) (space : List ℕ) {bs : List (List ℕ)} → checked_of (given o.fate) ≡ bs
    → line_of (reply_body d (unrefused (λ b. b) d o space)) ≡ each line_of (replies_to d bs)
unfolding unrefused replies_to reply_body line_of
line_unrefused d o space e =
    rw (found (λ b. b) d o space e) (by_test (eqb o.fate.number 1) (λ t. simp (t, append-nil)) (λ t. simp t))

module _ (s : State) (p xs : List ℕ) (k : KeepsState s) (a : After p (assembling s.reader s.assembly)) where
  outcome : Outcome
  outcome = run (assembling s.reader s.assembly) xs

  is : gives s xs ≡ unrefused (λ b. b) s.device outcome (replicate max_reply 0)
  unfolding outcome
  is = not_refused s.device s.reader xs s.assembly (replicate max_reply 0) k

  checks : checked_of (given outcome.fate) ≡ checked_in p (call_reads p xs)
  unfolding outcome
  checks = call_checked p (assembling s.reader s.assembly) xs a

  count : (gives s xs).read ≡ (call p xs).read
  unfolding outcome closed_form
  count =
      ap (λ q. q.read) is
      ∙ (unrefused_read (λ b. b) s.device outcome (replicate max_reply 0)).1
      ∙ ap (λ h. (run h xs).read) a.state
      ∙ ap (λ o. o.read) (call_closed xs p a.under a.room)

  both_parts : call_reads p xs ++ drop (gives s xs).read xs ≡ xs
  unfolding call_reads
  both_parts = rw count (take-append-drop (call p xs).read xs)

  comes_call : Comes s p (call_reads p xs) (line_for s xs) (next s xs)
  unfolding outcome line_for next
  comes_call =
      let left = (unrefused_read (λ b. b) s.device outcome (replicate max_reply 0)).2 in
      record {
        lines = ap (λ q. line_of (reply_body s.device q)) is ∙ line_unrefused s.device outcome (replicate max_reply 0) checks;
        device = ap (λ q. q.device) is ∙ unrefused_device (λ b. b) s.device outcome (replicate max_reply 0) checks;
        keeps = next_keeps s xs k;
        piece =
            subst (After (unfinished p (call_reads p xs))) (sym (ap (λ q. assembling q.reader q.assembly) is ∙ left ∙ ap (λ h. (run h xs).state) a.state))
            (after_call p a.under xs a.room);
      }

-- ---- a chunk

-- less is left after a call
next_less : (n : ℕ) (s : State) (xs : List ℕ) → KeepsState s → length xs ≤ suc n → eqb (length xs) 0 ≡ false → length (drop (gives s xs).read xs) ≤ n
next_less n s xs k few t =
    let some : 0 < length xs = omega (arith, eqb-false (length xs) 0 t) in
    omega (arith, length-drop (gives s xs).read xs, next_reads s xs k some)

comes_feeds : (n : ℕ) (s : State) (p xs : List ℕ) → length xs ≤ n → KeepsState s → After p (assembling s.reader s.assembly)
    → Comes s p xs (emitted line_for next s (feeds n s xs)) (foldl next s (feeds n s xs))
unfolding feeds
comes_feeds zero s p xs few k a = subst (λ l. Comes s p l [] s) (sym (empty xs (omega arith))) (comes_none s p k a)
comes_feeds (suc n) s p xs few k a =
    let rest = drop (gives s xs).read xs in
    let calls = feeds n (next s xs) rest in
    let one = comes_call s p xs k a in
    chosen (λ (l : List (List ℕ)). Comes s p xs (emitted line_for next s l) (foldl next s l)) (eqb (length xs) 0)
    (λ t. subst (λ l. Comes s p l [] s) (sym (empty xs (eqb-true _ _ t))) (comes_none s p k a))
    (λ t.
    subst (λ l. Comes s p l (line_for s xs ++ emitted line_for next (next s xs) calls) (foldl next (next s xs) calls)) (both_parts s p xs k a)
    (comes_then one (comes_feeds n (next s xs) (unfinished p (call_reads p xs)) rest (next_less n s xs k few t) one.keeps one.piece)))

pub comes_chunk : (s : State) (p xs : List ℕ) → KeepsState s → After p (assembling s.reader s.assembly) → Comes s p xs (chunk_lines s xs) (chunk_leaves s xs)
unfolding chunk_lines chunk_leaves fed
comes_chunk s p xs k a = comes_feeds (length xs) s p xs (omega arith) k a

-- ---- chunks

comes_chunks : (s : State) (p : List ℕ) (xss : List (List ℕ)) → KeepsState s → After p (assembling s.reader s.assembly)
    → Comes s p (each (λ xs. xs) xss) (lines_of s xss) (chunks_leave s xss)
unfolding lines_of chunks_leave
comes_chunks s p [] k a = comes_none s p k a
comes_chunks s p (xs ∷ xss) k a =
    let one = comes_chunk s p xs k a in
    comes_then one (comes_chunks (chunk_leaves s xs) (unfinished p xs) xss one.keeps one.piece)

-- from the start
module _ (d : Device) (a : List ℕ) (xss : List (List ℕ)) (kept : rules d ≡ true) (room : max_gathered ≤ length a) where
  comes : Comes (start d a) [] (each (λ xs. xs) xss) (lines_of (start d a) xss) (chunks_leave (start d a) xss)
  comes = comes_chunks (start d a) [] xss (record { device = kept; reader = rules_hold fresh fresh_rules; room = room }) (fresh_after a room)

  pub prints : lines_of (start d a) xss ≡ each line_of (replies_to d (checked_in [] (each (λ xs. xs) xss)))
  prints = comes.lines

  pub leaves : (chunks_leave (start d a) xss).device ≡ device_after d (checked_in [] (each (λ xs. xs) xss))
  leaves = comes.device

-- ---- the program's reads are as many as a 64-bit number counts

pub all_reads : max_reads + 1 ≡ 2 ^ 64
all_reads = refl
