-- PROMISE: however octets are cut into calls, what the calls tell are the fates and bodies of the pieces between the flags, in order,
-- and what they leave is the unfinished piece.
use mathlib.Core.Bool.{cond}
use mathlib.Core.Path.{◌≡◌, refl, sym, ap, ap₂, subst, ◌∙◌}
use mathlib.Core.List.{List, [], ◌∷◌, ◌++◌, append-nil, foldl}
use Prim.Native.Nat.{ℕ, zero, suc, ◌≤◌, ◌<◌}
use native.Mathlib.Omega.{arith}
use lib.ListN.{length, take, drop, length-drop, take-append-drop}
use lib.Seq.{take-length}
use Rattle.octets.specs.Runs.{each}
use Rattle.octets.proofs.LawsRuns.{emitted_append}
use Rattle.octets.proofs.LawsTests.{by_test}
use Rattle.frame.specs.Frame.{stuffed}
use Rattle.hdlc.specs.declared.reader.Reader.{Reader}
use Rattle.hdlc.specs.Fate.{decided}
use Rattle.hdlc.specs.Reader.{max_gathered, fresh, Assembling, assembling, run}
use Rattle.hdlc.specs.Rules.{Rules}
use Rattle.hdlc.specs.Wire.{finished, unfinished, fates_of, call, call_reads, wire}
use Rattle.hdlc.specs.States.{holding, open_piece, closed_form}
use Rattle.hdlc.specs.Histories.{calls_tell, calls_leave, offers, offered, chunked}
use Rattle.hdlc.proofs.LawsPieces.{unfinished_append, fates_append}
use Rattle.hdlc.proofs.LawsCalls.{After, after_call, call_tells, reads_all, reads_some}
use Rattle.hdlc.proofs.ClosedForm.{call_closed, open_holds}
use Rattle.hdlc.proofs.ReaderRules.{fresh_rules}

-- ---- calls one after the other

-- after an open piece p, calls with these inputs tell and leave what the octets ws do
pub record Tells (p ws : List ℕ) (h : Assembling) (xss : List (List ℕ)) : Type 0 where
  pub tells : calls_tell h xss ≡ fates_of (finished p ws)
  pub leaves : After (unfinished p ws) (calls_leave h xss)

calls_tell_lem : (xss : List (List ℕ)) (p a : List ℕ) → max_gathered ≤ length a → Tells p (wire p xss) (holding p a) xss
unfolding calls_tell calls_leave wire finished unfinished fates_of
calls_tell_lem [] p a room = record { tells = refl; leaves = record { under = a; room = room; state = refl } }
calls_tell_lem (xs ∷ xss) p a room =
    let w = call_reads p xs in
    let q = unfinished p w in
    let s = after_call p a xs room in
    let rest : Tells q (wire q xss) (run (holding p a) xs).state xss =
    subst (λ h. Tells q (wire q xss) h xss) (sym s.state) (calls_tell_lem xss q s.under s.room) in
    record {
      tells =
          ap₂ ◌++◌ (call_tells p a xs room) rest.tells
          ∙ sym (fates_append p w (wire q xss));
      leaves = subst (λ z. After z (calls_leave (run (holding p a) xs).state xss)) (sym (unfinished_append p w (wire q xss))) rest.leaves;
    }

-- ---- from any reader that keeps its rules, whatever piece is open in it

pub any_cuts : (r : Reader) (a : List ℕ) (xss : List (List ℕ)) → Rules r → max_gathered ≤ length a
    → Tells (open_piece r a) (wire (open_piece r a) xss) (assembling r a) xss
any_cuts r a xss keeps room =
    subst (λ h. Tells (open_piece r a) (wire (open_piece r a) xss) h xss) (sym (open_holds r a keeps room)) (calls_tell_lem xss (open_piece r a) a room)

-- ---- a stream in chunks, each offered until it is used up

-- what a chunk's calls read is the chunk
offers_read : (n : ℕ) (xs p a : List ℕ) → length xs < n → max_gathered ≤ length a → wire p (offers n (holding p a) xs) ≡ xs
unfolding offers wire call_reads closed_form
offers_read zero xs p a few room = absurd (omega arith)
offers_read (suc n) xs p a few room =
    let c = call p xs in
    let q = unfinished p (call_reads p xs) in
    let o = run (holding p a) xs in
    let s = after_call p a xs room in
    let is : o ≡ closed_form c a = call_closed xs p a room in
    let again : List (List ℕ) = offers n o.state (drop o.read xs) in
    by_test (decided c.fate)
    (λ t.
    ap (λ z. call_reads p xs ++ wire q (cond z again [])) (ap (λ z. decided z.fate) is ∙ t)
    ∙ ap₂ (λ h k. call_reads p xs ++ wire q (offers n h (drop k xs))) s.state (ap (λ z. z.read) is)
    ∙ ap (λ l. call_reads p xs ++ l)
    (offers_read n (drop c.read xs) q s.under (omega (arith, length-drop c.read xs, reads_some xs p t)) s.room)
    ∙ take-append-drop c.read xs)
    (λ t.
    ap (λ z. call_reads p xs ++ wire q (cond z again [])) (ap (λ z. decided z.fate) is ∙ t)
    ∙ append-nil (call_reads p xs)
    ∙ ap (λ k. take k xs) (reads_all xs p t)
    ∙ take-length xs)

offered_read : (xs p a : List ℕ) → max_gathered ≤ length a → wire p (offered (holding p a) xs) ≡ xs
unfolding offered
offered_read xs p a room = offers_read (suc (length xs)) xs p a (omega arith) room

-- what calls read, laid end to end, leaves what they leave one after the other
wire_steps : (xss : List (List ℕ)) (p : List ℕ) → foldl (λ q xs. unfinished q (call_reads q xs)) p xss ≡ unfinished p (wire p xss)
unfolding wire unfinished
wire_steps [] p = refl
wire_steps (xs ∷ xss) p =
    wire_steps xss (unfinished p (call_reads p xs)) ∙ sym (unfinished_append p (call_reads p xs) (wire (unfinished p (call_reads p xs)) xss))

chunked_read : (xss : List (List ℕ)) (p a : List ℕ) → max_gathered ≤ length a → wire p (chunked (holding p a) xss) ≡ each (λ xs. xs) xss
unfolding chunked wire
chunked_read [] p a room = refl
chunked_read (xs ∷ xss) p a room =
    let h = holding p a in
    let s = (calls_tell_lem (offered h xs) p a room).leaves in
    let whole : wire p (offered h xs) ≡ xs = offered_read xs p a room in
    let q = unfinished p (wire p (offered h xs)) in
    emitted_append call_reads _ p (offered h xs) (chunked (calls_leave h (offered h xs)) xss)
    ∙ ap₂ ◌++◌ whole
    (ap₂ (λ z g. wire z (chunked g xss)) (wire_steps (offered h xs) p) s.state ∙ chunked_read xss q s.under s.room)

-- so what is told and left is that of the whole stream, whatever the chunks
pub any_chunks : (r : Reader) (a : List ℕ) (xss : List (List ℕ)) → Rules r → max_gathered ≤ length a
    → Tells (open_piece r a) (each (λ xs. xs) xss) (assembling r a) (chunked (assembling r a) xss)
any_chunks r a xss keeps room =
    let p = open_piece r a in
    let all : wire p (chunked (assembling r a) xss) ≡ each (λ xs. xs) xss =
    ap (λ h. wire p (chunked h xss)) (open_holds r a keeps room) ∙ chunked_read xss p a room in
    subst (λ ws. Tells p ws (assembling r a) (chunked (assembling r a) xss)) all (any_cuts r a (chunked (assembling r a) xss) keeps room)

-- ---- and so: calls that read the same octets tell the same, whatever their cuts and their buffers

pub same_octets : (xss yss : List (List ℕ)) (a b : List ℕ) → max_gathered ≤ length a → max_gathered ≤ length b → wire [] xss ≡ wire [] yss
    → calls_tell (assembling fresh a) xss ≡ calls_tell (assembling fresh b) yss
unfolding open_piece stuffed
same_octets xss yss a b room room' e =
    (any_cuts fresh a xss fresh_rules room).tells
    ∙ ap (λ w. fates_of (finished [] w)) e
    ∙ sym (any_cuts fresh b yss fresh_rules room').tells
