-- One call, told by the octets that it read.
use mathlib.Core.Bool.{true, false, cond}
use mathlib.Core.Logic.{◌⊎◌, inl, inr, ⊎_elim}
use mathlib.Core.Path.{◌≡◌, refl, sym, ap, ◌∙◌}
use mathlib.Core.List.{List, [], ◌∷◌, ◌++◌, append-nil}
use Prim.Native.Nat.{ℕ, suc, ◌≤◌}
use native.Mathlib.Omega.{arith}
use native.Mathlib.Numerals.{one-add}
use lib.ListN.{length}
use Rattle.octets.proofs.LawsRuns.{each_append}
use Rattle.octets.proofs.LawsTests.{by_test, impossible}
use Rattle.frame.specs.Kind.{is_flag}
use Rattle.frame.specs.Frame.{stuffed}
use Rattle.hdlc.specs.Fate.{unchecked, decided, given}
use Rattle.hdlc.specs.Reader.{max_gathered, fresh, Assembling, assembling, run}
use Rattle.hdlc.specs.Wire.{kept, gathered, cut_escape, piece_fate, ended, grown, finished, unfinished, fates_of, checked_of, checked_in, Call, piece_fate_at, call, call_reads}
use Rattle.hdlc.specs.States.{reader_after, over, holding, open_piece, closed_form}
use Rattle.hdlc.proofs.LawsFates.{by_piece}
use Rattle.hdlc.proofs.LawsStates.{over_length, decides_flag}
use Rattle.hdlc.proofs.ClosedForm.{call_closed, open_holds}
use Rattle.hdlc.proofs.ReaderRules.{fresh_rules}

-- ---- the octets that a call read

-- the fate of the piece that an octet ends
told_ends : (p : List ℕ) (b : ℕ) → fates_of (ended p b) ≡ given (piece_fate_at p b)
unfolding fates_of ended piece_fate_at given
told_ends p b = by_test (is_flag b) (λ f. simp f (append-nil (given (piece_fate p)))) (λ f. simp f)

-- what a call read finishes the piece with its fate, if any, and leaves the piece that it ended in or nothing
pub record Reads (p xs : List ℕ) : Type 0 where
  pub tells : fates_of (finished p (call_reads p xs)) ≡ given (call p xs).fate
  pub leaves : unfinished p (call_reads p xs) ≡ cond (decided (call p xs).fate) [] (call p xs).state

pub reads : (xs p : List ℕ) → Reads p xs
unfolding call_reads call finished unfinished grown fates_of given
reads [] p = record { tells = refl; leaves = refl }
reads (b ∷ bs) p =
    by_test (decided (piece_fate_at p b))
    (λ t.
    record {
      tells = simp t (ap fates_of (append-nil (ended p b)) ∙ told_ends p b ∙ simp t);
      leaves = simp (t, decides_flag p b t);
    })
    (λ t.
    let rest = reads bs (grown p b) in
    let none : fates_of (ended p b) ≡ [] = told_ends p b ∙ simp t in
    record {
      tells = simp (t, one-add) (each_append _ (ended p b) _ ∙ ap (λ l. l ++ fates_of (finished (grown p b) (call_reads (grown p b) bs))) none ∙ rest.tells);
      leaves = simp (t, one-add) rest.leaves;
    })

-- a call's fate is that of the piece that it ended in, if it has one
pub call_fate : (xs p : List ℕ) → ((call p xs).fate ≡ unchecked 0) ⊎ ((call p xs).fate ≡ piece_fate (call p xs).state)
unfolding call piece_fate_at
call_fate [] p = inl refl
call_fate (b ∷ bs) p =
    by_test (decided (piece_fate_at p b)) (λ t. simp t (inr (simp (decides_flag p b t)))) (λ t. simp t (call_fate bs (grown p b)))

-- and its number is one of 0 to 6
pub call_number : (xs p : List ℕ) → (call p xs).fate.number ≤ 6
call_number xs p =
    ⊎_elim (λ e. rw e (omega arith))
    (λ e. rw e
    (by_piece (λ f. f.number ≤ 6) (call p xs).state (omega arith) (omega arith) (λ _. omega arith) (omega arith) (omega arith) (omega arith)
    (λ _. omega arith)))
    (call_fate xs p)

-- ---- what a call leaves

-- a reader after a piece, over some buffer with room: its gathered octets stand at the front of the assembly buffer
pub record After (p : List ℕ) (h : Assembling) : Type 0 where
  pub under : List ℕ
  pub room : max_gathered ≤ length under
  pub state : h ≡ holding p under

-- a fresh reader is one after nothing
pub fresh_after : (a : List ℕ) → max_gathered ≤ length a → After [] (assembling fresh a)
unfolding open_piece stuffed
fresh_after a room = record { under = a; room = room; state = open_holds fresh a fresh_rules room }

decided_state : (c : Call) (a : List ℕ) → decided c.fate ≡ true → (closed_form c a).state ≡ holding [] (over (gathered c.state) a)
unfolding closed_form holding reader_after gathered cut_escape kept over
decided_state c a t = ap (λ z. assembling (cond z fresh (reader_after c.state)) (over (gathered c.state) a)) t

undecided_state : (c : Call) (a : List ℕ) → decided c.fate ≡ false → (closed_form c a).state ≡ holding c.state a
unfolding closed_form holding
undecided_state c a t = ap (λ z. assembling (cond z fresh (reader_after c.state)) (over (gathered c.state) a)) t

pub after_call : (p a xs : List ℕ) → max_gathered ≤ length a → After (unfinished p (call_reads p xs)) (run (holding p a) xs).state
after_call p a xs room =
    let c = call p xs in
    let q = c.state in
    let left = (reads xs p).leaves in
    let is = ap (λ o. o.state) (call_closed xs p a room) in
    by_test (decided c.fate)
    (λ t. record {
      under = over (gathered q) a;
      room = rw (over_length (gathered q) a room) room;
      state = is ∙ decided_state c a t ∙ ap (λ z. holding z (over (gathered q) a)) (sym (left ∙ simp t));
    })
    (λ t. record { under = a; room = room; state = is ∙ undecided_state c a t ∙ ap (λ z. holding z a) (sym (left ∙ simp t)) })

-- what a call tells is the fate of the piece that it finished, if any
pub call_tells : (p a xs : List ℕ) → max_gathered ≤ length a → given (run (holding p a) xs).fate ≡ fates_of (finished p (call_reads p xs))
unfolding closed_form
call_tells p a xs room = ap (λ o. given o.fate) (call_closed xs p a room) ∙ sym (reads xs p).tells

-- so the body that it checked, if any, is that of what it read
pub call_checked : (p : List ℕ) (h : Assembling) (xs : List ℕ) → After p h → checked_of (given (run h xs).fate) ≡ checked_in p (call_reads p xs)
unfolding checked_in
call_checked p h xs a = ap (λ s. checked_of (given (run s xs).fate)) a.state ∙ ap checked_of (call_tells p a.under xs a.room)

-- ---- how much it reads

-- a call that gives no fate reads all, and one that gives a fate reads an octet at least
pub reads_all : (xs p : List ℕ) → decided (call p xs).fate ≡ false → (call p xs).read ≡ length xs
unfolding call
reads_all [] p = λ e. refl
reads_all (b ∷ bs) p =
    by_test (decided (piece_fate_at p b)) (λ t. simp t (λ e. impossible cc)) (λ t. simp (t, one-add) (λ e. ap suc (reads_all bs (grown p b) e)))

pub reads_some : (xs p : List ℕ) → decided (call p xs).fate ≡ true → (1 ≤ (call p xs).read) × (1 ≤ length xs)
unfolding call
reads_some [] p = λ e. impossible cc
reads_some (b ∷ bs) p = by_test (decided (piece_fate_at p b)) (λ t. simp t (λ e. omega arith)) (λ t. simp t (λ e. omega arith))
