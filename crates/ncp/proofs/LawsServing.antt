-- Laws of the program's calls on a chunk, and of its chunks, one after the other.
use mathlib.Core.Logic.{inl, inr}
use mathlib.Core.Path.{◌≡◌, refl, sym, ap, ◌∙◌}
use mathlib.Core.List.{List, [], ◌∷◌, ◌++◌, foldl, foldl-append}
use Prim.Native.Nat.{ℕ, zero, suc, ◌+◌, ◌-◌, ◌≤◌, ◌<◌}
use native.Mathlib.Omega.{arith}
use borrow.Author.Tests.{eq-eqb, ne_eqb}
use lib.ListN.{length, take, drop, replicate, length-append, length-drop}
use Rattle.std.specs.Prelude.{Ok}
use Rattle.octets.proofs.LawsLists.{take_rest}
use Rattle.device.specs.State.{max_reply}
use Rattle.serial.proofs.GoesOn.{reads_within, reads_on, keeps_on}
use Rattle.ncp.specs.declared.serve.Progress.{Progress}
use Rattle.ncp.specs.Serve.{State, state_of, KeepsState, gives, next, feeds, fed, chunk_leaves, chunks_leave, Served, Ended}

-- ---- a call

module _ (s : State) (xs : List ℕ) (k : KeepsState s) where
  pub next_keeps : KeepsState (next s xs)
  unfolding next
  next_keeps = keeps_on s.device s.reader xs s.assembly (replicate max_reply 0) k

  pub next_within : (gives s xs).read ≤ length xs
  next_within = reads_within s.device s.reader xs s.assembly (replicate max_reply 0) k

  pub next_reads : 0 < length xs → 0 < (gives s xs).read
  next_reads = reads_on s.device s.reader xs s.assembly (replicate max_reply 0) k

-- ---- a chunk that is used up call by call

-- after some calls, t and the rest come to what s and the chunk come to
pub record Left (s : State) (xs : List ℕ) (t : State) (rest : List ℕ) : Type 0 where
  pub calls : ℕ
  pub enough : length rest ≤ calls
  pub same : foldl next t (feeds calls t rest) ≡ chunk_leaves s xs

pub left_start : (s : State) (xs : List ℕ) → Left s xs s xs
unfolding chunk_leaves fed
left_start s xs = record { calls = length xs; enough = omega arith; same = refl }

-- one call more: it read n octets and left u
pub record Went (s : State) (xs rest : List ℕ) (n : ℕ) (u : State) : Type 0 where
  pub keeps : KeepsState u
  pub within : n ≤ length rest
  pub less : length (take (length rest - n) (drop n rest)) < length rest
  pub left : Left s xs u (take (length rest - n) (drop n rest))

module _ (s : State) (xs : List ℕ) (t : State) (rest : List ℕ) (k : KeepsState t) (some : 0 < length rest) (l : Left s xs t rest) where
  left_next : Left s xs (next t rest) (drop (gives t rest).read rest)
  unfolding feeds
  left_next = go l.calls l.enough l.same
    where
      go : (n : ℕ) → length rest ≤ n → foldl next t (feeds n t rest) ≡ chunk_leaves s xs → Left s xs (next t rest) (drop (gives t rest).read rest)
      go zero e f = absurd (omega arith)
      go (suc n) e f =
          record {
            calls = n;
            enough = omega (arith, length-drop (gives t rest).read rest, next_reads t rest k some);
            same = rw (ne_eqb (length rest) 0 (λ z. omega arith)) at f;
          }

  pub went : {n : ℕ} {u : State} → n ≡ (gives t rest).read → u ≡ next t rest → Went s xs rest n u
  went {n} e f =
      let less : length (drop n rest) < length rest = omega (arith, length-drop n rest, e, next_reads t rest k some) in
      record {
        keeps = rw f (next_keeps t rest k);
        within = rw e (next_within t rest k);
        less = rw (take_rest rest n) less;
        left = rw (take_rest rest n, e, f) left_next;
      }

pub left_end : (s : State) (xs : List ℕ) (t : State) (rest : List ℕ) → length rest ≡ 0 → Left s xs t rest → t ≡ chunk_leaves s xs
unfolding feeds
left_end s xs t rest none l = go l.calls l.same
  where
    go : (n : ℕ) → foldl next t (feeds n t rest) ≡ chunk_leaves s xs → t ≡ chunk_leaves s xs
    go zero f = f
    go (suc n) f = rw (eq-eqb (length rest) 0 none) at f

-- ---- chunks

pub served_none : (s : State) (p : Progress) (a : List ℕ) → state_of p.session a ≡ s → Served s (Ok p) a 0
unfolding chunks_leave
served_none s p a e = record { chunks = []; count = refl; left = e }

-- a chunk more, for a session that goes on
unfoldable pub served_next : (s : State) (p q : Progress) (a b xs : List ℕ) (n : ℕ) → Served s (Ok p) a n
    → state_of q.session b ≡ chunk_leaves (state_of p.session a) xs → Served s (Ok q) b (n + 1)
unfolding chunks_leave
served_next s p q a b xs n v left =
    record {
      chunks = v.chunks ++ (xs ∷ []);
      count = length-append v.chunks (xs ∷ []) ∙ ap (λ k. k + 1) v.count;
      left = left ∙ ap (λ z. chunk_leaves z xs) v.left ∙ sym (foldl-append chunk_leaves s v.chunks (xs ∷ []));
    }

-- a chunk more, with no octets: the program ends
pub ended_next : (s : State) (p q : Progress) (a b xs : List ℕ) (n : ℕ) → Served s (Ok p) a n
    → state_of q.session b ≡ chunk_leaves (state_of p.session a) xs → xs ≡ [] → q.read ≡ 0 → Ended s (Ok q) b
unfolding served_next
ended_next s p q a b xs n v left none read =
    record {
      reads = n + 1;
      served = served_next s p q a b xs n v left;
      why = inr (inl (record { before = v.chunks; last = ap (λ x. v.chunks ++ (x ∷ [])) none; read = read }));
    }
