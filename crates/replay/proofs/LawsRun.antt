-- Laws of the program's chunks, one after the other.
use mathlib.Core.Bool.{true, false}
use mathlib.Core.Path.{◌≡◌, refl, sym, ap, ◌∙◌}
use mathlib.Core.List.{List, [], ◌∷◌, ◌++◌, foldl-append}
use Prim.Native.Nat.{ℕ, ◌+◌}
use lib.ListN.{length-append}
use Rattle.std.specs.Prelude.{Bool, Option}
use Rattle.octets.proofs.LawsTests.{impossible}
use Rattle.capture.specs.Records.{Entry}
use Rattle.replay.specs.Play.{State, after_all}
use Rattle.replay.specs.Chunks.{IsChunk, entry_in, is_none, after_chunk}
use Rattle.replay.specs.Run.{has_ended, Turned, AllRecords, none, more, Ran}

pub ran_none : (s : State) → Ran s s 0
ran_none s = record { chunks = []; all = none; count = refl; left = refl }

records_then : {xss : List (List ℕ)} (xs : List ℕ) → AllRecords xss → IsChunk xs → is_none (entry_in xs) ≡ false → AllRecords (xss ++ (xs ∷ []))
records_then xs none p r = more p r none
records_then xs (more q k qs) p r = more q k (records_then xs qs p r)

stays : (s : State) (es : List Entry) → is_none es ≡ true → after_all s es ≡ s
unfolding after_all
stays s [] e = refl
stays s (a ∷ es) e = impossible (cc e)

module _ (s t p : State) {line : Option (Option Bool)} (xs : List ℕ) (n : ℕ) (r : Ran s t n) (w : Turned t p line xs) where
  -- a record more
  pub ran_next : IsChunk xs → has_ended line ≡ false → Ran s p (n + 1)
  ran_next f on =
      record {
        chunks = r.chunks ++ (xs ∷ []);
        all = records_then xs r.all f (sym w.ended ∙ on);
        count = length-append r.chunks (xs ∷ []) ∙ ap (λ k. k + 1) r.count;
        left = w.state ∙ ap (λ z. after_chunk z xs) r.left ∙ sym (foldl-append after_chunk s r.chunks (xs ∷ []));
      }

  -- a chunk that is no record leaves the box as it stands
  pub ran_last : has_ended line ≡ true → Ran s p n
  unfolding after_chunk
  ran_last off =
      record {
        chunks = r.chunks;
        all = r.all;
        count = r.count;
        left = w.state ∙ stays t (entry_in xs) (sym w.ended ∙ off) ∙ r.left;
      }
