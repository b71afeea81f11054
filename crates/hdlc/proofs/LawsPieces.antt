-- What octets add to a piece, and to the pieces before them.
use mathlib.Core.Bool.{Bool, true, false}
use mathlib.Core.Path.{◌≡◌, ap, ◌∙◌}
use mathlib.Core.List.{List, [], ◌∷◌, ◌++◌, append-nil, foldl, foldl-append}
use Prim.Native.Nat.{ℕ}
use Rattle.octets.specs.Runs.{emitted}
use Rattle.octets.proofs.LawsRuns.{each_append, emitted_append}
use Rattle.frame.specs.Kind.{is_skipped}
use Rattle.hdlc.specs.Wire.{kept, meant, pends, gathered, cut_escape, ended, grown, finished, unfinished, fates_of}

kept_append : (p q : List ℕ) → kept (p ++ q) ≡ kept p ++ kept q
unfolding kept
kept_append p q = each_append _ p q

pub gathered_append : (p q : List ℕ) → gathered (p ++ q) ≡ gathered p ++ emitted meant pends (cut_escape p) (kept q)
unfolding gathered cut_escape
gathered_append p q = ap (emitted meant pends false) (kept_append p q) ∙ emitted_append meant pends false (kept p) (kept q)

pub cut_append : (p q : List ℕ) → cut_escape (p ++ q) ≡ foldl pends (cut_escape p) (kept q)
unfolding cut_escape
cut_append p q = ap (foldl pends false) (kept_append p q) ∙ foldl-append pends false (kept p) (kept q)

-- the piece that is open after octets and more octets
pub unfinished_append : (p xs ys : List ℕ) → unfinished p (xs ++ ys) ≡ unfinished (unfinished p xs) ys
unfolding unfinished
unfinished_append p xs ys = foldl-append grown p xs ys

-- the fates of the pieces that both finish
pub fates_append : (p xs ys : List ℕ) → fates_of (finished p (xs ++ ys)) ≡ fates_of (finished p xs) ++ fates_of (finished (unfinished p xs) ys)
unfolding fates_of finished unfinished
fates_append p xs ys = ap fates_of (emitted_append ended grown p xs ys) ∙ each_append _ (finished p xs) (finished (unfinished p xs) ys)

-- a piece q that stands for the octets of p and then those of xs, and ends in an escape or not
pub record Adds (p q xs : List ℕ) (e : Bool) : Type 0 where
  pub octets : gathered q ≡ gathered p ++ xs
  pub cut : cut_escape q ≡ e

-- one octet more
module _ (p : List ℕ) (b : ℕ) where
  pub skipped_adds : is_skipped b ≡ true → Adds p (p ++ (b ∷ [])) [] (cut_escape p)
  unfolding kept
  skipped_adds k = record { octets = gathered_append p (b ∷ []) ∙ simp k; cut = cut_append p (b ∷ []) ∙ simp k }

  pub content_adds : (e : Bool) → cut_escape p ≡ e → is_skipped b ≡ false → Adds p (p ++ (b ∷ [])) (meant e b) (pends e b)
  unfolding kept
  content_adds e t k =
      record { octets = gathered_append p (b ∷ []) ∙ simp (k, t, append-nil); cut = cut_append p (b ∷ []) ∙ simp (k, t) }
