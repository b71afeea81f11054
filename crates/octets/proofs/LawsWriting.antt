-- Writers chain: one that goes on where another stopped wrote both.
use mathlib.Core.Path.{◌≡◌, sym, ap, ap₂, ◌∙◌}
use mathlib.Core.List.{List, [], ◌∷◌, ◌++◌, append-nil, append_assoc}
use Prim.Native.Nat.{ℕ, suc, ◌+◌, ◌<◌, ◌≤◌}
use native.Mathlib.Omega.{arith}
use native.Mathlib.Nat.{add-zero, zero-add}
use lib.ListN.{length, get_or, take, drop, set, length-append, drop_of_length-le}
use lib.Seq.{sets, sets-eq, drop-drop}
use borrow.Rule.Slice.PartMut.{put_mid}
use Rattle.octets.specs.Writing.{Wrote}
use Rattle.octets.proofs.LawsLists.{drop_next}

pub sets_append : (xs l : List ℕ) (at : ℕ) (ys : List ℕ) → sets (sets l at xs) (at + length xs) ys ≡ sets l at (xs ++ ys)
sets_append [] l at ys = ap (λ k. sets l k ys) (add-zero at)
sets_append (x ∷ xs) l at ys =
    let e : at + suc (length xs) ≡ suc at + length xs = omega arith in
    ap (λ k. sets (sets (set l at x) (suc at) xs) k ys) e ∙ sets_append xs (set l at x) (suc at) ys

-- what is still to be put, after a writer, is the whole
pub wrote_then : {s t : List ℕ} {at next : ℕ} {xs : List ℕ} (ys : List ℕ) → Wrote s t at next xs → sets t next ys ≡ sets s at (xs ++ ys)
wrote_then {s} {t} {at} {next} {xs} ys w = ap₂ (λ l k. sets l k ys) w.held w.end ∙ sets_append xs s at ys

pub wrote_both : {s t u : List ℕ} {at mid next : ℕ} {xs ys : List ℕ} → Wrote s t at mid xs → Wrote t u mid next ys → Wrote s u at next (xs ++ ys)
wrote_both {xs = xs} {ys = ys} v w =
    record {
      held = w.held ∙ wrote_then ys v;
      end = omega (arith, v.end, w.end, length-append xs ys);
    }

-- what is put from the front stands there, and behind it what stood there before
pub sets_front : (xs s : List ℕ) → length xs ≤ length s → sets s 0 xs ≡ xs ++ drop (length xs) s
sets_front xs s room = let z = zero-add (length xs) in sets-eq xs s 0 (rw z room) ∙ ap (λ n. xs ++ drop n s) z

-- so a whole list that is put over is what was put
pub sets_whole : (xs s : List ℕ) → length xs ≡ length s → sets s 0 xs ≡ xs
sets_whole xs s e = sets_front xs s (omega arith) ∙ rw (drop_of_length-le s {i = length xs} (omega arith), append-nil)

-- the same of a writer
module _ {s t : List ℕ} {next : ℕ} {xs : List ℕ} (room : length xs ≤ length s) (w : Wrote s t 0 next xs) where
  pub front_count : next ≡ length xs
  front_count = w.end ∙ zero-add (length xs)

  pub front_held : t ≡ xs ++ drop (length xs) s
  front_held = w.held ∙ sets_front xs s room

-- what a part of the space holds after it was written whole
pub put_part : (l : List ℕ) (at k : ℕ) (xs ys : List ℕ) → ys ≡ xs → k ≡ length xs → at + length xs ≤ length l → put_mid at k l ys ≡ sets l at xs
put_part l at k xs ys e n room =
    let behind : drop k (drop at l) ≡ drop (at + length xs) l = rw n (drop-drop (length xs) at l) in
    rw (e, behind, sets-eq xs l at room) (sym (append_assoc (take at l) xs (drop (at + length xs) l)))

-- what is still to be put, with its first octet put
pub put_next : (l : List ℕ) (at i : ℕ) (xs : List ℕ) → i < length xs
    → sets (set l (at + i) (get_or xs i 0)) (at + (i + 1)) (drop (i + 1) xs) ≡ sets l (at + i) (drop i xs)
put_next l at i xs h =
    let next : at + (i + 1) ≡ suc (at + i) = omega arith in
    rw (next, drop_next xs i h)
