-- PROMISE: a line that spells octets is read as them. Where they fit the lent space, all are kept; else those that fit, and it is told that
-- there are more. They stand at the front of the space, and behind them what stood there before.
use mathlib.Core.Bool.{true, false}
use mathlib.Core.Path.{◌≡◌, refl, sym, ap, subst, ◌∙◌}
use mathlib.Core.List.{List, [], ◌∷◌, ◌++◌, append-nil, foldl, foldl-append}
use Prim.Native.Nat.{ℕ, suc, ◌≤◌, ◌<◌}
use native.Mathlib.Omega.{arith}
use native.Mathlib.Nat.{zero-add}
use lib.ListN.{length, take, drop, get_or, take-append-drop, drop_of_length-le}
use lib.Seq.{length-take-le, drop-cons}
use Rattle.std.specs.Prelude.{Some}
use Rattle.std.proofs.Common.{rules}
use Rattle.octets.proofs.LawsWriting.{sets_front}
use Rattle.lines.specs.declared.reader.Stage.TheVariants.{Space}
use Rattle.lines.specs.declared.reader.HexLine.TheVariants.{Octets, More}
use Rattle.lines.specs.Spelling.{space, Spells, none, last, joined, spaced}
use Rattle.lines.specs.Reader.{fresh, at, Keeping, keeping, with_octet, step_from, reading, outcome, at_end, read_line}
use Rattle.lines.proofs.LawsSpelling.{Open, two_letters, kept_at}
use Rattle.lines.proofs.LawsKeeping.{behind, kept_stage, all_kept, more_told}

-- behind an octet another one may start, directly or behind a space
kept_open : (h : Keeping) (x : ℕ) → Open (with_octet h x).reader.stage
kept_open h x = subst Open (sym (kept_stage h x)) tt

over_space : (h : Keeping) (x : ℕ) → step_from (with_octet h x).reader.stage (with_octet h x) space ≡ keeping (at (with_octet h x).reader Space) (with_octet h x).out
over_space h x = search (rules, kept_stage h x)

-- the reader keeps what is spelled
keeps : {text ys : List ℕ} {y : ℕ} → Spells text (y ∷ ys) → (h : Keeping) → Open h.reader.stage → reading h text ≡ foldl with_octet h (y ∷ ys)
keeps (last t) h o = two_letters h o t
keeps (joined {x = x} {text = text} t s) h o = ap (λ g. reading g text) (two_letters h o t) ∙ keeps s (with_octet h x) (kept_open h x)
keeps (spaced {x = x} {y = y} {text = text} {ys = ys} t s) h o =
    let g = with_octet h x in
    ap (λ k. reading k (space ∷ text)) (two_letters h o t) ∙ ap (λ k. reading k text) (over_space h x)
    ∙ keeps s (keeping (at g.reader Space) g.out) tt ∙ ap (λ k. foldl with_octet k ys) (kept_at g Space y)

-- at the start of a line
from_fresh : (out : List ℕ) (x : ℕ) (xs : List ℕ) → foldl with_octet (keeping fresh out) (x ∷ xs) ≡ foldl with_octet (keeping (behind 0 false) out) (x ∷ xs)
from_fresh out x xs = refl

front_kept : (xs out : List ℕ) → length xs ≤ length out
    → foldl with_octet (keeping (behind 0 false) out) xs ≡ keeping (behind (length xs) false) (xs ++ drop (length xs) out)
front_kept xs out room = search (rules, zero-add (length xs), all_kept xs 0 false out (search rules), sets_front xs out room)

pub reads_spelled : {text xs : List ℕ} → Spells text xs → (out : List ℕ) → length xs ≤ length out
    → read_line text out ≡ outcome (Some (Octets (length xs))) (xs ++ drop (length xs) out)
reads_spelled {xs = []} none out room = refl
reads_spelled {xs = x ∷ xs} s out room = ap at_end (keeps s (keeping fresh out) tt ∙ from_fresh out x xs ∙ front_kept (x ∷ xs) out room)

-- the octets that fit, and one more at least behind them
module _ (xs out : List ℕ) (most : length out < length xs) where
  size : length (take (length out) xs) ≡ length out
  size = length-take-le (length out) xs (omega arith)

  filled : foldl with_octet (keeping (behind 0 false) out) (take (length out) xs) ≡ keeping (behind (length out) false) (take (length out) xs)
  filled = search (rules, front_kept (take (length out) xs) out (search (rules, size)), size, drop_of_length-le out {i = length out} (search rules), append-nil (take (length out) xs))

  overflowed : foldl with_octet (keeping (behind 0 false) out) xs ≡ keeping (behind (length out) true) (take (length out) xs)
  overflowed =
      let kept-first = take (length out) xs in
      search (
        rules,
        foldl-append with_octet (keeping (behind 0 false) out) kept-first (drop (length out) xs),
        take-append-drop (length out) xs,
        filled,
        drop-cons xs (length out) 0 most,
        more_told (get_or xs (length out) 0) (drop (suc (length out)) xs) (length out) false kept-first (search (rules, size)),
      )

pub reads_first : {text xs : List ℕ} → Spells text xs → (out : List ℕ) → length out < length xs
    → read_line text out ≡ outcome (Some (More (length out))) (take (length out) xs)
reads_first {xs = []} s out most = absurd (omega arith)
reads_first {xs = x ∷ xs} s out most = ap at_end (keeps s (keeping fresh out) tt ∙ from_fresh out x xs ∙ overflowed (x ∷ xs) out most)
