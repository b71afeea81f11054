-- Laws of octets kept one after the other: as many as there is room for.
use mathlib.Core.Bool.{Bool, true}
use mathlib.Core.Path.{◌≡◌, refl, sym, ap}
use mathlib.Core.List.{List, [], ◌∷◌, foldl}
use Prim.Native.Nat.{ℕ, suc, ◌+◌, ◌≤◌, ◌<◌}
use native.Mathlib.Omega.{arith}
use native.Mathlib.Nat.{add-zero}
use lib.ListN.{length, set, length-set}
use lib.Seq.{sets}
use Rattle.std.proofs.Common.{rules}
use Rattle.lines.specs.declared.reader.Stage.TheVariants.{Octet}
use Rattle.lines.specs.declared.reader.LineReader.{LineReader}
use Rattle.lines.specs.Reader.{Keeping, keeping, with_octet}

-- a reader behind an octet
abbrev pub behind : ℕ → Bool → LineReader
behind n m = record { stage = Octet; count = n; more = m }

pub kept_stage : (h : Keeping) (x : ℕ) → (with_octet h x).reader.stage ≡ Octet
kept_stage h x = search rules

kept_room : (n : ℕ) (m : Bool) (out : List ℕ) (x : ℕ) → n < length out → with_octet (keeping (behind n m) out) x ≡ keeping (behind (suc n) m) (set out n x)
kept_room n m out x room = search rules

kept_full : (n : ℕ) (m : Bool) (out : List ℕ) (x : ℕ) → length out ≤ n → with_octet (keeping (behind n m) out) x ≡ keeping (behind n true) out
kept_full n m out x full = search rules

-- where there is room for all
pub all_kept : (xs : List ℕ) (n : ℕ) (m : Bool) (out : List ℕ) → n + length xs ≤ length out
    → foldl with_octet (keeping (behind n m) out) xs ≡ keeping (behind (n + length xs) m) (sets out n xs)
all_kept [] n m out room = ap (λ k. keeping (behind k m) out) (sym (add-zero n))
all_kept (x ∷ xs) n m out room =
    let next : suc n + length xs ≡ n + suc (length xs) = omega arith in
    search (rules, kept_room n m out x (search rules), all_kept xs (suc n) m (set out n x) (search (rules, length-set out n x)), next)

-- where there is none
pub none_kept : (xs : List ℕ) (n : ℕ) (out : List ℕ) → length out ≤ n → foldl with_octet (keeping (behind n true) out) xs ≡ keeping (behind n true) out
none_kept [] n out full = refl
none_kept (x ∷ xs) n out full = search (rules, kept_full n true out x full, none_kept xs n out full)

pub more_told : (x : ℕ) (xs : List ℕ) (n : ℕ) (m : Bool) (out : List ℕ) → length out ≤ n
    → foldl with_octet (keeping (behind n m) out) (x ∷ xs) ≡ keeping (behind n true) out
more_told x xs n m out full = search (rules, kept_full n m out x full, none_kept xs n out full)
