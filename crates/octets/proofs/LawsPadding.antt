-- Laws of lists held in arrays.
use mathlib.Core.Path.{◌≡◌, ap, ◌∙◌}
use mathlib.Core.Bool.{true}
use mathlib.Core.List.{List, ◌++◌}
use Prim.Native.Nat.{ℕ, ◌+◌, ◌-◌, ◌≤◌}
use native.Mathlib.Omega.{arith}
use native.Mathlib.Nat.{zero-add}
use lib.Dec.{eqb}
use borrow.Author.Tests.{eq-eqb}
use lib.ListN.{length, get_or, take, replicate, length-append, length-replicate}
use lib.Seq.{sets, sets-eq, take-append_seam, get_or-append_right}
use Rattle.std.proofs.lemmas.List.{drop-replicate}
use Rattle.std.proofs.lemmas.Grind.{common_steps}
use Rattle.octets.specs.Padding.{pad}
use Rattle.octets.specs.Scanning.{zeros_from}
use Rattle.octets.proofs.LawsScanning.{from_all}

-- octets written to the front of zeros
pub written_pad : (n : ℕ) (xs : List ℕ) → length xs ≤ n → sets (replicate n 0) 0 xs ≡ pad n xs
unfolding pad
written_pad n xs h =
    sets-eq xs (replicate n 0) 0 (omega (arith, length-replicate {A = ℕ} n 0))
    ∙ ap (λ t. xs ++ t) (drop-replicate (0 + length xs) n 0 ∙ ap (λ k. replicate (n - k) 0) (zero-add (length xs)))

pub pad_length : (n : ℕ) (xs : List ℕ) → length xs ≤ n → length (pad n xs) ≡ n
unfolding pad
pad_length n xs h = omega (arith, length-append xs (replicate (n - length xs) 0), length-replicate {A = ℕ} (n - length xs) 0)

pub pad_front : (n : ℕ) (xs : List ℕ) → take (length xs) (pad n xs) ≡ xs
unfolding pad
pad_front n xs = take-append_seam xs (replicate (n - length xs) 0)

zeros_at : (n k : ℕ) → get_or {A = ℕ} (replicate n 0) k 0 ≡ 0
zeros_at n k = grind (arith, common_steps)

pad_at : (n : ℕ) (xs : List ℕ) (k : ℕ) → length xs ≤ k → get_or (pad n xs) k 0 ≡ 0
unfolding pad
pad_at n xs k l = get_or-append_right xs (replicate (n - length xs) 0) k 0 l ∙ zeros_at (n - length xs) (k - length xs)

-- behind the list stand zeros
pub pad_zeros : (n : ℕ) (xs : List ℕ) → zeros_from (length xs) (pad n xs) ≡ true
unfolding zeros_from
pad_zeros n xs = from_all (λ i. eqb (get_or (pad n xs) i 0) 0) (length xs) (length (pad n xs) - length xs) (λ k l h. eq-eqb _ _ (pad_at n xs k l))
