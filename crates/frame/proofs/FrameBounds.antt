-- PROMISE: a body of n octets takes at least n + 4 and at most 2 n + 6 octets framed (01, Octets on the wire).
use mathlib.Core.Bool.{◌||◌}
use mathlib.Core.List.{List, [], ◌∷◌}
use Prim.Native.Nat.{ℕ, ◌+◌, ◌*◌, ◌≤◌}
use native.Mathlib.Omega.{arith}
use lib.ListN.{length, length-append}
use Rattle.octets.proofs.LawsTests.{by_test}
use Rattle.frame.specs.Kind.{is_flag, is_escape, is_skipped}
use Rattle.frame.specs.Frame.{sent, stuffed, with_check, frame}
use Rattle.frame.proofs.LawsFrame.{checked_length}

sent_bounds : (b : ℕ) → (1 ≤ length (sent b)) × (length (sent b) ≤ 2)
unfolding sent
sent_bounds b = by_test (is_flag b || is_escape b || is_skipped b) (λ t. simp t (omega arith)) (λ t. simp t (omega arith))

stuffed_bounds : (xs : List ℕ) → (length xs ≤ length (stuffed xs)) × (length (stuffed xs) ≤ 2 * length xs)
unfolding stuffed
stuffed_bounds [] = omega arith
stuffed_bounds (x ∷ xs) =
    let one = sent_bounds x in
    let rest = stuffed_bounds xs in
    omega (arith, length-append (sent x) (stuffed xs))

pub frame_bounds : (body : List ℕ) → (length body + 4 ≤ length (frame body)) × (length (frame body) ≤ 2 * length body + 6)
unfolding frame
frame_bounds body =
    let stuff = stuffed_bounds (with_check body) in
    omega (arith, length-append (stuffed (with_check body)) (0x7e ∷ []), checked_length body)
