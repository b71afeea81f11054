-- PROMISE: a packed integer takes 1 to 3 octets, each below 256, and one that was written is read back, whatever stands around it.
use mathlib.Core.Path.{◌≡◌, ap₂}
use mathlib.Core.Bool.{false}
use mathlib.Core.List.{List, [], ◌++◌}
use Prim.Native.Nat.{ℕ, zero, suc, ◌+◌, ◌*◌, ◌/◌, ◌%◌, ◌^◌, ◌<◌, ◌≤◌}
use native.Mathlib.Omega.{arith}
use native.Mathlib.Nat.{pow-succ'}
use borrow.Author.Tests.{lt-ltb, le-ltb, ltb-true, ltb-false, ne_eqb}
use lib.Dec.{eqb, ltb}
use lib.ListN.{length}
use lib.Seq.{drop-append_seam}
use Rattle.octets.specs.Octets.{Octets}
use Rattle.octets.proofs.LawsLists.{octets_more}
use Rattle.octets.proofs.LawsTests.{by_test}
use Rattle.packed.specs.Packed.{packed, packed_in, joined, number_in, packed_at, max_packed, read}
use Rattle.packed.proofs.LawsPacked.{size_in, packed_last, packed_more}

pub packed_size : (n : ℕ) → (1 ≤ length (packed n)) × (length (packed n) ≤ 3)
unfolding packed
packed_size n = size_in 2 n

no_octets : Octets []
no_octets zero = omega arith
no_octets (suc i) = omega arith

octets_in : (k n : ℕ) → n < 128 ^ suc k → Octets (packed_in k n)
octets_in zero n h = rw (packed_last 0 n h) (octets_more n [] (omega arith) no_octets)
octets_in (suc k) n h =
    by_test (ltb n 128) (λ e. rw (packed_last (suc k) n (ltb-true n 128 e)) (octets_more n [] (omega (arith, ltb-true n 128 e)) no_octets))
    (λ e. let less : n < 128 * 128 ^ suc k = rw (pow-succ' 128 (suc k)) at h in
    rw (packed_more k n (ltb-false n 128 e)) (octets_more (n % 128 + 128) (packed_in k (n / 128)) (omega arith) (octets_in k (n / 128) (omega arith))))

pub packed_octets : (n : ℕ) → n ≤ max_packed → Octets (packed n)
unfolding packed
packed_octets n most = octets_in 2 n (omega arith)

back : (k at n : ℕ) (after : List ℕ) → n < 128 ^ suc k → number_in (suc k) at (packed_in k n ++ after) ≡ read n (at + length (packed_in k n))
unfolding number_in joined
back zero at n after h = rw (packed_last 0 n h, lt-ltb n 128 h)
back (suc k) at n after h =
    by_test (ltb n 128)
    (λ e. rw (packed_last (suc k) n (ltb-true n 128 e), e))
    (λ e. let less : n < 128 * 128 ^ suc k = rw (pow-succ' 128 (suc k)) at h in
    let high : 128 ≤ n = ltb-false n 128 e in
    let pos : eqb (n / 128) 0 ≡ false = ne_eqb (n / 128) 0 (λ z. omega arith) in
    rw (packed_more k n high, le-ltb (n % 128 + 128) 128 (omega arith), back k (at + 1) (n / 128) after (omega arith), pos)
    (ap₂ read (omega arith) (omega arith)))

pub reads_back : (before after : List ℕ) (n : ℕ) → n ≤ max_packed
    → packed_at (before ++ (packed n ++ after)) (length before) ≡ read n (length before + length (packed n))
unfolding packed_at packed
reads_back before after n most = rw drop-append_seam (back 2 (length before) n after (omega arith))
