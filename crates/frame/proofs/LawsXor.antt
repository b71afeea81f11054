-- Exclusive or is associative: its halves and its low bits go apart.
use mathlib.Core.Path.{◌≡◌, refl, sym, ap, ◌∙◌}
use Prim.Native.Nat.{ℕ, zero, suc, ◌/◌, ◌%◌, ◌<◌}
use native.Mathlib.Omega.{arith}
use lib.Arith.{bin_ind}
use lib.Bits.{bit_xor, xor_shr, xor_mod}

bit_assoc : (a b c : ℕ) → a < 2 → b < 2 → c < 2 → bit_xor (bit_xor a b) c ≡ bit_xor a (bit_xor b c)
bit_assoc zero b c p q r = refl
bit_assoc (suc zero) zero c p q r = refl
bit_assoc (suc zero) (suc zero) zero p q r = refl
bit_assoc (suc zero) (suc zero) (suc zero) p q r = refl
bit_assoc (suc zero) (suc zero) (suc (suc c)) p q r = absurd (omega arith)
bit_assoc (suc zero) (suc (suc b)) c p q r = absurd (omega arith)
bit_assoc (suc (suc a)) b c p q r = absurd (omega arith)

-- two numbers are equal if their halves and their low bits are
by_halves : {m n : ℕ} → m / 2 ≡ n / 2 → m % 2 ≡ n % 2 → m ≡ n
by_halves h l = omega (arith, h, l)

pub xor_assoc : (a b c : ℕ) → bit_xor (bit_xor a b) c ≡ bit_xor a (bit_xor b c)
xor_assoc =
    bin_ind (λ (n : ℕ). (b c : ℕ) → bit_xor (bit_xor n b) c ≡ bit_xor n (bit_xor b c)) (λ b c. refl)
    (λ n ih b c.
    by_halves
    (xor_shr (bit_xor n b) c 1 ∙ ap (λ m. bit_xor m (c / 2)) (xor_shr n b 1) ∙ ih (b / 2) (c / 2)
    ∙ ap (bit_xor (n / 2)) (sym (xor_shr b c 1)) ∙ sym (xor_shr n (bit_xor b c) 1))
    (xor_mod (bit_xor n b) c 1 ∙ ap (λ m. bit_xor m (c % 2)) (xor_mod n b 1)
    ∙ bit_assoc (n % 2) (b % 2) (c % 2) (omega arith) (omega arith) (omega arith)
    ∙ ap (bit_xor (n % 2)) (sym (xor_mod b c 1)) ∙ sym (xor_mod n (bit_xor b c) 1)))
