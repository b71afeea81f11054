-- Laws of the statuses with which bodies are refused.
use mathlib.Core.Path.{◌≡◌, refl}
use mathlib.Core.Bool.{true}
use Prim.Native.Nat.{ℕ}
use lib.Dec.{leb}
use Rattle.property.specs.Status.{max_status, RefusalStatus, invalid_argument, invalid_state, invalid_command, parse_error, nomem, prop_not_found, already, item_not_found, invalid_command_for_prop}

-- what holds of each of the nine holds of any
pub by_status : (P : ℕ → Type 0) → P 3 → P 4 → P 5 → P 9 → P 11 → P 13 → P 19 → P 20 → P 21 → (s : ℕ) → RefusalStatus s → P s
by_status P p3 p4 p5 p9 p11 p13 p19 p20 p21 s r = by s r
  where
    by : (s : ℕ) → RefusalStatus s → P s
    by _ invalid_argument = p3
    by _ invalid_state = p4
    by _ invalid_command = p5
    by _ parse_error = p9
    by _ nomem = p11
    by _ prop_not_found = p13
    by _ already = p19
    by _ item_not_found = p20
    by _ invalid_command_for_prop = p21

-- a link can hold it as its last status
pub refusal_most : (s : ℕ) → RefusalStatus s → leb s max_status ≡ true
refusal_most s r = by_status (λ x. leb x max_status ≡ true) refl refl refl refl refl refl refl refl refl s r
