-- Laws of the rules that more than one proof asks for.
use mathlib.Core.Path.{◌≡◌, refl, ap}
use mathlib.Core.Bool.{true}
use mathlib.Core.List.{List, [], ◌++◌, append-nil}
use Prim.Native.Nat.{ℕ, ◌≤◌, ◌<◌}
use borrow.Author.Tests.{eqb-true, le-leb, leb-true}
use lib.Dec.{eqb}
use lib.ListN.{length, get_or}
use Rattle.octets.specs.Padding.{pad}
use Rattle.octets.specs.Scanning.{all_from, all_below}
use Rattle.octets.proofs.LawsTests.{both_told}
use Rattle.octets.proofs.LawsScanning.{all_at}
use Rattle.octets.proofs.LawsPadding.{pad_length, pad_front, pad_zeros}
use Rattle.property.specs.Number.{numbers, number_at, slot_count}
use Rattle.device.specs.State.{defaults, padded_from}
use Rattle.device.specs.Text.{is_text}
use Rattle.device.specs.Rules.{padded, text_rule}

-- a padded count is within its array, so that so many octets stand at its front
pub padded_within : (xs : List ℕ) (n : ℕ) → padded xs n ≡ true → n ≤ length xs
unfolding padded
padded_within xs n t = leb-true n (length xs) (both_told t).0

-- a text is short enough
pub text_told : (n : ℕ) (xs : List ℕ) → is_text n xs ≡ true → length xs ≤ n
unfolding is_text
text_told n xs t = leb-true (length xs) n (both_told t).0

-- a text that is put into its array keeps its rule if it is a text
pub text_pad : (n : ℕ) (xs : List ℕ) → length xs ≤ n → text_rule (pad n xs) (length xs) ≡ is_text n xs
unfolding text_rule padded
text_pad n xs h = rw (pad_length n xs h, le-leb (length xs) n h, pad_zeros n xs, pad_front n xs)

-- the defaults by slot are the numbers'
pub default_at : (k : ℕ) → k < slot_count → get_or defaults k 0 ≡ (number_at k).default
unfolding defaults numbers all_below all_from
default_at k h = eqb-true _ _ (all_at slot_count (λ j. eqb (get_or defaults j 0) (number_at j).default) refl k h)

-- one run of octets is put as two, the second of none
pub padded_alone : (places : ℕ) (xs : List ℕ) → padded_from places (xs ++ []) ≡ padded_from places xs
padded_alone places xs = ap (padded_from places) (append-nil xs)
