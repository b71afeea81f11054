-- What a writer leaves.
use Rattle.std.specs.Prelude.{ℕ, ◌+◌, ◌≡◌, List, length}
use Rattle.std.proofs.lemmas.List.Edits.{sets}

-- the octets stand from `at` on, every other octet is as it was, and `next` is the place after them
pub record Wrote (before after : List ℕ) (at next : ℕ) (octets : List ℕ) : Type 0 where
  pub held : after ≡ sets before at octets
  pub end : next ≡ at + length octets
