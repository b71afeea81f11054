-- Lists of octets.
use Rattle.std.specs.Prelude.{ℕ, ◌<◌, List, get_or}

-- each element is below 256, as those of every `&[u8]` are
abbrev pub Octets : List ℕ → Type 0
Octets xs = (k : ℕ) → get_or xs k 0 < 256
