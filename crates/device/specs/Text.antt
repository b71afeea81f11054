-- Texts: the version text and a link's name.
use Rattle.std.specs.Prelude.{ℕ, Bool, ◌&&◌, List, eqb, leb, length}
use Rattle.octets.specs.Finding.{before}
use Rattle.utf8.specs.Utf8.{is_utf8}

-- "well-formed UTF-8 (RFC 3629)" (02, T-01), and "without a zero"
unfoldable pub good_text : List ℕ → Bool
good_text xs = is_utf8 xs && eqb (before 0 xs) (length xs)

-- a text of at most so many octets
unfoldable pub is_text : ℕ → List ℕ → Bool
is_text most xs = leb (length xs) most && good_text xs
