-- What a body that comes from the box is to the table (02, T-06).
use Rattle.std.specs.Prelude.{cond, List, [], ◌∷◌, ℕ, ◌/◌, ◌%◌, eqb, ltb, length}
use Rattle.octets.specs.Body.{min_body, max_body, header_of}
use Rattle.octets.specs.Comparing.{is_same}
use Rattle.transactions.specs.declared.kind.BodyKind.{BodyKind}
use Rattle.transactions.specs.declared.kind.BodyKind.TheVariants.{Announcement, Reply, Other}

-- "A received body 80 06 00 72 is the announcement"
abbrev pub announcement : List ℕ
announcement = 0x80 ∷ 0x06 ∷ 0x00 ∷ 0x72 ∷ []

-- "Any other Spinel body answers the number in its header": one of 2 to 1,300 octets whose top bits are 10
unfoldable pub kind : List ℕ → BodyKind
kind b =
    cond (is_same b announcement) Announcement
    (cond (ltb (length b) min_body) Other
    (cond (ltb max_body (length b)) Other
    (cond (eqb (header_of b / 64) 2) (Reply (header_of b % 16)) Other)))
