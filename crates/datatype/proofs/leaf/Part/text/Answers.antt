-- The zero was found behind as many octets as stand before it, and these are what is judged.
use Rattle.std.proofs.Common.{◌≡◌, sym, ◌∙◌, ℕ, ◌+◌, ◌-◌, ◌<◌, List, length, take, drop, Bool, cond, arith}
use Rattle.std.specs.Prelude.{None}
use borrow.Author.Tests.{lt-ltb, le-ltb}
use Rattle.utf8.specs.Utf8.{is_utf8}
use Rattle.datatype.specs.Leaf.{text_at, stands, unfit}
use Rattle.datatype.proofs.leaf.Part.text.Goals as goal
use Rattle.datatype.proofs.leaf.Part.text.Goals.{then-self-zero-via-then-self-zero, then-self-zero-via-else-self-zero+then-not-is_utf8}

-- text that ends with a zero in its part, by whether it is UTF-8
told : (part : List ℕ) (from size end : ℕ) (good : Bool) → end ≡ from + size → end < length part → good ≡ is_utf8 (take (end - from) (drop from part))
    → text_at size part from ≡ cond good (stands from (end - from) (end + 1)) (unfit None)
unfolding text_at
told part from size end good e h g = let s : end - from ≡ size = omega arith in rw (g, s, ← e, lt-ltb end (length part) h)

pub returns-then-self-zero : goal.returns-then-self-zero
unfolding text_at
returns-then-self-zero c =
    elim c.then-self-zero.branch [
      | then-self-zero-via-then-self-zero w ↦ rw (← c.find_octet-zero.ensures, le-ltb _ _ w.if-self-zero.true)
      | then-self-zero-via-else-self-zero+then-not-is_utf8 w ↦
          sym (told _ _ _ _ _ c.find_octet-zero.ensures w.if-self-zero.false w.is_utf8.ensures ∙ rw w.if-not-is_utf8.true)
    ]

pub returns : goal.returns
returns c =
    sym (told _ _ _ _ _ c.find_octet-zero.ensures c.if-self-zero.false c.is_utf8.ensures ∙ rw c.if-not-is_utf8.false)
