-- PROMISE: the answer is told by the grammar alone. For a string of the grammar it is what the string's tree reads in the payload, and for
-- any other string it is 15.
use mathlib.Core.Bool.{cond}
use mathlib.Core.List.{List}
use mathlib.Core.Path.{◌≡◌, refl}
use Prim.Native.Nat.{ℕ}
use lib.Dec.{ltb}
use lib.ListN.{length}
use Rattle.std.specs.Prelude.{None}
use Rattle.typestring.specs.Grammar.{Items, TypeString}
use Rattle.typestring.specs.Parse.{Parsed, malformed, parsed, type_of}
use Rattle.typestring.proofs.Grammatical.{sound, complete}
use Rattle.datatype.specs.Answer.{max_payload, refused, listed, payload_reads, result}

pub by_tree : (types payload : List ℕ) (room : ℕ) (t : Items) → TypeString types t
    → result (type_of types) payload room ≡ cond (ltb max_payload (length payload)) (refused 16 None) (listed room (payload_reads t payload))
unfolding result
by_tree types payload room t w = rw (complete types t w)

pub by_none : (types payload : List ℕ) (room : ℕ) → ((t : Items) → TypeString types t → ⊥) → result (type_of types) payload room ≡ refused 15 None
unfolding result
by_none types payload room none = go (type_of types) (λ t s e. none t (sound types t s e))
  where
    go : (p : Parsed) → ((t : Items) (s : List ℕ) → p ≡ parsed t s → ⊥) → result p payload room ≡ refused 15 None
    go malformed h = refl
    go (parsed t s) h = absurd (h t s refl)
