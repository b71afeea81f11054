-- PROMISE: where the answer is 0, the leaves stand in the payload one behind the other, there is at most one more of them than octets, and
-- the list has three numbers for each. A list of 3,900 numbers is long enough for every type string and payload, and no shorter one is.
use mathlib.Core.Bool.{false}
use mathlib.Core.List.{List, [], ◌∷◌, append-nil}
use mathlib.Core.Logic.{◌≢◌}
use mathlib.Core.Path.{◌≡◌, refl, ap}
use Prim.Native.Nat.{ℕ, zero, suc, ◌+◌, ◌-◌, ◌*◌, ◌≤◌, ◌<◌}
use native.Mathlib.Omega.{arith}
use borrow.Author.Tests.{eq-eqb, ltb-false, lt-ltb, le-ltb}
use lib.Dec.{ltb}
use lib.ListN.{length}
use Rattle.octets.proofs.LawsTests.{by_test, impossible}
use Rattle.typestring.specs.Grammar.{Item, Items, value, array, end, more, print, ItemRules, TypeString, max_open}
use Rattle.typestring.specs.declared.kind.Value.TheVariants as value
use Rattle.typestring.specs.Kind.{kind_of}
use Rattle.typestring.specs.Parse.{Parsed, malformed, parsed, type_of}
use Rattle.typestring.proofs.Grammatical.{sound}
use Rattle.datatype.specs.Reading.{Leaf, leaf_of, InOrder, Reading, misfit, upto, prefixed, and_then, filling, leaf_reads, elements, part_reads}
use Rattle.datatype.specs.Leaf.{fixed_at, span_of}
use Rattle.datatype.specs.Answer.{max_payload, max_numbers, leaves, listed, payload_reads, result, answer_to, report_of}
use Rattle.datatype.proofs.ByGrammar.{by_tree}
use Rattle.datatype.proofs.LawsReading.{filling_fit}
use Rattle.datatype.proofs.LawsTook.{part_took, part_few}

pub record Placed (payload : List ℕ) (room : ℕ) (ls : List Leaf) : Type 0 where
  pub ordered : InOrder 0 ls (length payload)
  pub few : length ls ≤ length payload + 1
  pub listed : 3 * length ls ≤ room

-- a list with room for the leaves of a reading
roomy : (room : ℕ) (m : Reading) (ls : List Leaf) → listed room m ≡ leaves ls → (p : ℕ) × (m ≡ upto p ls) × (3 * length ls ≤ room)
unfolding listed
roomy room (misfit w) ls e = impossible cc
roomy room (upto p ms) ls e =
    by_test (ltb room (3 * length ms)) (λ t. impossible (cc (rw t at e)))
    (λ t. let same : ms ≡ ls = cc (rw t at e) in (p, ap (upto p) same, rw (← same) (ltb-false room (3 * length ms) t)))

pub leaves_placed : (types payload : List ℕ) (room : ℕ) (ls : List Leaf) → result (type_of types) payload room ≡ leaves ls → Placed payload room ls
unfolding result
leaves_placed types payload room ls e = go (type_of types) (sound types) e
  where
    go : (p : Parsed) → ((t : Items) (s : List ℕ) → p ≡ parsed t s → TypeString types t) → result p payload room ≡ leaves ls → Placed payload room ls
    go malformed typed e = impossible cc
    go (parsed t s) typed e =
        by_test (ltb max_payload (length payload)) (λ long. impossible (cc (rw long at e)))
        (λ short. let w = roomy room (payload_reads t payload) ls (rw short at e) in
        let f = filling_fit (length payload) (part_reads t payload 0) w.0 ls w.1 in
        let g = part_took t max_open false payload 0 w.0 ls (typed t s refl).rules (omega arith) f.0 in
        record { ordered = rw f.1 at g.ordered; few = omega (arith, g.within, g.few); listed = w.2 })

-- ---- a list that is long enough

pub long_enough : (types payload list : List ℕ) → max_numbers ≤ length list → (report_of (answer_to types payload list)).number ≢ 17
unfolding result listed report_of
long_enough types payload list long = go (type_of types) (sound types)
  where
    go : (p : Parsed) → ((t : Items) (s : List ℕ) → p ≡ parsed t s → TypeString types t) → (report_of (result p payload (length list))).number ≢ 17
    go malformed typed = λ e. omega arith
    go (parsed t s) typed =
        by_test (ltb max_payload (length payload)) (λ over. rw over (λ e. omega arith))
        (λ short. rw short (answered (payload_reads t payload) refl (ltb-false max_payload (length payload) short)))
      where
        answered : (m : Reading) → payload_reads t payload ≡ m → length payload ≤ max_payload → (report_of (listed (length list) m)).number ≢ 17
        answered (misfit w) h short = λ e. omega arith
        answered (upto p ls) h short =
            let w = typed t s refl in
            let f = filling_fit (length payload) (part_reads t payload 0) p ls h in
            let letters : length (print t) ≤ max_payload = rw w.printed (omega (arith, w.short)) in
            let few = part_few t max_open false payload 0 p ls max_payload w.rules (omega arith) f.0 short letters in
            rw (le-ltb (length list) (3 * length ls) (omega arith)) (λ e. omega arith)

-- ---- and no shorter one is

-- A(C), which has a leaf for each octet
abbrev pub octet_array : List ℕ
octet_array = 65 ∷ 40 ∷ 67 ∷ 41 ∷ []

abbrev octet : Item
octet = value 67 (value.Fixed 1)

abbrev octets : Items
octets = more (array (more octet end)) end

spelled : TypeString octet_array octets
unfolding print ItemRules kind_of
spelled = record { printed = refl; rules = ((refl, omega arith, tt, (refl, (λ e. refl), tt)), (λ e. refl), tt); short = omega arith }

octet_leaves : (part : List ℕ) (n from : ℕ) → from + n ≡ length part
    → (ls : List Leaf) × (elements n (λ p. part_reads (more octet end) part p) from (length part) ≡ upto (length part) ls) × (length ls ≡ n)
unfolding elements part_reads and_then prefixed leaf_reads span_of fixed_at
octet_leaves part zero from e = ([], ap (λ k. upto k []) (omega arith), refl)
octet_leaves part (suc n) from e =
    let w = octet_leaves part n (from + 1) (omega arith) in
    (leaf_of 67 from 1 ∷ w.0, rw (lt-ltb from (length part) (omega arith), le-ltb (length part - from) 1 (omega arith), w.1) refl, ap suc w.2)

octets_read : (payload : List ℕ) → (ls : List Leaf) × (payload_reads octets payload ≡ upto (length payload) ls) × (length ls ≡ length payload)
unfolding filling part_reads and_then prefixed
octets_read payload =
    let w = octet_leaves payload (length payload - 0) 0 (omega arith) in
    (w.0, rw (w.1, append-nil w.0, eq-eqb (length payload) (length payload) refl) refl, omega (arith, w.2))

pub no_shorter : (payload list : List ℕ) → length payload ≡ max_payload → length list < max_numbers
    → (report_of (answer_to octet_array payload list)).number ≡ 17
unfolding listed report_of
no_shorter payload list full short =
    let w = octets_read payload in
    let many : length list < 3 * length w.0 = omega (arith, w.2) in
    let answer = by_tree octet_array payload (length list) octets spelled in
    rw (answer, le-ltb max_payload (length payload) (omega arith), w.1, lt-ltb (length list) (3 * length w.0) many) refl
