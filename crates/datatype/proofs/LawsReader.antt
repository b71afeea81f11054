-- Laws of the reader: what reading an item answers, by the kind of its letter, and what reading on after an item answers.
use mathlib.Core.Path.{◌≡◌, refl, sym, ap, ◌∙◌}
use mathlib.Core.Bool.{true, false}
use mathlib.Core.List.{List, []}
use Prim.Native.Nat.{ℕ, ◌+◌, ◌-◌, ◌≤◌, ◌<◌}
use native.Mathlib.Omega.{arith}
use lib.ListN.{length, get_or, take, drop}
use lib.Seq.{length-take-le, drop-drop}
use Rattle.octets.proofs.LawsLists.{front}
use Rattle.octets.proofs.LawsTests.{impossible}
use Rattle.typestring.specs.declared.kind.ItemKind.TheVariants as kind
use Rattle.typestring.specs.declared.kind.Value.{Value}
use Rattle.typestring.specs.Kind.{kind_of}
use Rattle.typestring.specs.Grammar.{Item, Items, value, rest, struct, array, print_item}
use Rattle.typestring.specs.Parse.{ends_part}
use Rattle.typestring.specs.Calls.{PartFrom, ItemFrom, EndsItem}
use Rattle.typestring.proofs.LawsPlaces.{kind_is, item_first, item_place, part_ended, part_item, struct_inner, array_inner, is_value, is_struct, is_array}
use Rattle.datatype.specs.Answer.{max_payload}
use Rattle.datatype.specs.declared.leaf.Span.{Span}
use Rattle.datatype.specs.declared.leaf.Misfit.{Misfit}
use Rattle.packed.specs.declared.Fault.{Fault}
use Rattle.std.specs.Prelude.{Option, Some, Result, Ok}
use Rattle.datatype.specs.declared.list.Read.{Read}
use Rattle.datatype.specs.Leaf.{span_of, counted_at, rest_of, stands, unfit}
use Rattle.datatype.specs.Reading.{Leaf, upto, and_then, leaf_reads, contents, item_reads, part_reads}
use Rattle.datatype.specs.Calls.{Room, Small, Did, reached, ReadsPart, ReadsItem}
use Rattle.datatype.proofs.LawsLeaves.{span_fits, counted_fits}
use Rattle.datatype.proofs.LawsTook.{Took, element_took, item_took, array_more}
use Rattle.datatype.proofs.LawsReading.{elements_done}
use Rattle.datatype.proofs.LawsDid.{Finishes, did_upto, did_none, did_then, did_not, filled_to, did_filling}

-- ---- an item by the kind of its letter

module _ (types : List ℕ) (at depth : ℕ) (part : List ℕ) (from : ℕ) (l l' : List ℕ) (k : ℕ) (r : Result Read Misfit) where
  pub reads_value : (v : Value) (s : Result Span Misfit) → kind_of (get_or types at 0) ≡ Some (kind.Value v) → s ≡ span_of v part from
      → Did (leaf_reads (get_or types at 0) s) l l' k r → ReadsItem (drop at types) depth part from l l' k r
  unfolding item_reads
  reads_value v s e f d i w = rw (is_value types at depth i v w e, ← f) d

  reads_struct : kind_of (get_or types at 0) ≡ Some kind.Struct
      → ((t : Items) → PartFrom (drop (at + 2) types) (depth - 1) t
      → Did (contents (counted_at part from) (λ start stop. part_reads t (take stop part) start)) l l' k r)
      → ReadsItem (drop at types) depth part from l l' k r
  unfolding item_reads
  reads_struct e d i w =
      let s = is_struct types at depth i w e in
      rw s.1 (d s.0 (struct_inner types at depth s.0 (rw s.1 at w)).2)

  pub reads_array : kind_of (get_or types at 0) ≡ Some kind.Array
      → ((t : Items) → ItemFrom (drop at types) depth (array t) → Did (item_reads (array t) part from) l l' k r)
      → ReadsItem (drop at types) depth part from l l' k r
  reads_array e d i w = let s = is_array types at depth i w e in rw s.1 (d s.0 (rw s.1 at w))

-- a value's span is within the payload
pub span_small : (v : Value) (part : List ℕ) (from letter : ℕ) (s : Span) → from ≤ length part → length part ≤ max_payload → kind_of letter ≡ Some (kind.Value v)
    → Ok s ≡ span_of v part from → Small s
span_small v part from letter s room short e f =
    let g = span_fits v part from s.start s.size s.next room letter e (sym f) in (omega arith, omega arith)

-- D
pub reads_rest : (types : List ℕ) (at depth : ℕ) (part : List ℕ) (from : ℕ) (l l' : List ℕ) (n : ℕ) (r : Result Read Misfit)
    → kind_of (get_or types at 0) ≡ Some kind.Rest → Did (leaf_reads (get_or types at 0) (Ok (rest_of part from))) l l' n r
    → ReadsItem (drop at types) depth part from l l' n r
unfolding item_reads print_item
reads_rest types at depth part from l l' n r e d i w = go i w (sym (item_first types at depth i w).0 ∙ e)
  where
    go : (i : Item) → ItemFrom (drop at types) depth i → Some (kind_is i) ≡ Some kind.Rest → Did (item_reads i part from) l l' n r
    go (value c v) w f = impossible cc
    go rest w f = rw (← (front types at 68 w.behind w.printed).0) d
    go (struct t) w f = impossible cc
    go (array t) w f = impossible cc

-- ---- t and its contents

pub struct_at : (types : List ℕ) (at depth : ℕ) → ((i : Item) × ItemFrom (drop at types) depth i) → kind_of (get_or types at 0) ≡ Some kind.Struct
    → (0 < depth) × (at + 2 ≤ length types) × ((t : Items) × PartFrom (drop (at + 2) types) (depth - 1) t)
struct_at types at depth (i, w) e =
    let s = is_struct types at depth i w e in
    let inner = struct_inner types at depth s.0 (rw s.1 at w) in
    (inner.0, inner.1, (s.0, inner.2))

pub struct_room : (types part : List ℕ) (at from leaves start size next : ℕ) → Room types part at from leaves → at + 2 ≤ length types
    → counted_at part from ≡ stands start size next → Room types (take next part) (at + 2) start leaves
struct_room types part at from leaves start size next room two e =
    let f = counted_fits part from start size next room.within e in
    let all : length (take next part) ≡ next = length-take-le next part f.2 in
    record { few = room.few; placed = two; short = omega (arith, room.short); within = omega arith; counted = omega (arith, room.counted) }

module _ (types : List ℕ) (at depth : ℕ) (part : List ℕ) (from : ℕ) (l l' : List ℕ) (k : ℕ) (e : kind_of (get_or types at 0) ≡ Some kind.Struct) where
  pub struct_misfit : (w : Option Fault) → counted_at part from ≡ unfit w → ReadsItem (drop at types) depth part from l l' k (unfit w)
  unfolding contents
  struct_misfit w f = reads_struct types at depth part from l l' k (unfit w) e (λ t u. rw f refl)

  pub struct_reads : (start size next : ℕ) (r : Result Read Misfit) → counted_at part from ≡ stands start size next
      → ReadsPart (drop (at + 2) types) (depth - 1) (take next part) start l l' k r
      → ReadsItem (drop at types) depth part from l l' k (filled_to next r)
  unfolding contents
  struct_reads start size next r f inner =
      reads_struct types at depth part from l l' k (filled_to next r) e
      (λ t w. rw f (did_filling next (part_reads t (take next part) start) l l' k r (inner t w)))

-- ---- A and its elements

module _ (types : List ℕ) (at depth : ℕ) (t : Items) (w : ItemFrom (drop at types) depth (array t)) (part : List ℕ) (from : ℕ) where
  array_took : (p : ℕ) (ls : List Leaf) → from ≤ length part → part_reads t part from ≡ upto p ls → Took part from p ls 1 1
  array_took p ls = let inner = array_inner types at depth t w in element_took t (depth - 1) part from p ls inner.3 inner.4

array_done : (t : Items) (part : List ℕ) (from : ℕ) → length part ≤ from → item_reads (array t) part from ≡ upto from []
unfolding item_reads
array_done t part from h = elements_done (λ p. part_reads t part p) (length part - from) from (length part) h

pub array_at : (types : List ℕ) (at depth : ℕ) → ((i : Item) × ItemFrom (drop at types) depth i) → kind_of (get_or types at 0) ≡ Some kind.Array
    → (t : Items) × ItemFrom (drop at types) depth (array t)
array_at types at depth (i, w) e = let s = is_array types at depth i w e in (s.0, rw s.1 at w)

module _ (types part : List ℕ) (at depth next count : ℕ) (l l₁ : List ℕ) (r₁ : Result Read Misfit) (t : Items) (w : ItemFrom (drop at types) depth (array t))
    (more_left : next < length part) (element : ReadsPart (drop (at + 2) types) (depth - 1) part next l l₁ count r₁) where
  more_is : item_reads (array t) part next ≡ and_then (part_reads t part next) (λ p. item_reads (array t) part p)
  more_is = let inner = array_inner types at depth t w in array_more t (depth - 1) part next inner.3 inner.4 more_left

  this : Did (part_reads t part next) l l₁ count r₁
  this = element t (array_inner types at depth t w).2

  pub element_misfit : (l₂ : List ℕ) (v : Option Fault) → r₁ ≡ unfit v → Did (item_reads (array t) part next) l l₂ count (unfit v)
  element_misfit l₂ v e =
      rw more_is
      (did_not (part_reads t part next) (λ p. item_reads (array t) part p) l l₁ l₂ count v (rw e at this))

  module _ (q n : ℕ) (e : r₁ ≡ reached q n) where
    pub element_room : count ≤ next + at → (next < q) × (q ≤ length part) × (n ≤ q + at)
    element_room counted =
        let d = did_upto (part_reads t part next) l l₁ count q n (rw e at this) in
        let g = array_took types at depth t w part next q d.0 (omega arith) d.1 in
        (omega (arith, g.onward), g.within, omega (arith, g.onward, g.few))

    pub element_on : Finishes (item_reads (array t) part next) l count (item_reads (array t) part q) l₁ n
    element_on r l₂ d =
        rw more_is
        (did_then (part_reads t part next) (λ p. item_reads (array t) part p) l l₁ l₂ count q n r (rw e at this) d)

pub elements_end : (t : Items) (part : List ℕ) (from : ℕ) (l : List ℕ) (k : ℕ) → length part ≤ from
    → Did (item_reads (array t) part from) l l k (reached from k)
elements_end t part from l k h = rw (array_done t part from h) (did_none l from k)

-- ---- a sequence, item by item

pub sequence_ends : (s : List ℕ) (depth : ℕ) (part : List ℕ) (from : ℕ) (l : List ℕ) (k : ℕ) (t : Items) → ends_part s ≡ true → PartFrom s depth t
    → Did (part_reads t part from) l l k (reached from k)
unfolding part_reads
sequence_ends s depth part from l k t shut w = rw (part_ended s depth t shut w) (did_none l from k)

module _ (types part : List ℕ) (place depth next count : ℕ) (l l₁ : List ℕ) (r₁ : Result Read Misfit) (t : Items) (w : PartFrom (drop place types) depth t)
    (going : ends_part (drop place types) ≡ false) (item : ReadsItem (drop place types) depth part next l l₁ count r₁) where
  pub turn_misfit : (l₂ : List ℕ) (v : Option Fault) → r₁ ≡ unfit v → Did (part_reads t part next) l l₂ count (unfit v)
  unfolding part_reads
  turn_misfit l₂ v e =
      let x = part_item (drop place types) depth t going w in
      rw x.2 (did_not (item_reads x.0 part next) (λ p. part_reads x.1 part p) l l₁ l₂ count v (rw e at (item x.0 x.3)))

  module _ (q n : ℕ) (e : r₁ ≡ reached q n) (place' : ℕ) (ends : EndsItem (drop place types) place place') where
    pub turn_room : Room types part place next count → (place < place') × Room types part place' q n
    turn_room room =
        let x = part_item (drop place types) depth t going w in
        let d = did_upto (item_reads x.0 part next) l l₁ count q n (rw e at (item x.0 x.3)) in
        let g = item_took x.0 depth _ part next q d.0 x.3.rules room.within d.1 in
        let here = item_place types place depth x.0 x.3 in
        let there : place' ≡ place + length (print_item x.0) = ends x.0 depth x.3 in (
          omega arith,
          record { few = room.few; placed = omega arith; short = room.short; within = g.within; counted = omega (arith, g.onward, g.few, room.counted) },
        )

    pub turn_on : (u : Items) × PartFrom (drop place' types) depth u × Finishes (part_reads t part next) l count (part_reads u part q) l₁ n
    unfolding part_reads
    turn_on =
        let x = part_item (drop place types) depth t going w in
        let there : drop (length (print_item x.0)) (drop place types) ≡ drop place' types =
        drop-drop (length (print_item x.0)) place types ∙ ap (λ k. drop k types) (sym (ends x.0 depth x.3)) in
        let first = rw e at (item x.0 x.3) in (
          x.1,
          rw (← there) x.4,
          λ r l₂ d. rw x.2 (did_then (item_reads x.0 part next) (λ p. part_reads x.1 part p) l l₁ l₂ count q n r first d),
        )
