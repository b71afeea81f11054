-- PROMISE: the cause is that of the first fault from the left. It is an integer's fault exactly when the string is one of the grammar's, the
-- payload has at most 1,300 octets and everything up to an i fits that has this fault in its part; and then the answer is 16.
use mathlib.Core.Bool.{Bool, true, false}
use mathlib.Core.List.{List}
use mathlib.Core.Path.{◌≡◌, refl, sym, ap, ◌∙◌}
use Prim.Native.Nat.{ℕ, zero, suc, ◌+◌, ◌-◌, ◌*◌, ◌≤◌, ◌<◌}
use native.Mathlib.Omega.{arith}
use borrow.Author.Tests.{ltb-true, ltb-false, le-ltb}
use lib.Dec.{eqb, ltb, leb}
use lib.ListN.{length, get_or, take, drop}
use lib.Seq.{length-take-le, take-take, take-length}
use Rattle.octets.specs.Finding.{before}
use Rattle.octets.specs.LittleEndian.{le_at}
use Rattle.octets.proofs.LawsTests.{by_test, chosen, impossible}
use Rattle.utf8.specs.Utf8.{is_utf8}
use Rattle.packed.specs.Packed.{packed_at}
use Rattle.packed.specs.declared.Fault.{Fault}
use Rattle.packed.specs.declared.Packed.{Packed}
use Rattle.std.specs.Prelude.{Option, Some, None, Result, Ok, Err}
use Rattle.typestring.specs.declared.kind.ItemKind.TheVariants as kind
use Rattle.typestring.specs.declared.kind.Value.TheVariants as value
use Rattle.typestring.specs.Grammar.{Item, Items, value, rest, struct, array, end, more, HasItem, ItemRules, PartRules, TypeString, max_open}
use Rattle.typestring.specs.Parse.{Parsed, malformed, parsed, type_of}
use Rattle.typestring.proofs.Grammatical.{sound}
use Rattle.typestring.proofs.LawsKinds.{letter_of}
use Rattle.datatype.specs.declared.leaf.Span.{Span}
use Rattle.datatype.specs.declared.leaf.Misfit.{Misfit}
use Rattle.datatype.specs.declared.reading.Refusal.TheVariants as refusal
use Rattle.datatype.specs.Leaf.{fixed_at, bool_at, number_span, text_at, counted_at, span_of, rest_of, stands, unfit}
use Rattle.datatype.specs.Reading.{Leaf, Reading, misfit, upto, prefixed, and_then, filling, leaf_reads, contents, elements, item_reads, part_reads}
use Rattle.datatype.specs.Answer.{Outcome, refused, leaves, listed, payload_reads, result, answer_to, reported, report_of}
use Rattle.datatype.specs.Reached.{Fit, fit_none, fit_more, Reached, here, behind, in_struct, in_array, IntegerFault}
use Rattle.datatype.proofs.ByGrammar.{by_tree}
use Rattle.datatype.proofs.LawsLeaves.{one_cause, counted_fits}
use Rattle.datatype.proofs.LawsTook.{item_took, array_more}

-- an integer at a place of a part has a fault, and everything before it fits
abbrev Found : Items → List ℕ → ℕ → Fault → Type 0
Found t part from f =
    (letter : ℕ) × (inner : List ℕ) × (place : ℕ) × Reached (value letter value.Packed) inner place t part from × (packed_at inner place ≡ Err f)

-- ---- a cause, and the integer that it comes from

-- of two readings in a row the first that does not fit
first_of : {P : Type 0} (m : Reading) (go : ℕ → Reading) (w : Option Fault) → and_then m go ≡ misfit w → (m ≡ misfit w → P)
    → ((p : ℕ) (ls : List Leaf) → m ≡ upto p ls → go p ≡ misfit w → P) → P
unfolding and_then prefixed
first_of (misfit v) go w e first second = first e
first_of (upto p ls) go w e first second = second p ls refl (later (go p) refl e)
  where
    later : (n : Reading) → go p ≡ n → prefixed ls n ≡ misfit w → go p ≡ misfit w
    later (misfit v) h e = h ∙ e
    later (upto q ms) h e = impossible cc

-- what is left over has no cause
filling_cause : (stop : ℕ) (m : Reading) (f : Fault) → filling stop m ≡ misfit (Some f) → m ≡ misfit (Some f)
unfolding filling
filling_cause stop (misfit v) f e = e
filling_cause stop (upto p ls) f e = by_test (eqb p stop) (λ t. impossible (cc (rw t at e))) (λ t. impossible (cc (rw t at e)))

leaf_cause : (c : ℕ) (s : Result Span Misfit) (w : Option Fault) → leaf_reads c s ≡ misfit w → s ≡ unfit w
unfolding leaf_reads
leaf_cause c (Err m) w e = let same : m.cause ≡ w = cc in ap (λ v. unfit {A = Span} v) same
leaf_cause c (Ok s) w e = impossible cc

-- a value has a cause only if it is a packed integer
abbrev Quiet : Option Fault → Type 0
Quiet None = Unit {0}
Quiet (Some f) = ⊥

abbrev NoCause : Result Span Misfit → Type 0
NoCause (Ok s) = Unit {0}
NoCause (Err m) = Quiet m.cause

fixed_none : (width : ℕ) (part : List ℕ) (from : ℕ) → NoCause (fixed_at width part from)
unfolding fixed_at
fixed_none width part from = chosen NoCause (ltb (length part - from) width) (λ _. tt) (λ _. tt)

counted_none : (part : List ℕ) (from : ℕ) → NoCause (counted_at part from)
unfolding counted_at
counted_none part from =
    chosen NoCause (ltb (length part - from) 2) (λ _. tt)
    (λ _. chosen NoCause (ltb (length part - (from + 2)) (le_at part from 2)) (λ _. tt) (λ _. tt))

text_none : (size : ℕ) (part : List ℕ) (from : ℕ) → NoCause (text_at size part from)
unfolding text_at
text_none size part from =
    chosen NoCause (ltb (from + size) (length part))
    (λ _. chosen NoCause (is_utf8 (take size (drop from part))) (λ _. tt) (λ _. tt)) (λ _. tt)

bool_none : (part : List ℕ) (from : ℕ) → NoCause (bool_at part from)
unfolding bool_at
bool_none part from = chosen NoCause (leb (get_or part from 0) 1) (λ _. fixed_none 1 part from) (λ _. tt)

number_cause : (from : ℕ) (q : Result Packed Fault) (f : Fault) → number_span from q ≡ unfit (Some f) → q ≡ Err f
unfolding number_span
number_cause from (Err g) f e = let same : Some g ≡ Some f = one_cause (Some g) (Some f) e in cc
number_cause from (Ok p) f e = impossible cc

-- a t whose length fits, and whose contents do not
contents_cause : (s : Result Span Misfit) (go : ℕ → ℕ → Reading) (f : Fault) → NoCause s → contents s go ≡ misfit (Some f)
    → (start : ℕ) × (size : ℕ) × (next : ℕ) × (s ≡ stands start size next) × (go start next ≡ misfit (Some f))
unfolding contents
contents_cause (Err m) go f quiet e = let cause : m.cause ≡ Some f = cc in absurd (rw cause at quiet)
contents_cause (Ok s) go f quiet e = (s.start, s.size, s.next, refl, filling_cause s.next (go s.start s.next) f e)

-- the first element that does not fit
element_found : (t : Items) (part : List ℕ) (n from : ℕ) (f : Fault) → elements n (λ p. part_reads t part p) from (length part) ≡ misfit (Some f)
    → (q : ℕ) × Fit t part from q × (q < length part) × (part_reads t part q ≡ misfit (Some f))
unfolding elements
element_found t part zero from f e = impossible cc
element_found t part (suc n) from f e =
    by_test (ltb from (length part))
    (λ h. let here = ltb-true from (length part) h in
    first_of (part_reads t part from) (λ p. elements n (λ q. part_reads t part q) p (length part)) (Some f) (rw h at e)
    (λ this. (from, fit_none, here, this))
    (λ p ls this later. let w = element_found t part n p f later in (w.0, fit_more here this w.1, w.2, w.3)))
    (λ h. impossible (cc (rw h at e)))

mutual
  unfolding item_reads span_of

  item_found : (i : Item) (part : List ℕ) (from : ℕ) (f : Fault) → item_reads i part from ≡ misfit (Some f) → (t : Items) → Found (more i t) part from f
  item_found (value c value.Bool) part from f e t = absurd (rw (leaf_cause c _ _ e) at (bool_none part from))
  item_found (value c (value.Fixed width)) part from f e t = absurd (rw (leaf_cause c _ _ e) at (fixed_none width part from))
  item_found (value c value.Packed) part from f e t = (c, part, from, here, number_cause from (packed_at part from) f (leaf_cause c _ _ e))
  item_found (value c value.Text) part from f e t = absurd (rw (leaf_cause c _ _ e) at (text_none (before 0 (drop from part)) part from))
  item_found (value c value.Counted) part from f e t = absurd (rw (leaf_cause c _ _ e) at (counted_none part from))
  item_found rest part from f e t = impossible (cc (leaf_cause 68 (Ok (rest_of part from)) (Some f) e))
  item_found (struct u) part from f e t =
      let w = contents_cause (counted_at part from) (λ start stop. part_reads u (take stop part) start) f (counted_none part from) e in
      let v = part_found u (take w.2 part) w.0 f w.4 in
      (v.0, v.1, v.2, in_struct w.3 v.3, v.4)
  item_found (array u) part from f e t =
      let w = element_found u part (length part - from) from f e in
      let v = part_found u part w.0 f w.3 in
      (v.0, v.1, v.2, in_array w.1 w.2 v.3, v.4)

  part_found : (t : Items) (part : List ℕ) (from : ℕ) (f : Fault) → part_reads t part from ≡ misfit (Some f) → Found t part from f
  part_found end part from f e = impossible cc
  part_found (more i t) part from f e =
      first_of (item_reads i part from) (λ p. part_reads t part p) (Some f) e (λ this. item_found i part from f this t)
      (λ p ls this later. let w = part_found t part p f later in (w.0, w.1, w.2, behind this w.3, w.4))

-- ---- an integer's fault is the cause

leaf_told : (c : ℕ) (part : List ℕ) (from : ℕ) (f : Fault) → packed_at part from ≡ Err f
    → item_reads (value c value.Packed) part from ≡ misfit (Some f)
unfolding item_reads leaf_reads span_of number_span
leaf_told c part from f e = rw e

struct_told : (u : Items) (part : List ℕ) (from start size next : ℕ) (w : Option Fault) → counted_at part from ≡ stands start size next
    → part_reads u (take next part) start ≡ misfit w → item_reads (struct u) part from ≡ misfit w
unfolding item_reads contents filling
struct_told u part from start size next w counted e = rw (counted, e)

-- elements that fit are passed over
passed : (u : Items) (left : ℕ) (part : List ℕ) (from q : ℕ) (w : Option Fault) → PartRules u left true → HasItem u → Fit u part from q → q < length part
    → part_reads u part q ≡ misfit w → item_reads (array u) part from ≡ misfit w
unfolding and_then prefixed
passed u left part from q w rules some fit_none h e = rw (array_more u left part from rules some h, e)
passed u left part from q w rules some (fit_more {p = p} there f fit) h e =
    rw (array_more u left part from rules some there, f, passed u left part p q w rules some fit h e)

reached_told : (c : ℕ) (inner : List ℕ) (place : ℕ) (t : Items) (left : ℕ) (a : Bool) (part : List ℕ) (from : ℕ) (f : Fault) → PartRules t left a
    → packed_at inner place ≡ Err f → Reached (value c value.Packed) inner place t part from → part_reads t part from ≡ misfit (Some f)
unfolding PartRules ItemRules part_reads and_then prefixed
reached_told c inner place t left a part from f k e here = rw (leaf_told c inner place f e)
reached_told c inner place t left a part from f k e (behind {t = u} {p = p} this r) = rw (this, reached_told c inner place u left a part p f k.2 e r)
reached_told c inner place t left a part from f k e (in_struct {u = u} {start = start} {next = next} counted r) =
    rw (struct_told u part from _ _ _ (Some f) counted (reached_told c inner place u (left - 1) false (take next part) start f k.0.2 e r))
reached_told c inner place t left a part from f k e (in_array {u = u} {q = q} fit h r) =
    rw (passed u (left - 1) part from q (Some f) k.0.3 k.0.2 fit h (reached_told c inner place u (left - 1) true part q f k.0.3 e r))

-- ---- where an item that is reached stands

record Stands (x : Item) (inner : List ℕ) (place : ℕ) (part : List ℕ) : Type 0 where
  stop : ℕ
  within : stop ≤ length part
  inside : place ≤ stop
  is : inner ≡ take stop part
  left : ℕ
  of_array : Bool
  rules : ItemRules x left of_array

reached_stands : (x : Item) (inner : List ℕ) (place : ℕ) (t : Items) (left : ℕ) (a : Bool) (part : List ℕ) (from : ℕ) → PartRules t left a
    → from ≤ length part → Reached x inner place t part from → Stands x inner place part
unfolding PartRules ItemRules
reached_stands x inner place t left a part from k room here =
    record { stop = length part; within = omega arith; inside = room; is = sym (take-length part); left = left; of_array = a; rules = k.0 }
reached_stands x inner place t left a part from k room (behind {i = i} {t = u} {p = p} {ls = ls} this r) =
    reached_stands x inner place u left a part p k.2 (item_took i left a part from p ls k.0 room this).within r
reached_stands x inner place t left a part from k room (in_struct {u = u} {start = start} {size = size} {next = next} counted r) =
    let c = counted_fits part from start size next room counted in
    let long : length (take next part) ≡ next = length-take-le next part c.2 in
    let s = reached_stands x inner place u (left - 1) false (take next part) start k.0.2 (omega arith) r in
    let low : s.stop ≤ next = omega (arith, s.within) in
    record {
      stop = s.stop;
      within = omega arith;
      inside = s.inside;
      is = s.is ∙ take-take s.stop next part low;
      left = s.left;
      of_array = s.of_array;
      rules = s.rules;
    }
reached_stands x inner place t left a part from k room (in_array {u = u} {q = q} fit h r) =
    reached_stands x inner place u (left - 1) true part q k.0.3 (omega arith) r

-- ---- the promise

-- a list that is too short has no cause
listed_cause : (room : ℕ) (m : Reading) (n : ℕ) (f : Fault) → listed room m ≡ refused n (Some f) → (n ≡ 16) × (m ≡ misfit (Some f))
unfolding listed
listed_cause room (misfit w) n f e = (cc, cc)
listed_cause room (upto p ls) n f e =
    by_test (ltb room (3 * length ls)) (λ t. impossible (cc (rw t at e))) (λ t. impossible (cc (rw t at e)))

tree_fault : (t : Items) (payload : List ℕ) (f : Fault) → PartRules t max_open false → payload_reads t payload ≡ misfit (Some f) → IntegerFault t payload f
unfolding ItemRules
tree_fault t payload f rules e =
    let w = part_found t payload 0 f (filling_cause (length payload) (part_reads t payload 0) f e) in
    let s = reached_stands (value w.0 value.Packed) w.1 w.2 t max_open false payload 0 rules (omega arith) w.3 in
    let i : w.0 ≡ 105 = letter_of w.0 (kind.Value value.Packed) s.rules in
    record {
      stop = s.stop;
      place = w.2;
      within = s.within;
      inside = s.inside;
      reached = rw (i, s.is) at w.3;
      fault = rw s.is at w.4;
    }

result_fault : (types payload : List ℕ) (room n : ℕ) (f : Fault) → result (type_of types) payload room ≡ refused n (Some f)
    → (n ≡ 16) × (length payload ≤ 1300) × ((t : Items) × TypeString types t × IntegerFault t payload f)
unfolding result
result_fault types payload room n f e = go (type_of types) (sound types) e
  where
    go : (p : Parsed) → ((t : Items) (s : List ℕ) → p ≡ parsed t s → TypeString types t) → result p payload room ≡ refused n (Some f)
        → (n ≡ 16) × (length payload ≤ 1300) × ((t : Items) × TypeString types t × IntegerFault t payload f)
    go malformed typed e = impossible cc
    go (parsed t s) typed e =
        by_test (ltb 1300 (length payload)) (λ long. impossible (cc (rw long at e)))
        (λ short. let w = listed_cause room (payload_reads t payload) n f (rw short at e) in
        (w.0, ltb-false 1300 (length payload) short, (t, typed t s refl, tree_fault t payload f (typed t s refl).rules w.1)))

report_cause : (r : Outcome) (f : Fault) → (report_of r).cause ≡ Some f → (n : ℕ) × (r ≡ refused n (Some f)) × ((report_of r).number ≡ n)
unfolding report_of
report_cause (refused n w) f e = (n, ap (refused n) e, refl)
report_cause (leaves ls) f e = impossible cc

pub integer_fault : (types payload list : List ℕ) (f : Fault) → (report_of (answer_to types payload list)).cause ≡ Some f
    → ((report_of (answer_to types payload list)).number ≡ 16) × (length payload ≤ 1300) × ((t : Items) × TypeString types t × IntegerFault t payload f)
integer_fault types payload list f e =
    let w = report_cause (answer_to types payload list) f e in
    let v = result_fault types payload (length list) w.0 f w.1 in
    (w.2 ∙ v.0, v.1, v.2)

pub integer_told : (types payload list : List ℕ) (t : Items) (f : Fault) → TypeString types t → length payload ≤ 1300 → IntegerFault t payload f
    → report_of (answer_to types payload list) ≡ record { number = 16; count = 0; cause = Some f }
unfolding filling listed report_of
integer_told types payload list t f w short i =
    rw (by_tree types payload (length list) t w, le-ltb 1300 (length payload) short)
    (rw (reached_told 105 (take i.stop payload) i.place t max_open false payload 0 f w.rules i.fault i.reached))

-- and what is reported as the cause is the item that the answer holds
pub misfit_reported : (w : Option Fault) → reported (Err (refusal.Misfit w)) ≡ record { number = 16; count = 0; cause = w }
misfit_reported w = refl
