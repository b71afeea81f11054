-- What the public call answers, by what its checks and readings gave.
use mathlib.Core.Path.{◌≡◌, refl, sym, ap, ◌∙◌}
use mathlib.Core.Bool.{true, false}
use mathlib.Core.List.{List, [], ◌++◌, append-nil}
use Prim.Native.Nat.{ℕ, ◌+◌, ◌*◌, ◌≤◌, ◌<◌}
use native.Mathlib.Omega.{arith}
use native.Mathlib.Nat.{zero-add}
use borrow.Author.Tests.{lt-ltb, le-ltb}
use lib.ListN.{length, drop}
use lib.Seq.{sets, sets-eq}
use Rattle.octets.proofs.LawsTests.{impossible}
use Rattle.typestring.specs.Grammar.{Items, max_open, max_octets}
use Rattle.typestring.specs.Parse.{Parsed, malformed, parsed, type_of, is_type}
use Rattle.typestring.specs.Calls.{PartFrom}
use Rattle.typestring.proofs.LawsGrammar.{end_shut}
use Rattle.typestring.proofs.Grammatical.{accepted, complete}
use Rattle.datatype.specs.declared.list.Read.{Read}
use Rattle.datatype.specs.declared.leaf.Misfit.{Misfit}
use Rattle.packed.specs.declared.Fault.{Fault}
use Rattle.std.specs.Prelude.{Option, None, Result, Ok, Err}
use Rattle.datatype.specs.declared.reading.Refusal.{Refusal}
use Rattle.datatype.specs.declared.reading.Refusal.TheVariants as refusal
use Rattle.datatype.specs.Leaf.{unfit}
use Rattle.datatype.specs.Reading.{Leaf, numbers, upto, part_reads}
use Rattle.datatype.specs.Answer.{refused, listed, payload_reads, result, answer_to, reported, report_of, filled, max_payload}
use Rattle.datatype.specs.Calls.{Room, Did, reached, ReadsPart}
use Rattle.datatype.proofs.LawsTook.{part_took}
use Rattle.datatype.proofs.LawsReading.{filling_fit}
use Rattle.datatype.proofs.LawsDid.{did_misfit, did_upto, filled_to, did_filling, length_numbers}

-- the two equations of the public call
abbrev pub Answered : List ℕ → List ℕ → List ℕ → List ℕ → Result ℕ Refusal → Type 0
Answered types payload list list' a = (reported a ≡ report_of (answer_to types payload list)) × (list' ≡ filled list (answer_to types payload list))

pub answers_malformed : (types payload list : List ℕ) → is_type (type_of types) ≡ false → Answered types payload list list (Err refusal.Malformed)
unfolding result report_of filled
answers_malformed types payload list e = go (type_of types) e
  where
    go : (p : Parsed) → is_type p ≡ false
        → (reported (Err refusal.Malformed) ≡ report_of (result p payload (length list))) × (list ≡ filled list (result p payload (length list)))
    go malformed e = (refl, refl)
    go (parsed t s) e = impossible cc

-- a refusal leaves the list as it was
refuses : (types payload list list' : List ℕ) (a : Result ℕ Refusal) (n : ℕ) (w : Option Fault) → result (type_of types) payload (length list) ≡ refused n w → list' ≡ list
    → reported a ≡ record { number = n; count = 0; cause = w } → Answered types payload list list' a
unfolding report_of filled
refuses types payload list list' a n w e same number = rw e (number, same)

module _ (types payload list : List ℕ) (typed : is_type (type_of types) ≡ true) where
  -- the tree of the string
  tree : (t : Items) × (type_of types ≡ parsed t []) × PartFrom types max_open t × (length types ≤ max_octets)
  tree =
      let w = accepted types typed in (
        w.0,
        complete types w.0 w.1,
        record { behind = []; printed = sym (append-nil _ ∙ w.1.printed); rules = w.1.rules; ends = end_shut },
        w.1.short,
      )

  pub answers_long : max_payload < length payload → Answered types payload list list (Err (refusal.Misfit None))
  unfolding result
  answers_long h = refuses types payload list list (Err (refusal.Misfit None)) 16 None (rw (tree.1, lt-ltb _ _ h)) refl refl

  module _ (short : length payload ≤ max_payload) where
    pub readable : ((t : Items) × PartFrom types max_open t) × Room types payload 0 0 0
    readable =
        ((tree.0, tree.2), record { few = tree.3; placed = omega arith; short = short; within = omega arith; counted = omega arith })

    result_is : result (type_of types) payload (length list) ≡ listed (length list) (payload_reads tree.0 payload)
    unfolding result
    result_is = rw (tree.1, le-ltb _ _ short)

    -- a first reading, of whatever list
    module _ (ys ys' : List ℕ) (r : Result Read Misfit) (first : ReadsPart types max_open payload 0 ys ys' 0 r) where
      did : Did (payload_reads tree.0 payload) ys ys' 0 (filled_to (length payload) r)
      did = did_filling (length payload) (part_reads tree.0 payload 0) ys ys' 0 r (first tree.0 tree.2)

      pub answers_misfit : (w : Option Fault) → filled_to (length payload) r ≡ unfit w → Answered types payload list list (Err (refusal.Misfit w))
      unfolding listed
      answers_misfit w e =
          refuses types payload list list (Err (refusal.Misfit w)) 16 w
          (result_is ∙ rw (did_misfit (payload_reads tree.0 payload) ys ys' 0 w (rw e at did))) refl refl

      module _ (p n : ℕ) (e : filled_to (length payload) r ≡ reached p n) where
        found : (ls : List Leaf) × (payload_reads tree.0 payload ≡ upto p ls) × (n ≡ 0 + length ls) × (ys' ≡ sets ys (3 * 0) (numbers ls))
        found = did_upto (payload_reads tree.0 payload) ys ys' 0 p n (rw e at did)

        -- so that three numbers a leaf can be counted
        pub few_leaves : n ≤ max_payload + 1
        few_leaves =
            let f = filling_fit (length payload) (part_reads tree.0 payload 0) p found.0 found.1 in
            let g = part_took tree.0 max_open false payload 0 p found.0 tree.2.rules (omega arith) f.0 in
            omega (arith, g.within, g.few, found.2)

        pub answers_short : length list < 3 * n → Answered types payload list list (Err refusal.ShortList)
        unfolding listed
        answers_short h =
            let room : length list < 3 * length found.0 = omega (arith, found.2) in
            refuses types payload list list (Err refusal.ShortList) 17 None (result_is ∙ rw (found.1, lt-ltb _ _ room)) refl refl

        -- a second one, of the list itself
        pub answers_leaves : 3 * n ≤ length list → (r₂ : Result Read Misfit) (list₂ : List ℕ) → ReadsPart types max_open payload 0 list list₂ 0 r₂
            → Answered types payload list list₂ (Ok n)
        unfolding listed report_of filled
        answers_leaves h r₂ list₂ second =
            let ls = found.0 in
            let f = filling_fit (length payload) (part_reads tree.0 payload 0) p ls found.1 in
            let room : 3 * length ls ≤ length list = omega (arith, found.2) in
            let d : (r₂ ≡ reached p (0 + length ls)) × (list₂ ≡ sets list (3 * 0) (numbers ls)) = rw f.0 at (second tree.0 tree.2) in
            let count : n ≡ length ls = omega (arith, found.2) in
            let fits : 0 + length (numbers ls) ≤ length list = omega (arith, length_numbers ls) in
            let held : list₂ ≡ numbers ls ++ drop (length (numbers ls)) list =
            d.1 ∙ sets-eq (numbers ls) list 0 fits ∙ ap (λ k. numbers ls ++ drop k list) (zero-add (length (numbers ls))) in
            rw (result_is, found.1, le-ltb _ _ room) (ap (λ k. record { number = 0; count = k; cause = None }) count, held)
