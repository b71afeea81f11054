-- PROMISE: what is well-formed by section 4 of RFC 3629 is what section 3 encodes: the octets of scalar values, and of one list of them only.
-- The number of a character is read back from its octets, and the examples of section 7 are encoded as it says.
use mathlib.Core.Bool.{true}
use mathlib.Core.List.{List, [], ◌∷◌, ◌++◌, foldl}
use mathlib.Core.Path.{◌≡◌, refl, sym, ap, ◌∙◌}
use Prim.Native.Nat.{ℕ, zero, suc}
use native.Mathlib.Omega.{arith}
use lib.ListN.{length, length-append}
use Rattle.std.proofs.lemmas.List.{append_cancel_left}
use Rattle.octets.specs.Ranges.{is_between}
use Rattle.octets.proofs.LawsTests.{by_test}
use Rattle.octets.proofs.LawsRanges.{inside_told}
use Rattle.utf8.specs.declared.Stage.{Stage}
use Rattle.utf8.specs.declared.Stage.TheVariants.{Between, Expecting, Wrong}
use Rattle.utf8.specs.Utf8.{tails, leads, lead_in, step, ends, is_utf8}
use Rattle.utf8.specs.Encoding.{is_scalar, octets_of, character_at, Scalars, encoded, Decoded}
use Rattle.utf8.proofs.LawsCompletion.{Completes, none_completes, next_completes, completed, between_none, never_ends}
use Rattle.utf8.proofs.LawsEncoding.{Makes, by_size, some_octet, begins, character}

-- ---- the octets of scalar values are well-formed

one_more : (c : ℕ) (xs : List ℕ) → is_scalar c ≡ true → foldl step Between (octets_of c ++ xs) ≡ foldl step Between xs
unfolding step
one_more c xs h =
    let b = begins c h in
    ap (λ ys. foldl step Between (ys ++ xs)) b.is ∙ completed b.rest xs (lead_in leads b.octet) b.completes

encoded_ends : (cs : List ℕ) → Scalars cs → foldl step Between (encoded cs) ≡ Between
encoded_ends [] h = refl
encoded_ends (c ∷ cs) h = one_more c (encoded cs) (h zero) ∙ encoded_ends cs (λ k. h (suc k))

pub encodes : (cs : List ℕ) → Scalars cs → is_utf8 (encoded cs) ≡ true
unfolding is_utf8 ends
encodes cs h = ap ends (encoded_ends cs h)

-- ---- whatever is well-formed is the octets of scalar values

no_scalars : Scalars []
unfolding is_scalar is_between
no_scalars k = refl

scalar_front : (c : ℕ) (cs : List ℕ) → is_scalar c ≡ true → Scalars cs → Scalars (c ∷ cs)
scalar_front c cs h k zero = h
scalar_front c cs h k (suc n) = k n

-- the same from any stage: what completes its character, and then whole ones
record Rest (s : Stage) (xs : List ℕ) : Type 0 where
  front : List ℕ
  characters : List ℕ
  completes : Completes front s
  scalars : Scalars characters
  octets : xs ≡ front ++ encoded characters

rest_first : (x : ℕ) (xs : List ℕ) → Rest (lead_in leads x) xs → Rest Between (x ∷ xs)
unfolding Makes ends
rest_first x xs r =
    let c = character x r.front r.completes in
    record {
      front = [];
      characters = c.number ∷ r.characters;
      completes = none_completes Between refl;
      scalars = scalar_front c.number r.characters c.scalar r.scalars;
      octets = ap (λ ys. x ∷ ys) r.octets ∙ ap (λ ys. ys ++ encoded r.characters) (sym c.octets);
    }

rest_inside : (low high n x : ℕ) (xs : List ℕ) → is_between low high x ≡ true → Rest (tails n) xs → Rest (Expecting low high n) (x ∷ xs)
rest_inside low high n x xs t r =
    record {
      front = x ∷ r.front;
      characters = r.characters;
      completes = next_completes low high n x r.front (inside_told low high x t) r.completes;
      scalars = r.scalars;
      octets = ap (λ ys. x ∷ ys) r.octets;
    }

rest : (xs : List ℕ) (s : Stage) → ends (foldl step s xs) ≡ true → Rest s xs
unfolding step
rest [] s e = record { front = []; characters = []; completes = none_completes s e; scalars = no_scalars; octets = refl }
rest (x ∷ xs) Between e = rest_first x xs (rest xs (lead_in leads x) e)
rest (x ∷ xs) (Expecting low high n) e =
    by_test (is_between low high x)
    (λ t. rest_inside low high n x xs t (rest xs (tails n) (rw t at e)))
    (λ t. never_ends xs (rw t at e))
rest (x ∷ xs) Wrong e = never_ends xs e

pub decodes : (xs : List ℕ) → is_utf8 xs ≡ true → Decoded xs
unfolding is_utf8
decodes xs e =
    let r = rest xs Between e in
    let o = r.octets ∙ ap (λ ys. ys ++ encoded r.characters) (between_none r.front r.completes) in
    record { characters = r.characters; scalars = r.scalars; octets = o }

-- ---- the number of a character is read back, whatever follows it

pub reads_back : (c : ℕ) (xs : List ℕ) → character_at (octets_of c ++ xs) ≡ c
unfolding character_at
reads_back c xs =
    by_size (λ ys. character_at (ys ++ xs) ≡ c) c (λ h. grind arith) (λ h k. grind arith) (λ h k. grind arith) (λ h. grind arith)

-- ---- so they are those of one list of numbers only

nonempty : {P : Type 0} (c : ℕ) (xs : List ℕ) → [] ≡ octets_of c ++ xs → P
nonempty c xs e = absurd (omega (arith, ap length e, length-append (octets_of c) xs, some_octet c))

same_rest : (c d : ℕ) → c ≡ d → (xs ys : List ℕ) → octets_of c ++ xs ≡ octets_of d ++ ys → xs ≡ ys
same_rest c d n xs ys e = append_cancel_left (octets_of c) xs ys (e ∙ ap (λ m. octets_of m ++ ys) (sym n))

pub one_list : (cs ds : List ℕ) → encoded cs ≡ encoded ds → cs ≡ ds
one_list [] [] e = refl
one_list [] (d ∷ ds) e = nonempty d (encoded ds) e
one_list (c ∷ cs) [] e = nonempty c (encoded cs) (sym e)
one_list (c ∷ cs) (d ∷ ds) e =
    let n : c ≡ d = sym (reads_back c (encoded cs)) ∙ ap character_at e ∙ reads_back d (encoded ds) in
    let r = one_list cs ds (same_rest c d n (encoded cs) (encoded ds) e) in
    cc

-- ---- the four examples of section 7; the last begins with a byte order mark

pub worked_examples : (encoded (0x0041 ∷ 0x2262 ∷ 0x0391 ∷ 0x002E ∷ []) ≡ 0x41 ∷ 0xE2 ∷ 0x89 ∷ 0xA2 ∷ 0xCE ∷ 0x91 ∷ 0x2E ∷ [])
    × (encoded (0xD55C ∷ 0xAD6D ∷ 0xC5B4 ∷ []) ≡ 0xED ∷ 0x95 ∷ 0x9C ∷ 0xEA ∷ 0xB5 ∷ 0xAD ∷ 0xEC ∷ 0x96 ∷ 0xB4 ∷ [])
    × (encoded (0x65E5 ∷ 0x672C ∷ 0x8A9E ∷ []) ≡ 0xE6 ∷ 0x97 ∷ 0xA5 ∷ 0xE6 ∷ 0x9C ∷ 0xAC ∷ 0xE8 ∷ 0xAA ∷ 0x9E ∷ [])
    × (encoded (0xFEFF ∷ 0x233B4 ∷ []) ≡ 0xEF ∷ 0xBB ∷ 0xBF ∷ 0xF0 ∷ 0xA3 ∷ 0x8E ∷ 0xB4 ∷ [])
unfolding octets_of
worked_examples = (refl, refl, refl, refl)
