-- PROMISE: a line's event is told by its text, whatever its length, and of a body longer than the lent space by the length of that space:
-- octet by octet it comes to what the text says at once, though only its first 26 octets are kept, and the octets of a body stand in the
-- lent space as if all behind `body ` had been read at once.
use mathlib.Core.Bool.{Bool, false, cond, ◌&&◌, and-false}
use mathlib.Core.Path.{◌≡◌, refl, sym, ap, subst, ◌∙◌}
use mathlib.Core.List.{List, [], ◌∷◌, ◌++◌, append-nil, foldl, foldl-append}
use Prim.Native.Nat.{ℕ, zero, suc, ◌+◌, ◌<◌, min}
use native.Mathlib.Omega.{arith}
use native.Mathlib.Numerals.{add-one}
use borrow.Author.Tests.{ltb-true, ltb-false}
use lib.Dec.{eqb, ltb}
use lib.ListN.{length, get_or, take, drop, length-append, length-set, drop_of_length-le}
use lib.Seq.{take_all, take-append-le, drop-append-le, take-suc-set, get_or-take, append_snoc}
use Rattle.std.specs.Prelude.{Option, Some}
use Rattle.octets.specs.Scanning.{all_from, all_below}
use Rattle.octets.proofs.LawsTests.{by_test, chosen}
use Rattle.lines.specs.declared.reader.HexLine.{HexLine}
use Rattle.lines.specs.Reader.{keeping, fresh as fresh_hex, step, reading, answer_of}
use Rattle.transaction_script.specs.declared.event.Event.{Event}
use Rattle.transaction_script.specs.declared.event.Event.TheVariants.{Nothing}
use Rattle.transaction_script.specs.Event.{starts_with, event_of}
use Rattle.transaction_script.specs.Line.{max_text, body_word, body_at, Coming, coming, fresh, hex_after, text_after, len_after, blank_after, taking, body_event, event_at, is_blank, event_in, body_in}
use Rattle.transaction_script.proofs.LawsEvent.{starts_take, event_take}

-- ---- spaces

shifted : (test : ℕ → Bool) (i n : ℕ) → all_from test (suc i) n ≡ all_from (λ k. test (suc k)) i n
unfolding all_from
shifted test i zero = refl
shifted test i (suc n) = ap (λ t. test (suc i) && t) (shifted test (suc i) n)

blank_first : (x : ℕ) (xs : List ℕ) → is_blank (x ∷ xs) ≡ eqb x 0x20 && is_blank xs
unfolding is_blank all_below all_from
blank_first x xs = ap (λ t. eqb x 0x20 && t) (shifted (λ k. eqb (get_or (x ∷ xs) k 0) 0x20) 0 (length xs))

-- with an octet more
blank_next : (text : List ℕ) (c : ℕ) → is_blank (text ++ (c ∷ [])) ≡ cond (eqb c 0x20) (is_blank text) false
unfolding is_blank all_below all_from
blank_next [] c = by_test (eqb c 0x20) (λ t. rw t) (λ t. rw t)
blank_next (x ∷ xs) c =
    blank_first x (xs ++ (c ∷ [])) ∙ ap (λ t. eqb x 0x20 && t) (blank_next xs c)
    ∙ by_test (eqb c 0x20) (λ t. rw t (sym (blank_first x xs))) (λ t. rw t (and-false (eqb x 0x20)))

-- ---- what is kept of a text

record Kept (text space : List ℕ) (k : Coming) : Type 0 where
  size : length k.line.text ≡ max_text
  len : k.line.len ≡ min max_text (length text)
  front : take k.line.len k.line.text ≡ take max_text text
  blank : k.line.blank ≡ is_blank text
  hex : keeping k.line.hex k.space ≡ reading (keeping fresh_hex space) (drop body_at text)

kept_none : (space : List ℕ) → Kept [] space (coming fresh space)
unfolding is_blank all_below all_from
kept_none space = record { size = refl; len = refl; front = refl; blank = refl; hex = refl }

module _ (text space : List ℕ) (k : Coming) (c : ℕ) (h : Kept text space k) where
  abbrev more : List ℕ
  more = text ++ (c ∷ [])

  abbrev longer : length more ≡ length text + 1
  longer = length-append text (c ∷ [])

  size_next : length (text_after k.line c) ≡ max_text
  unfolding text_after
  size_next =
      chosen (λ (xs : List ℕ). length xs ≡ max_text) (ltb k.line.len max_text)
      (λ t. length-set k.line.text k.line.len c ∙ h.size) (λ t. h.size)

  len_next : len_after k.line ≡ min max_text (length more)
  unfolding len_after
  len_next =
      chosen (λ (n : ℕ). n ≡ min max_text (length more)) (ltb k.line.len max_text)
      (λ t. omega (arith, longer, h.len, ltb-true k.line.len max_text t))
      (λ t. omega (arith, longer, h.len, ltb-false k.line.len max_text t))

  front_next : take (len_after k.line) (text_after k.line c) ≡ take max_text more
  unfolding len_after text_after
  front_next =
      let len = k.line.len in
      by_test (ltb len max_text)
      (λ t.
      let room = ltb-true len max_text t in
      let all : take max_text text ≡ text = take_all max_text text (omega (arith, h.len)) in
      rw (t, add-one)
      (take-suc-set k.line.text len c (omega (arith, h.size)) ∙ ap (λ xs. xs ++ (c ∷ [])) (h.front ∙ all)
      ∙ sym (take_all max_text more (omega (arith, longer, h.len)))))
      (λ t.
      let full = ltb-false len max_text t in
      rw t (h.front ∙ sym (take-append-le max_text text (c ∷ []) (omega (arith, h.len)))))

  hex_next : hex_after k c ≡ reading (keeping fresh_hex space) (drop body_at more)
  unfolding hex_after
  hex_next =
      let len = k.line.len in
      let start = keeping fresh_hex space in
      by_test (ltb len body_at)
      (λ t.
      let early = ltb-true len body_at t in
      rw t
      (h.hex ∙ ap (reading start) (drop_of_length-le text {i = body_at} (omega (arith, h.len)))
      ∙ sym (ap (reading start) (drop_of_length-le more {i = body_at} (omega (arith, longer, h.len))))))
      (λ t.
      let behind = ltb-false len body_at t in
      rw t
      (ap (λ g. reading g (c ∷ [])) h.hex ∙ sym (foldl-append step start (drop body_at text) (c ∷ []))
      ∙ sym (ap (reading start) (drop-append-le body_at text (c ∷ []) (omega (arith, h.len))))))

  kept_next : Kept more space (taking k c)
  unfolding taking blank_after
  kept_next =
      record {
        size = size_next;
        len = len_next;
        front = front_next;
        blank = ap (λ b. cond (eqb c 0x20) b false) h.blank ∙ sym (blank_next text c);
        hex = hex_next;
      }

kept_all : (rest text space : List ℕ) (k : Coming) → Kept text space k → Kept (text ++ rest) space (foldl taking k rest)
kept_all [] text space k h = subst (λ xs. Kept xs space k) (sym (append-nil text)) h
kept_all (c ∷ rest) text space k h =
    subst (λ xs. Kept xs space (foldl taking (taking k c) rest)) (append_snoc text c rest)
    (kept_all rest (text ++ (c ∷ [])) space (taking k c) (kept_next text space k c h))

-- ---- the event

-- by what it goes
abbrev told : Bool → ℕ → Bool → Option HexLine → Option Event → Option Event
told blank first body hex other =
    cond blank (Some Nothing) (cond (eqb first 0x23) (Some Nothing) (cond body (body_event hex) other))

module _ (x : ℕ) (xs space : List ℕ) (k : Coming) (h : Kept (x ∷ xs) space k) where
  first : get_or k.line.text 0 0 ≡ x
  first =
      let some : 0 < k.line.len = omega (arith, h.len) in
      sym (get_or-take k.line.len k.line.text 0 0 some) ∙ ap (λ ys. get_or ys 0 0) h.front

  kept_event : event_at k.line ≡ event_in (x ∷ xs) space
  unfolding event_at event_in
  kept_event =
      let begins = ap (λ ys. starts_with ys body_word) h.front ∙ starts_take max_text (x ∷ xs) body_word (omega arith) in
      let other = ap event_of h.front ∙ event_take (x ∷ xs) in
      λ i. told (h.blank i) (first i) (begins i) (answer_of (h.hex i).reader) (other i)

pub event_told : (text space : List ℕ)
    → let k = foldl taking (coming fresh space) text in (event_at k.line ≡ event_in text space) × (k.space ≡ body_in text space)
unfolding event_at event_in is_blank all_below all_from body_in
event_told [] space = (refl, refl)
event_told (x ∷ xs) space =
    let h = kept_all (x ∷ xs) [] space (coming fresh space) (kept_none space) in
    (kept_event x xs space _ h, ap (λ g. g.out) h.hex)
