-- Laws of the words of a line: a text that is longer than every event but a body is the same event as its front.
use mathlib.Core.Bool.{Bool, true, false, cond, ◌&&◌, and-false}
use mathlib.Core.Path.{◌≡◌, refl, sym, ap, ap₂, ◌∙◌}
use mathlib.Core.List.{List, [], ◌∷◌, foldl}
use Prim.Native.Nat.{ℕ, zero, suc, ◌+◌, ◌-◌, ◌*◌, ◌≤◌, ◌<◌}
use native.Mathlib.Omega.{arith}
use borrow.Author.Tests.{eq-eqb, ne_eqb, eqb-true, lt-ltb, ltb-false, eqb-false, leb-true, leb-false}
use lib.Dec.{eqb, ltb, leb, eqb-zero-suc, eqb-suc-zero, eqb-suc-suc}
use lib.ListN.{length, get_or, take, drop, length-take, length-drop}
use lib.Seq.{take_all}
use Rattle.std.specs.Prelude.{Option, Some, None, ◌≢◌}
use Rattle.std.specs.Option.{option_or}
use Rattle.std.specs.Cmp.Lexicographic.{pointwise}
use Rattle.octets.specs.Comparing.{common_front, is_same}
use Rattle.octets.specs.Ranges.{is_between}
use Rattle.octets.proofs.LawsRanges.{inside_told}
use Rattle.octets.proofs.LawsComparing.{same_is}
use Rattle.octets.proofs.LawsTests.{by_test, chosen}
use Rattle.transaction_script.specs.declared.event.Event.{Event}
use Rattle.transaction_script.specs.declared.event.Event.TheVariants.{Open, Reset, Fresh}
use Rattle.transaction_script.specs.Event.{open_word, reset_word, fresh_word, give_up_words, table_word, steady_word, resetting_word, starts_with, with_digit, digit_more, decimal_in, bits_in, give_up_event, resetting_in, put, table_event, word_event, longer_event, event_of}
use Rattle.transaction_script.specs.Line.{max_text}

-- ---- words

-- in the library's words, of `strip_prefix` and of `starts_with`
pub starts_is : (text word : List ℕ) → starts_with text word ≡ pointwise eqb (take (length word) text) word
unfolding starts_with common_front
starts_is [] [] = refl
starts_is [] (y ∷ ys) = rw eqb-zero-suc
starts_is (x ∷ xs) [] = refl
starts_is (x ∷ xs) (y ∷ ys) = by_test (eqb x y) (λ t. simp (t, eqb-suc-suc) (starts_is xs ys)) (λ t. simp (t, eqb-zero-suc))

pub starts_front : (text word : List ℕ) → starts_with text word ≡ pointwise eqb word (take (length word) text)
unfolding starts_with common_front
starts_front [] [] = refl
starts_front [] (y ∷ ys) = rw eqb-zero-suc
starts_front (x ∷ xs) [] = refl
starts_front (x ∷ xs) (y ∷ ys) =
    by_test (eqb x y) (λ t. simp (t, eq-eqb y x (sym (eqb-true x y t)), eqb-suc-suc) (starts_front xs ys))
    (λ t. simp (t, ne_eqb y x (λ e. eqb-false x y t (sym e)), eqb-zero-suc))

-- a word, letter by letter, as a match on it goes
abbrev letters : List ℕ → ℕ → List ℕ → Bool
letters text i [] = true
letters text i (y ∷ ys) = cond (eqb (get_or text i 0) y) (letters text (suc i) ys) false

letters_next : (x : ℕ) (xs ys : List ℕ) (i : ℕ) → letters (x ∷ xs) (suc i) ys ≡ letters xs i ys
letters_next x xs [] i = refl
letters_next x xs (y ∷ ys) i = ap (λ t. cond (eqb (get_or xs i 0) y) t false) (letters_next x xs ys (suc i))

same_letters : (text word : List ℕ) → pointwise eqb text word ≡ eqb (length text) (length word) && letters text 0 word
same_letters [] [] = refl
same_letters [] (y ∷ ys) = rw eqb-zero-suc
same_letters (x ∷ xs) [] = rw eqb-suc-zero
same_letters (x ∷ xs) (y ∷ ys) =
    by_test (eqb x y) (λ t. simp (t, eqb-suc-suc, letters_next x xs ys 0) (same_letters xs ys)) (λ t. simp (t, and-false))

same_word : (text word : List ℕ) → is_same text word ≡ eqb (length text) (length word) && letters text 0 word
same_word text word = same_is text word ∙ same_letters text word

other_length : (xs ys : List ℕ) → length xs ≢ length ys → is_same xs ys ≡ false
unfolding is_same
other_length xs ys h = rw (ne_eqb (length xs) (length ys) h)

-- by the length of a word, which of the words it may be
module _ (word : List ℕ) where
  pub resetting_short : length word ≤ 6 → resetting_in word ≡ cond (eqb (length word) 6 && letters word 0 steady_word) (Some false) None
  unfolding resetting_in
  resetting_short h = rw (other_length word resetting_word (λ e. omega arith), same_word word steady_word)

  pub resetting_long : 6 < length word → resetting_in word ≡ cond (eqb (length word) 9 && letters word 0 resetting_word) (Some true) None
  unfolding resetting_in
  resetting_long h = rw (other_length word steady_word (λ e. omega arith), same_word word resetting_word)

module _ (text : List ℕ) where
  pub word_short : length text < 5 → word_event text ≡ cond (eqb (length text) 4 && letters text 0 open_word) (Some Open) None
  unfolding word_event
  word_short h =
      rw (other_length text reset_word (λ e. omega arith), other_length text fresh_word (λ e. omega arith), same_word text open_word)

  pub word_long : 4 < length text → word_event text ≡ cond (eqb (length text) 5 && letters text 0 reset_word) (Some Reset)
      (cond (eqb (length text) 5 && letters text 0 fresh_word) (Some Fresh) None)
  unfolding word_event
  word_long h =
      rw (other_length text open_word (λ e. omega arith), same_word text reset_word, same_word text fresh_word)

common_take : (n : ℕ) (xs ys : List ℕ) → length ys ≤ n → common_front (take n xs) ys ≡ common_front xs ys
unfolding common_front
common_take zero [] ys h = refl
common_take zero (x ∷ xs) [] h = refl
common_take zero (x ∷ xs) (y ∷ ys) h = absurd (omega arith)
common_take (suc n) [] ys h = refl
common_take (suc n) (x ∷ xs) [] h = refl
common_take (suc n) (x ∷ xs) (y ∷ ys) h = ap (λ k. cond (eqb x y) (suc k) 0) (common_take n xs ys (omega arith))

-- what it starts with is told by its front
pub starts_take : (n : ℕ) (text word : List ℕ) → length word ≤ n → starts_with (take n text) word ≡ starts_with text word
unfolding starts_with
starts_take n text word h = ap (λ k. eqb k (length word)) (common_take n text word h)

-- ---- four letters and more are no number

-- what a digit more comes to, where it is a number: between the number's tenfold and 255
more_told : (P : Option ℕ → Type 0) (n c : ℕ) → P None
    → ((m : ℕ) → n * 10 ≤ m → (n ≡ 0 → c ≢ 0x30 → 0 < m) → m ≤ 255 → P (Some m)) → P (with_digit n c)
unfolding with_digit
more_told P n c none some =
    chosen P (is_between 0x30 0x39 c)
    (λ t.
    let i = inside_told 0x30 0x39 c t in
    chosen P (ltb 255 (n * 10 + (c - 0x30))) (λ _. none)
    (λ u. some (n * 10 + (c - 0x30)) (omega arith) (λ z o. omega (arith, i)) (ltb-false 255 (n * 10 + (c - 0x30)) u)))
    (λ _. none)

pub none_stays : (xs : List ℕ) → foldl digit_more None xs ≡ None
none_stays [] = refl
none_stays (x ∷ xs) = none_stays xs

-- a number of three digits gets no fourth one
none_after : (n c : ℕ) (xs : List ℕ) → 25 < n → foldl digit_more (with_digit n c) xs ≡ None
none_after n c xs h =
    more_told (λ r. foldl digit_more r xs ≡ None) n c (none_stays xs) (λ m low _ most. absurd (omega arith))

long_digits : (text : List ℕ) → 3 < length text → get_or text 0 0 ≢ 0x30 → foldl digit_more (Some 0) text ≡ None
long_digits [] l z = absurd (omega arith)
long_digits (a ∷ []) l z = absurd (omega arith)
long_digits (a ∷ b ∷ []) l z = absurd (omega arith)
long_digits (a ∷ b ∷ c ∷ []) l z = absurd (omega arith)
long_digits (a ∷ b ∷ c ∷ d ∷ xs) l z =
    more_told (λ r. foldl digit_more r (b ∷ c ∷ d ∷ xs) ≡ None) 0 a (none_stays (b ∷ c ∷ d ∷ xs))
    (λ one _ above _.
    let p : 0 < one = above refl z in
    more_told (λ r. foldl digit_more r (c ∷ d ∷ xs) ≡ None) one b (none_stays (c ∷ d ∷ xs))
    (λ two low _ _.
    more_told (λ r. foldl digit_more r (d ∷ xs) ≡ None) two c (none_stays (d ∷ xs))
    (λ three low' _ _. none_after three d xs (omega arith))))

long_decimal : (text : List ℕ) → 3 < length text → decimal_in text ≡ None
unfolding decimal_in
long_decimal text l =
    rw (ne_eqb (length text) 0 (λ e. omega arith))
    (by_test (eqb (get_or text 0 0) 0x30) (λ t. rw (t, lt-ltb 1 (length text) (omega arith)))
    (λ t. rw t (long_digits text l (eqb-false (get_or text 0 0) 0x30 t))))

long_give_up : (text : List ℕ) → 3 < length text → give_up_event text ≡ None
unfolding give_up_event
long_give_up text l = rw (long_decimal text l)

-- ---- a table's line has nineteen letters behind its word at most

long_word : (word : List ℕ) → 9 < length word → resetting_in word ≡ None
unfolding resetting_in
long_word word l = rw (other_length word steady_word (λ e. omega arith), other_length word resetting_word (λ e. omega arith))

put_none : (w g : Option ℕ) → put w g None ≡ None
put_none None g = refl
put_none (Some w) None = refl
put_none (Some w) (Some g) = refl

long_table : (text : List ℕ) → 19 < length text → table_event text ≡ None
unfolding table_event
long_table text l =
    let is : Option Event → Type 0 = λ e. e ≡ None in
    chosen is (ltb (length text) 10) (λ t. refl)
    (λ t. chosen is (eqb (get_or text 4 0) 0x20)
    (λ u. chosen is (eqb (get_or text 9 0) 0x20)
    (λ v. rw (long_word (drop 10 text) (omega (arith, length-drop 10 text))) (put_none (bits_in (take 4 text)) (bits_in (take 4 (drop 5 text)))))
    (λ v. refl))
    (λ u. refl))

-- ---- so that what is kept of a line tells its event

module _ (text : List ℕ) (long : max_text < length text) where
  abbrev front : List ℕ
  front = take max_text text

  size : length front ≡ max_text
  size = omega (arith, length-take max_text text)

  same : (word : List ℕ) → length word < max_text → is_same front word ≡ is_same text word
  same word h = other_length front word (λ e. omega (arith, size)) ∙ sym (other_length text word (λ e. omega arith))

  gives : give_up_event (drop 8 front) ≡ give_up_event (drop 8 text)
  gives =
      long_give_up (drop 8 front) (omega (arith, size, length-drop 8 front))
      ∙ sym (long_give_up (drop 8 text) (omega (arith, length-drop 8 text)))

  puts : table_event (drop 6 front) ≡ table_event (drop 6 text)
  puts = long_table (drop 6 front) (omega (arith, size, length-drop 6 front)) ∙ sym (long_table (drop 6 text) (omega (arith, length-drop 6 text)))

  long_word_event : word_event front ≡ word_event text
  unfolding word_event
  long_word_event = rw (same open_word (omega arith), same reset_word (omega arith), same fresh_word (omega arith))

  long_longer_event : longer_event front ≡ longer_event text
  unfolding longer_event
  long_longer_event i =
      cond (starts_take max_text text give_up_words (omega arith) i) (gives i)
      (cond (starts_take max_text text table_word (omega arith) i) (puts i) None)

  long_event : event_of front ≡ event_of text
  unfolding event_of
  long_event = ap₂ option_or long_word_event long_longer_event

pub event_take : (text : List ℕ) → event_of (take max_text text) ≡ event_of text
event_take text =
    by_test (leb (length text) max_text) (λ t. ap event_of (take_all max_text text (leb-true (length text) max_text t)))
    (λ t. long_event text (leb-false (length text) max_text t))
