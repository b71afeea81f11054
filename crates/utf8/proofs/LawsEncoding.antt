-- A character of the grammar is the octets of a scalar value.
use mathlib.Core.Bool.{true}
use mathlib.Core.List.{List, [], ◌∷◌, ◌++◌, append-nil}
use mathlib.Core.Path.{◌≡◌, refl, sym, ap, ◌∙◌}
use Prim.Native.Nat.{ℕ, zero, suc, ◌+◌, ◌-◌, ◌*◌, ◌/◌, ◌≤◌, ◌<◌}
use native.Mathlib.Omega.{arith}
use native.Mathlib.Nat.{zero-add}
use borrow.Author.Tests.{leb-true, leb-false}
use lib.Dec.{leb}
use lib.ListN.{length}
use Rattle.octets.specs.Ranges.{is_between}
use Rattle.octets.proofs.LawsTests.{by_test, chosen}
use Rattle.octets.proofs.LawsRanges.{inside_told}
use Rattle.utf8.specs.declared.Stage.{Stage}
use Rattle.utf8.specs.declared.Stage.TheVariants.{Between, Expecting, Wrong}
use Rattle.utf8.specs.Utf8.{tails, leads, lead_in, ends}
use Rattle.utf8.specs.Encoding.{is_scalar, six_bits, filled, octets_of, with_tails}
use Rattle.utf8.proofs.LawsLeads.{by_lead, by_none}
use Rattle.utf8.proofs.LawsCompletion.{Completes, none_completes, next_completes, expected, between_none, wrong_never}

-- ---- scalar values

module _ (c : ℕ) where
  below_surrogates : c ≤ 0xD7FF → is_scalar c ≡ true
  unfolding is_scalar is_between
  below_surrogates h = grind arith

  above_surrogates : 0xE000 ≤ c → c ≤ 0x10FFFF → is_scalar c ≡ true
  unfolding is_scalar is_between
  above_surrogates h k = grind arith

  low_scalar : c ≤ 0xDFFF → is_scalar c ≡ true → c ≤ 0xD7FF
  unfolding is_scalar is_between
  low_scalar h s = grind arith

  scalar_most : is_scalar c ≡ true → c ≤ 0x10FFFF
  unfolding is_scalar is_between
  scalar_most s = grind arith

-- ---- the octets of a number, by how many they are

-- a scalar value of a row of the table: its octets are a first one with these leading bits, and so many tails
abbrev InRow : ℕ → ℕ → ℕ → Type 0
InRow bits n c = (is_scalar c ≡ true) × (octets_of c ≡ filled bits n c [])

module _ (c : ℕ) where
  in_two : 0x7F < c → c ≤ 0x7FF → InRow 0xC0 1 c
  unfolding octets_of
  in_two h k = (below_surrogates c (omega arith), grind arith)

  in_three : 0x7FF < c → c ≤ 0xFFFF → is_scalar c ≡ true → InRow 0xE0 2 c
  unfolding octets_of
  in_three h k s = (s, grind arith)

  in_four : 0xFFFF < c → c ≤ 0x10FFFF → InRow 0xF0 3 c
  unfolding octets_of
  in_four h k = (above_surrogates c (omega arith) k, grind arith)

-- what holds by size holds of all
pub by_size : (P : List ℕ → Type 0) (c : ℕ) → (c ≤ 0x7F → P (c ∷ [])) → (0x7F < c → c ≤ 0x7FF → P (filled 0xC0 1 c []))
    → (0x7FF < c → c ≤ 0xFFFF → P (filled 0xE0 2 c [])) → (0xFFFF < c → P (filled 0xF0 3 c [])) → P (octets_of c)
unfolding octets_of
by_size P c one two three four =
    chosen P (leb c 0x7F) (λ t. one (leb-true _ _ t))
    (λ t. chosen P (leb c 0x7FF) (λ u. two (leb-false _ _ t) (leb-true _ _ u))
    (λ u. chosen P (leb c 0xFFFF) (λ v. three (leb-false _ _ u) (leb-true _ _ v)) (λ v. four (leb-false _ _ v))))

pub some_octet : (c : ℕ) → 0 < length (octets_of c)
unfolding octets_of
some_octet c = grind arith

-- ---- tails, once over their number

-- the least number with these bits and so many tails
abbrev shifted : ℕ → ℕ → ℕ
shifted zero n = n
shifted (suc k) n = shifted k (n * 64)

shifted_le : (k m n : ℕ) → m ≤ n → shifted k m ≤ shifted k n
shifted_le zero m n h = h
shifted_le (suc k) m n h = shifted_le k (m * 64) (n * 64) (omega arith)

record Tails (bits k n : ℕ) (ys : List ℕ) : Type 0 where
  least : shifted k n ≤ with_tails n ys
  most : with_tails n ys < shifted k (n + 1)
  octets : (m : ℕ) (xs : List ℕ) → filled bits (k + m) (with_tails n ys) xs ≡ filled bits m n (ys ++ xs)

tails_filled : (bits k n : ℕ) (ys : List ℕ) → Completes ys (tails k) → Tails bits k n ys
unfolding Completes tails ends
tails_filled bits zero n [] o = record { least = omega arith; most = omega arith; octets = λ m xs. rw (zero-add m) }
tails_filled bits zero n (y ∷ ys) o = absurd cc
tails_filled bits (suc k) n [] o = absurd cc
tails_filled bits (suc k) n (y ∷ ys) o =
    let h = inside_told 0x80 0xBF y o.0 in
    let n' = n * 64 + (y - 0x80) in
    let t = tails_filled bits k n' ys o.1 in
    let a = shifted_le k (n * 64) n' (omega arith) in
    let b = shifted_le k (n' + 1) ((n + 1) * 64) (omega arith) in
    let e : n' / 64 ≡ n = omega arith in
    let e' : six_bits n' ≡ y = omega arith in
    record {
      least = omega (arith, a, t.least);
      most = omega (arith, b, t.most);
      octets = λ m xs. let s : suc k + m ≡ k + suc m = omega arith in rw s (t.octets (suc m) xs ∙ rw (e, e'));
    }

-- ---- the octets of a character are those of a scalar value

pub record Character (x : ℕ) (ys : List ℕ) : Type 0 where
  pub number : ℕ
  pub scalar : is_scalar number ≡ true
  pub octets : octets_of number ≡ x ∷ ys

-- what completes a stage makes a character with the octet before it
unfoldable pub Makes : ℕ → List ℕ → Stage → Type 0
Makes x ys s = Completes ys s → Character x ys

of_none : (x : ℕ) (ys : List ℕ) → Makes x ys Wrong
unfolding Makes
of_none x ys o = wrong_never ys o

of_one : (x : ℕ) (ys : List ℕ) → x ≤ 0x7F → Makes x ys Between
unfolding Makes octets_of
of_one x ys h o =
    let e = between_none ys o in
    record { number = x; scalar = below_surrogates x (omega arith); octets = grind arith }

-- a first octet with these leading bits: the numbers are those from its least tails to its most
of_more : (bits x low high n : ℕ) (ys : List ℕ) → (bits ≤ x) × (0x80 ≤ low) × (high ≤ 0xBF)
    → ((c : ℕ) → shifted n ((x - bits) * 64 + (low - 0x80)) ≤ c → c < shifted n ((x - bits) * 64 + (high - 0x7F))
    → InRow bits (suc n) c)
    → Makes x ys (Expecting low high n)
unfolding Makes
of_more bits x low high n ys h row o =
    let p = expected low high n ys o in
    let m = (x - bits) * 64 + (p.octet - 0x80) in
    let t = tails_filled bits n m p.rest p.completes in
    let c = with_tails m p.rest in
    let a = shifted_le n ((x - bits) * 64 + (low - 0x80)) m (omega (arith, p.from)) in
    let b = shifted_le n (m + 1) ((x - bits) * 64 + (high - 0x7F)) (omega (arith, p.from, p.to)) in
    let r = row c (omega (arith, a, t.least)) (omega (arith, b, t.most)) in
    let s : suc n ≡ n + 1 = omega arith in
    let e : bits + m / 64 ≡ x = omega (arith, p.from, p.to) in
    let e' : six_bits m ≡ p.octet = omega (arith, p.from, p.to) in
    let is : octets_of c ≡ x ∷ p.octet ∷ p.rest = r.1 ∙ ap (λ k. filled bits k c []) s ∙ t.octets 1 [] ∙ rw (e, e', append-nil p.rest) in
    record { number = c; scalar = r.0; octets = is ∙ ap (λ l. x ∷ l) (sym p.is) }

-- row by row
pub character : (x : ℕ) (ys : List ℕ) → Makes x ys (lead_in leads x)
unfolding leads tails
character x ys =
    by_lead x (Makes x ys) _ _ (λ h k. of_one x ys k)
    (by_lead x (Makes x ys) _ _ (λ h k. of_more 0xC0 x _ _ _ ys (omega arith) (λ c l m. in_two c (omega arith) (omega arith)))
    (by_lead x (Makes x ys) _ _ (λ h k. of_more 0xE0 x _ _ _ ys (omega arith) (λ c l m. in_three c (omega arith) (omega arith) (below_surrogates c (omega arith))))
    (by_lead x (Makes x ys) _ _ (λ h k. of_more 0xE0 x _ _ _ ys (omega arith) (λ c l m. in_three c (omega arith) (omega arith) (below_surrogates c (omega arith))))
    (by_lead x (Makes x ys) _ _ (λ h k. of_more 0xE0 x _ _ _ ys (omega arith) (λ c l m. in_three c (omega arith) (omega arith) (below_surrogates c (omega arith))))
    (by_lead x (Makes x ys) _ _ (λ h k. of_more 0xE0 x _ _ _ ys (omega arith) (λ c l m. in_three c (omega arith) (omega arith) (above_surrogates c (omega arith) (omega arith))))
    (by_lead x (Makes x ys) _ _ (λ h k. of_more 0xF0 x _ _ _ ys (omega arith) (λ c l m. in_four c (omega arith) (omega arith)))
    (by_lead x (Makes x ys) _ _ (λ h k. of_more 0xF0 x _ _ _ ys (omega arith) (λ c l m. in_four c (omega arith) (omega arith)))
    (by_lead x (Makes x ys) _ _ (λ h k. of_more 0xF0 x _ _ _ ys (omega arith) (λ c l m. in_four c (omega arith) (omega arith)))
    (by_none x (Makes x ys) (of_none x ys))))))))))

-- ---- the octets of a scalar value are a character

split : {P : Type 0} (c most : ℕ) → (c ≤ most → P) → (most < c → P) → P
split c most p q = by_test (leb c most) (λ t. p (leb-true c most t)) (λ t. q (leb-false c most t))

pub record Begins (xs : List ℕ) : Type 0 where
  pub octet : ℕ
  pub rest : List ℕ
  pub is : xs ≡ octet ∷ rest
  pub completes : Completes rest (lead_in leads octet)

nothing_more : Completes [] Between
unfolding ends
nothing_more = none_completes Between refl

-- by the row that the first octet is in
row_completes : (x low high n y : ℕ) (ys : List ℕ) → lead_in leads x ≡ Expecting low high n → (low ≤ y) × (y ≤ high) → Completes ys (tails n)
    → Completes (y ∷ ys) (lead_in leads x)
row_completes x low high n y ys e h o = rw e (next_completes low high n y ys h o)

module _ (c : ℕ) where
  one_tail : Completes (six_bits c ∷ []) (tails 1)
  unfolding tails
  one_tail = next_completes 0x80 0xBF 0 (six_bits c) [] (omega arith) nothing_more

  one_completes : c ≤ 0x7F → Completes [] (lead_in leads c)
  unfolding leads lead_in is_between
  one_completes h = let e : lead_in leads c ≡ Between = grind arith in rw e nothing_more

  two_complete : 0x7F < c → c ≤ 0x7FF → Completes (six_bits c ∷ []) (lead_in leads (0xC0 + c / 64))
  unfolding leads lead_in is_between tails
  two_complete h k = row_completes (0xC0 + c / 64) 0x80 0xBF 0 _ _ (grind arith) (omega arith) nothing_more

  three_complete : 0x7FF < c → c ≤ 0xFFFF → is_scalar c ≡ true → Completes (six_bits (c / 64) ∷ six_bits c ∷ []) (lead_in leads (0xE0 + c / 64 / 64))
  unfolding leads lead_in is_between tails
  three_complete h k s =
      let x = 0xE0 + c / 64 / 64 in
      split c 0xFFF (λ m. row_completes x 0xA0 0xBF 1 _ _ (grind arith) (omega arith) one_tail)
      (λ m. split c 0xCFFF (λ m'. row_completes x 0x80 0xBF 1 _ _ (grind arith) (omega arith) one_tail)
      (λ m'. split c 0xDFFF (λ m''. row_completes x 0x80 0x9F 1 _ _ (grind arith) (let t = low_scalar c m'' s in omega arith) one_tail)
      (λ m''. row_completes x 0x80 0xBF 1 _ _ (grind arith) (omega arith) one_tail)))

  four_complete : 0xFFFF < c → c ≤ 0x10FFFF
      → Completes (six_bits (c / 64 / 64) ∷ six_bits (c / 64) ∷ six_bits c ∷ []) (lead_in leads (0xF0 + c / 64 / 64 / 64))
  unfolding leads lead_in is_between tails
  four_complete h k =
      let x = 0xF0 + c / 64 / 64 / 64 in
      let o : Completes (six_bits (c / 64) ∷ six_bits c ∷ []) (tails 2) = next_completes _ _ 1 _ _ (omega arith) one_tail in
      split c 0x3FFFF (λ m. row_completes x 0x90 0xBF 2 _ _ (grind arith) (omega arith) o)
      (λ m. split c 0xFFFFF (λ m'. row_completes x 0x80 0xBF 2 _ _ (grind arith) (omega arith) o)
      (λ m'. row_completes x 0x80 0x8F 2 _ _ (grind arith) (omega arith) o))

  pub begins : is_scalar c ≡ true → Begins (octets_of c)
  begins s =
      by_size Begins c (λ h. record { octet = _; rest = _; is = refl; completes = one_completes h })
      (λ h k. record { octet = _; rest = _; is = refl; completes = two_complete h k })
      (λ h k. record { octet = _; rest = _; is = refl; completes = three_complete h k s })
      (λ h. record { octet = _; rest = _; is = refl; completes = four_complete h (scalar_most c s) })
