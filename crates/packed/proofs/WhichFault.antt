-- PROMISE: which fault is told when, by the octets at the place: that they ran out, that a third one still had its top bit set, or that the
-- last one is 0 and not the first, each exactly when; and a shorter spelling of the same number exists exactly where it is said to.
use mathlib.Core.List.{List, [], ◌∷◌, append-nil}
use mathlib.Core.Path.{◌≡◌, refl}
use Prim.Native.Nat.{ℕ, zero, suc, ◌+◌, ◌*◌, ◌-◌, ◌/◌, ◌^◌, ◌<◌, ◌≤◌}
use native.Mathlib.Nat.{pow-succ', one-le-pow, pow-le-pow_right, add-zero, zero-add}
use native.Mathlib.Omega.{arith}
use borrow.Author.Tests.{ltb-true, ltb-false, leb-true, leb-false, eqb-true, eqb-false}
use lib.Dec.{eqb, ltb, leb}
use lib.ListN.{length, get_or, take, drop, length-drop}
use lib.Seq.{get_or-drop}
use Rattle.octets.proofs.LawsTests.{by_test}
use Rattle.packed.specs.Packed.{packed, packed_in, joined, number_in, packed_at, max_packed, read}
use Rattle.packed.specs.Faults.{TopBit, IsZero, RunsOut, no_octet, only_one, only_two, GoesOn, EndsInZero, in_second, in_third, sevens, HasShorter}
use Rattle.packed.specs.declared.Fault.TheVariants as fault
use Rattle.packed.specs.declared.Packed.{Packed}
use Rattle.packed.specs.declared.Fault.{Fault}
use Rattle.std.specs.Prelude.{Result, Ok, Err}
use Rattle.packed.proofs.OneSpelling.{octet_alone, past_end}
use Rattle.packed.proofs.ReadsBack.{packed_size, reads_back}
use Rattle.packed.proofs.LawsPacked.{size_in, packed_last, packed_more, joined_joined, number_none, number_last, number_more}

-- ---- how many octets a number takes

few_in : (j k n : ℕ) → n < 128 ^ suc j → length (packed_in k n) ≤ suc j
few_in j zero n h = omega (arith, size_in 0 n)
few_in zero (suc k) n h = rw (packed_last (suc k) n h) (omega arith)
few_in (suc j) (suc k) n h =
    by_test (ltb n 128) (λ t. rw (packed_last (suc k) n (ltb-true n 128 t)) (omega arith))
    (λ t. let less : n < 128 * 128 ^ suc j = rw (pow-succ' 128 (suc j)) at h in
    rw (packed_more k n (ltb-false n 128 t)) (omega (arith, few_in j k (n / 128) (omega arith))))

many_in : (j k n : ℕ) → j ≤ k → 128 ^ j ≤ n → j < length (packed_in k n)
many_in zero k n few h = omega (arith, size_in k n)
many_in (suc j) zero n few h = absurd (omega arith)
many_in (suc j) (suc k) n few h =
    let least : 128 * 128 ^ j ≤ n = rw (pow-succ' 128 j) at h in
    let some : 1 ≤ 128 ^ j = one-le-pow j 128 (omega arith) in
    rw (packed_more k n (omega arith)) (omega (arith, many_in j k (n / 128) (omega arith) (omega arith)))

-- seven bits an octet: the last of them decides whether one fewer would do
sevens_last : (more : ℕ) (ys : List ℕ) → more < length ys → get_or ys more 0 < 128
    → (get_or ys more 0 ≡ 0 → sevens (take (suc more) ys) < 128 ^ more) × ((get_or ys more 0 ≡ 0 → ⊥) → 128 ^ more ≤ sevens (take (suc more) ys))
unfolding sevens
sevens_last more [] h l = absurd (omega arith)
sevens_last zero (y ∷ ys) h l = (λ z. omega arith, λ some. omega (arith, some))
sevens_last (suc more) (y ∷ ys) h l =
    let rest = sevens_last more ys (omega arith) l in
    rw (pow-succ' 128 more) (λ z. omega (arith, rest.0 z), λ some. omega (arith, rest.1 some))

-- what is written for a number stands for it
sevens_in : (k n : ℕ) → n < 128 ^ suc k → sevens (packed_in k n) ≡ n
unfolding sevens
sevens_in zero n h = rw (packed_last 0 n h) (omega arith)
sevens_in (suc k) n h =
    by_test (ltb n 128) (λ t. let last = ltb-true n 128 t in rw (packed_last (suc k) n last) (omega arith))
    (λ t. let less : n < 128 * 128 ^ suc k = rw (pow-succ' 128 (suc k)) at h in
    rw (packed_more k n (ltb-false n 128 t)) (omega (arith, sevens_in k (n / 128) (omega arith))))

pub sevens_packed : (n : ℕ) → n ≤ max_packed → sevens (packed n) ≡ n
unfolding packed
sevens_packed n most = sevens_in 2 n (omega arith)

-- what an answer says of the octets
abbrev Told : List ℕ → ℕ → Result Packed Fault → Type 0
Told xs at (Ok p) = Unit {0}
Told xs at (Err fault.RanOut) = RunsOut xs at
Told xs at (Err fault.GoesOn) = GoesOn xs at
Told xs at (Err fault.NotShortest) = EndsInZero xs at

module _ (xs : List ℕ) where
  -- what stands at a place: no octet, one that ends the number, or one that has the top bit set
  by_octet : {P : Type 0} (at : ℕ) → (length xs ≤ at → P) → (at < length xs → get_or xs at 0 < 128 → P) → (TopBit xs at → P) → P
  by_octet at none last more =
      by_test (leb (length xs) at) (λ t. none (leb-true (length xs) at t))
      (λ t. by_test (ltb (get_or xs at 0) 128) (λ u. last (leb-false (length xs) at t) (ltb-true (get_or xs at 0) 128 u))
      (λ u. more (record { there = leb-false (length xs) at t; top = ltb-false (get_or xs at 0) 128 u })))

  module _ (at : ℕ) where
    first_more : TopBit xs at → packed_at xs at ≡ joined (get_or xs at 0 - 128) 128 (number_in 2 (at + 1) (drop (at + 1) xs))
    unfolding packed_at
    first_more a = number_more xs at 3 (omega arith) a.there a.top

    both_more : TopBit xs at → TopBit xs (at + 1)
        → packed_at xs at ≡ joined (get_or xs at 0 - 128 + 128 * (get_or xs (at + 1) 0 - 128)) (128 * 128) (number_in 1 (at + 2) (drop (at + 2) xs))
    both_more a b = let two : at + 1 + 1 ≡ at + 2 = omega arith in
        rw (first_more a, number_more xs (at + 1) 2 (omega arith) b.there b.top, joined_joined, two)

    -- ---- what the octets are, and what is then told

    told_one : length xs ≤ at + 1 → TopBit xs at → packed_at xs at ≡ Err fault.RanOut
    unfolding joined
    told_one h a = rw (first_more a, number_none xs (at + 1) 2 (omega arith) h)

    told_two : length xs ≤ at + 2 → TopBit xs at → TopBit xs (at + 1) → packed_at xs at ≡ Err fault.RanOut
    unfolding joined
    told_two h a b = rw (both_more a b, number_none xs (at + 2) 1 (omega arith) h)

    told_second : TopBit xs at → IsZero xs (at + 1) → packed_at xs at ≡ Err fault.NotShortest
    unfolding joined
    told_second a z = rw (first_more a, number_last xs (at + 1) 2 (omega arith) z.there (omega (arith, z.octet)), z.octet)

    told_third : TopBit xs at → TopBit xs (at + 1) → IsZero xs (at + 2) → packed_at xs at ≡ Err fault.NotShortest
    unfolding joined
    told_third a b z = rw (both_more a b, number_last xs (at + 2) 1 (omega arith) z.there (omega (arith, z.octet)), z.octet)

    told_on : TopBit xs at → TopBit xs (at + 1) → TopBit xs (at + 2) → packed_at xs at ≡ Err fault.GoesOn
    unfolding joined number_in
    told_on a b c = rw (both_more a b, number_more xs (at + 2) 1 (omega arith) c.there c.top)

    -- a last octet behind others is 0, or ends a number
    ended : (low scale n next : ℕ) (r : Result Packed Fault) → packed_at xs at ≡ joined low scale r → r ≡ read n next → (n ≡ 0 → EndsInZero xs at)
        → Told xs at (packed_at xs at)
    unfolding joined
    ended low scale n next r e last none = by_test (eqb n 0) (λ t. rw (e, last, t) (none (eqb-true n 0 t))) (λ t. rw (e, last, t) tt)

    told : Told xs at (packed_at xs at)
    told =
        by_octet at (λ h. rw (past_end xs at h) (no_octet h)) (λ h l. rw (octet_alone xs at h l) tt)
        (λ a. by_octet (at + 1) (λ h. rw (told_one h a) (only_one (omega (arith, a.there)) a))
        (λ h l. ended _ _ _ _ _ (first_more a) (number_last xs (at + 1) 2 (omega arith) h l) (λ z. in_second a (record { there = h; octet = z })))
        (λ b. by_octet (at + 2) (λ h. rw (told_two h a b) (only_two (omega (arith, b.there)) a b))
        (λ h l. ended _ _ _ _ _ (both_more a b) (number_last xs (at + 2) 1 (omega arith) h l) (λ z. in_third a b (record { there = h; octet = z })))
        (λ c. rw (told_on a b c) (record { first = a; second = b; third = c }))))

    -- ---- each exactly when

    pub ran_out : packed_at xs at ≡ Err fault.RanOut → RunsOut xs at
    ran_out e = rw e at told

    pub ran_out_told : RunsOut xs at → packed_at xs at ≡ Err fault.RanOut
    ran_out_told (no_octet h) = past_end xs at h
    ran_out_told (only_one h a) = told_one (omega arith) a
    ran_out_told (only_two h a b) = told_two (omega arith) a b

    pub goes_on : packed_at xs at ≡ Err fault.GoesOn → GoesOn xs at
    goes_on e = rw e at told

    pub goes_on_told : GoesOn xs at → packed_at xs at ≡ Err fault.GoesOn
    goes_on_told g = told_on g.first g.second g.third

    pub not_shortest : packed_at xs at ≡ Err fault.NotShortest → EndsInZero xs at
    not_shortest e = rw e at told

    pub not_shortest_told : EndsInZero xs at → packed_at xs at ≡ Err fault.NotShortest
    not_shortest_told (in_second a z) = told_second a z
    not_shortest_told (in_third a b z) = told_third a b z

    -- ---- a shorter spelling of the same number

    by_last : (more : ℕ) → at + more < length xs → get_or xs (at + more) 0 < 128 → let n = sevens (take (suc more) (drop at xs)) in
        (get_or xs (at + more) 0 ≡ 0 → n < 128 ^ more) × ((get_or xs (at + more) 0 ≡ 0 → ⊥) → 128 ^ more ≤ n)
    by_last more there last =
        rw (get_or-drop at xs more 0) at (sevens_last more (drop at xs) (omega (arith, length-drop at xs)) (rw (get_or-drop at xs more 0) last))

    ends_shorter : (less : ℕ) → suc less ≤ 2 → ((i : ℕ) → i < suc less → TopBit xs (at + i)) → IsZero xs (at + suc less) → HasShorter xs at
    unfolding packed
    ends_shorter less most tops z =
        let n = sevens (take (suc (suc less)) (drop at xs)) in
        let small : n < 128 ^ suc less = (by_last (suc less) z.there (omega (arith, z.octet))).0 z.octet in
        let top : 128 ^ suc less ≤ 128 ^ 2 = pow-le-pow_right (omega arith) most in
        record {
          more = suc less;
          most = most;
          tops = tops;
          there = z.there;
          last = omega (arith, z.octet);
          number = n;
          stands = refl;
          reads = rw (append-nil (packed n), zero-add (length (packed n))) at (reads_back [] [] n (omega arith));
          fewer = omega (arith, few_in less 2 n small);
        }

    pub shorter : packed_at xs at ≡ Err fault.NotShortest → HasShorter xs at
    shorter e = go (not_shortest e)
      where
        one : TopBit xs at → (i : ℕ) → i < 1 → TopBit xs (at + i)
        one a zero h = rw (add-zero at) a
        one a (suc i) h = absurd (omega arith)

        two : TopBit xs at → TopBit xs (at + 1) → (i : ℕ) → i < 2 → TopBit xs (at + i)
        two a b zero h = rw (add-zero at) a
        two a b (suc zero) h = b
        two a b (suc (suc i)) h = absurd (omega arith)

        go : EndsInZero xs at → HasShorter xs at
        go (in_second a z) = ends_shorter 0 (omega arith) (one a) z
        go (in_third a b z) = ends_shorter 1 (omega arith) (two a b) z

    -- and where the last octet is not 0 there is none
    pub shorter_told : HasShorter xs at → packed_at xs at ≡ Err fault.NotShortest
    unfolding packed
    shorter_told s = go s.more (omega (arith, s.fewer, packed_size s.number)) s.most s.tops last
      where
        last : IsZero xs (at + s.more)
        last =
            by_test (eqb (get_or xs (at + s.more) 0) 0)
            (λ t. record { there = s.there; octet = eqb-true _ _ t })
            (λ t. let high = rw s.stands at ((by_last s.more s.there s.last).1 (eqb-false _ _ t)) in
            absurd (omega (arith, s.fewer, many_in s.more 2 s.number s.most high)))

        go : (k : ℕ) → 1 ≤ k → k ≤ 2 → ((i : ℕ) → i < k → TopBit xs (at + i)) → IsZero xs (at + k) → packed_at xs at ≡ Err fault.NotShortest
        go zero some few tops z = absurd (omega arith)
        go (suc zero) some few tops z = told_second (rw (add-zero at) at (tops 0 (omega arith))) z
        go (suc (suc zero)) some few tops z = told_third (rw (add-zero at) at (tops 0 (omega arith))) (tops 1 (omega arith)) z
        go (suc (suc (suc k))) some few tops z = absurd (omega arith)
