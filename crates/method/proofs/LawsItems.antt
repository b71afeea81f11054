-- Laws of ports that are inserted and removed.
use mathlib.Core.Path.{◌≡◌, refl, sym, ap}
use mathlib.Core.Bool.{Bool, true, false, not}
use mathlib.Core.List.{List, [], ◌∷◌, ◌++◌}
use Prim.Native.Nat.{ℕ, zero, suc, ◌+◌, ◌*◌, ◌%◌, ◌≤◌}
use native.Mathlib.Omega.{arith}
use borrow.Author.Tests.{ne_eqb, eqb-false, le-ltb, ltb-true, ltb-false}
use lib.Dec.{eqb}
use lib.ListN.{length, take, drop, length-append, length-take, length-drop}
use Rattle.octets.specs.Finding.{before}
use Rattle.octets.specs.LittleEndian.{le}
use Rattle.octets.proofs.LawsTests.{by_test, and_l, and_r, both, impossible}
use Rattle.device.specs.Ports.{ports_in, holds, distinct}
use Rattle.device.proofs.LawsPorts.{ports_length}
use Rattle.std.specs.Prelude.{Ok, Err}
use Rattle.property.specs.declared.status.Status.{Status}
use Rattle.property.specs.declared.status.Status.TheVariants.{ParseError}
use Rattle.method.specs.Items.{whole, port_in, without}

-- ---- lists without a number

-- a number that is not held is not the first, and not held by the rest
not_held : (v x : ℕ) (xs : List ℕ) → holds v (x ∷ xs) ≡ false → (eqb x v ≡ false) × (holds v xs ≡ false)
unfolding holds before
not_held v x xs h =
    by_test (eqb x v)
    (λ e. absurd (omega (arith, ltb-false 0 (suc (length xs)) (rw e at h))))
    (λ e. (e, le-ltb (before v xs) (length xs) (omega (arith, ltb-false (suc (before v xs)) (suc (length xs)) (rw e at h)))))

not_held_cons : (v x : ℕ) (xs : List ℕ) → eqb x v ≡ false → holds v xs ≡ false → holds v (x ∷ xs) ≡ false
unfolding holds before
not_held_cons v x xs e h = rw e (le-ltb (suc (before v xs)) (suc (length xs)) (omega (arith, ltb-false (before v xs) (length xs) h)))

isnt : (t : Bool) → not t ≡ true → t ≡ false
isnt true h = sym h
isnt false h = refl

-- ---- one more at the end

not_held_snoc : (x v : ℕ) (xs : List ℕ) → eqb v x ≡ false → holds x xs ≡ false → holds x (xs ++ (v ∷ [])) ≡ false
not_held_snoc x v [] e h = not_held_cons x v [] e h
not_held_snoc x v (y ∷ ys) e h = let t = not_held x y ys h in not_held_cons x y (ys ++ (v ∷ [])) t.0 (not_held_snoc x v ys e t.1)

pub distinct_snoc : (v : ℕ) (xs : List ℕ) → distinct xs ≡ true → holds v xs ≡ false → distinct (xs ++ (v ∷ [])) ≡ true
unfolding distinct holds before
distinct_snoc v [] d h = refl
distinct_snoc v (x ∷ xs) d h =
    let t = not_held v x xs h in
    let other : eqb v x ≡ false = ne_eqb v x (λ q. eqb-false x v t.0 (sym q)) in
    let new : holds x (xs ++ (v ∷ [])) ≡ false = not_held_snoc x v xs other (isnt (holds x xs) (and_l (not (holds x xs)) (distinct xs) d)) in
    both (not (holds x (xs ++ (v ∷ [])))) _ (ap not new) (distinct_snoc v xs (and_r (not (holds x xs)) (distinct xs) d) t.1)

-- ---- one less

not_held_less : (v i : ℕ) (xs : List ℕ) → holds v xs ≡ false → holds v (take i xs ++ drop (suc i) xs) ≡ false
not_held_less v zero [] h = h
not_held_less v (suc i) [] h = h
not_held_less v zero (x ∷ xs) h = (not_held v x xs h).1
not_held_less v (suc i) (x ∷ xs) h = let t = not_held v x xs h in not_held_cons v x (take i xs ++ drop (suc i) xs) t.0 (not_held_less v i xs t.1)

pub distinct_less : (i : ℕ) (xs : List ℕ) → distinct xs ≡ true → distinct (take i xs ++ drop (suc i) xs) ≡ true
unfolding distinct
distinct_less zero [] d = refl
distinct_less (suc i) [] d = refl
distinct_less zero (x ∷ xs) d = and_r (not (holds x xs)) (distinct xs) d
distinct_less (suc i) (x ∷ xs) d =
    let less : holds x (take i xs ++ drop (suc i) xs) ≡ false = not_held_less x i xs (isnt (holds x xs) (and_l (not (holds x xs)) (distinct xs) d)) in
    both (not (holds x (take i xs ++ drop (suc i) xs))) _ (ap not less) (distinct_less i xs (and_r (not (holds x xs)) (distinct xs) d))

-- ---- the same in octets

-- an even number of octets are ports, and nothing else
pub ports_count : (xs : List ℕ) → length xs % 2 ≡ 0 → length xs ≡ 2 * length (ports_in xs)
ports_count xs e = omega (arith, ports_length xs)

pub ports_snoc : (xs p : List ℕ) → length xs % 2 ≡ 0 → length p ≡ 2 → ports_in (xs ++ p) ≡ ports_in xs ++ (le p ∷ [])
unfolding ports_in
ports_snoc [] [] e two = absurd (omega arith)
ports_snoc [] (x ∷ []) e two = absurd (omega arith)
ports_snoc [] (x ∷ y ∷ []) e two = refl
ports_snoc [] (x ∷ y ∷ z ∷ zs) e two = absurd (omega arith)
ports_snoc (x ∷ []) p e two = absurd (omega arith)
ports_snoc (x ∷ y ∷ xs) p e two = ap (λ ps. le (x ∷ y ∷ []) ∷ ps) (ports_snoc xs p (omega arith) two)

pub ports_without : (i : ℕ) (xs : List ℕ) → 2 * i + 2 ≤ length xs
    → ports_in (without (2 * i) xs) ≡ take i (ports_in xs) ++ drop (suc i) (ports_in xs)
unfolding without ports_in
ports_without i [] h = absurd (omega arith)
ports_without i (x ∷ []) h = absurd (omega arith)
ports_without zero (x ∷ y ∷ xs) h = refl
ports_without (suc i) (x ∷ y ∷ xs) h =
    let here : 2 * suc i ≡ suc (suc (2 * i)) = omega arith in
    let behind : suc (suc (2 * i)) + 2 ≡ suc (suc (2 * i + 2)) = omega arith in
    rw (here, behind) (ap (λ ps. le (x ∷ y ∷ []) ∷ ps) (ports_without i xs (omega arith)))

pub length_without : (at : ℕ) (xs : List ℕ) → at + 2 ≤ length xs → length (without at xs) + 2 ≡ length xs
unfolding without
length_without at xs h = omega (arith, length-append (take at xs) (drop (at + 2) xs), length-take at xs, length-drop (at + 2) xs)

-- a port that is held stands in the octets, whole
pub port_inside : (v : ℕ) (xs : List ℕ) → holds v (ports_in xs) ≡ true → 2 * before v (ports_in xs) + 2 ≤ length xs
unfolding holds
port_inside v xs h = omega (arith, ltb-true (before v (ports_in xs)) (length (ports_in xs)) h, ports_length xs)

-- the port of a payload, or that it holds none
pub port_read : (p : List ℕ) (v : ℕ) → port_in p ≡ Ok v → (eqb (length p) 2 ≡ true) × (v ≡ le p)
unfolding whole
port_read p v e =
    by_test (eqb (length p) 2) (λ t. let read = rw t at e in (t, cc)) (λ t. let none = rw t at e in impossible cc)

pub port_missing : (p : List ℕ) (s : Status) → port_in p ≡ Err s → (eqb (length p) 2 ≡ false) × (s ≡ ParseError)
unfolding whole
port_missing p s e =
    by_test (eqb (length p) 2) (λ t. let read = rw t at e in impossible cc) (λ t. let none = rw t at e in (t, cc))
