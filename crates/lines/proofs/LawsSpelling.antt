-- Laws of spelling: a digit of the grammar is what `digit_of` takes for one, and two digits are read as their octet.
use mathlib.Core.Bool.{Bool, true, false, cond, ◌&&◌}
use mathlib.Core.Path.{◌≡◌, refl, sym, ap, ◌∙◌}
use Prim.Native.Nat.{ℕ, ◌/◌, ◌%◌, ◌<◌}
use borrow.Author.Tests.{ltb-true, ltb-false, eqb-true, ne_eqb}
use lib.Dec.{ltb, eqb}
use lib.ListN.{get_or}
use Rattle.std.proofs.Common.{rules}
use Rattle.std.specs.Prelude.{Option, Some, None}
use Rattle.octets.specs.Ranges.{is_between}
use Rattle.octets.specs.Scanning.{all_from, all_below}
use Rattle.octets.proofs.LawsScanning.{all_at}
use Rattle.octets.proofs.LawsTests.{by_test, both_told, impossible}
use Rattle.lines.specs.declared.reader.Stage.{Stage}
use Rattle.lines.specs.declared.reader.Stage.TheVariants.{Start, Half, Octet, Space, Wrong}
use Rattle.lines.specs.Line.{digits}
use Rattle.lines.specs.Spelling.{space, capitals, Digit, lower, upper, Two}
use Rattle.lines.specs.Reader.{digit_of, at, Keeping, keeping, with_octet, second, step_from, step}

-- ---- digits

is_value : ℕ → Option ℕ → Bool
is_value v (Some w) = eqb w v
is_value v None = false

value_is : {v : ℕ} (d : Option ℕ) → is_value v d ≡ true → d ≡ Some v
unfolding is_value
value_is (Some w) t = ap Some (eqb-true _ _ t)
value_is None t = impossible cc

-- both tables, place by place
lower_table : all_below 16 (λ v. is_value v (digit_of (get_or digits v 0))) ≡ true
unfolding all_below all_from is_between is_value
lower_table = refl

upper_table : all_below 16 (λ v. is_value v (digit_of (get_or capitals v 0))) ≡ true
unfolding all_below all_from capitals is_between is_value
upper_table = refl

pub digit_value : {c v : ℕ} → Digit c v → digit_of c ≡ Some v
digit_value (lower h e) = ap digit_of (sym e) ∙ value_is _ (all_at 16 _ lower_table _ h)
digit_value (upper h e) = ap digit_of (sym e) ∙ value_is _ (all_at 16 _ upper_table _ h)

pub digit_less : {c v : ℕ} → Digit c v → v < 16
digit_less (lower h e) = h
digit_less (upper h e) = h

behind_digits : (c : ℕ) → 0x66 < c → digit_of c ≡ None
unfolding is_between
behind_digits c h = search rules

-- a letter with a value stands in one of the tables
stands : ℕ → Option ℕ → Bool
stands c (Some v) = ltb v 16 && cond (eqb (get_or digits v 0) c) true (eqb (get_or capitals v 0) c)
stands c None = true

all_stand : all_below 0x67 (λ c. stands c (digit_of c)) ≡ true
unfolding all_below all_from capitals is_between stands
all_stand = refl

pub digit : {c v : ℕ} → digit_of c ≡ Some v → Digit c v
unfolding stands
digit {c} {v} e =
    let small : c < 0x67 = by_test (ltb c 0x67) (λ t. ltb-true c 0x67 t) (λ t. impossible (cc (sym e ∙ behind_digits c (ltb-false c 0x67 t)))) in
    let b = both_told (ap (stands c) (sym e) ∙ all_at 0x67 _ all_stand c small) in
    by_test (eqb (get_or digits v 0) c) (λ t. lower (ltb-true _ _ b.0) (eqb-true _ _ t))
    (λ t. upper (ltb-true _ _ b.0) (eqb-true _ _ (simp t at b.1)))

-- ---- an octet's two letters, wherever an octet may start

abbrev pub Open : Stage → Type 0
Open Start = Unit {0}
Open (Half v) = ⊥
Open Octet = Unit {0}
Open Space = Unit {0}
Open Wrong = ⊥

no_space : {c v : ℕ} → Digit c v → eqb c space ≡ false
unfolding is_between
no_space {c} d = ne_eqb c space (λ e. impossible (cc (sym (digit_value d) ∙ ap digit_of e)))

opens : {c v : ℕ} (p : Stage) → Open p → (h : Keeping) → Digit c v → step_from p h c ≡ keeping (at h.reader (Half v)) h.out
opens Start o h d = search (rules, digit_value d)
opens (Half v) o h d = absurd o
opens Octet o h d = search (rules, digit_value d, no_space d)
opens Space o h d = search (rules, digit_value d)
opens Wrong o h d = absurd o

-- where an octet is kept, the stage before it does not matter
pub kept_at : (h : Keeping) (p : Stage) (x : ℕ) → with_octet (keeping (at h.reader p) h.out) x ≡ with_octet h x
kept_at h p x = refl

closes : {c v : ℕ} (h : Keeping) (x : ℕ) → Digit c v → x / 16 < 16 → v ≡ x % 16 → second h (x / 16) c ≡ with_octet h x
closes h x d less e = search (rules, digit_value d)

pub two_letters : {a b x : ℕ} (h : Keeping) → Open h.reader.stage → Two a b x → step (step h a) b ≡ with_octet h x
two_letters {a} {b} {x} h o t =
    ap (λ g. step g b) (opens h.reader.stage o h t.high)
    ∙ closes (keeping (at h.reader (Half (x / 16))) h.out) x t.low (digit_less t.high) refl ∙ kept_at h (Half (x / 16)) x
