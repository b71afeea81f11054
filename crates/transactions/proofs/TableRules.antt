-- PROMISE: the table's rules are decided by their test and kept by every call.
use mathlib.Core.Path.{◌≡◌, refl, sym, ◌∙◌}
use mathlib.Core.Logic.{◌≢◌}
use mathlib.Core.Bool.{true, false}
use mathlib.Core.List.{List, [], ◌∷◌}
use Prim.Native.Nat.{ℕ, zero, suc, ◌<◌}
use native.Mathlib.Omega.{arith}
use lib.ListN.{get_or, set}
use lib.Seq.{get_or-set_other}
use Rattle.octets.proofs.LawsTests.{impossible}
use Rattle.transactions.specs.declared.kind.BodyKind.{BodyKind}
use Rattle.transactions.specs.declared.kind.BodyKind.TheVariants.{Announcement, Reply, Other}
use Rattle.transactions.specs.Kind.{kind}
use Rattle.transactions.specs.Table.{Mark, free, waiting, given_up, both, any_both, Numbers, fresh, mark_at, put, Rules, rules, lowest, by_kind, after_open, after_reset, after_give_up, after_reply}
use Rattle.transactions.proofs.LawsTable.{rules_told as told}
use Rattle.transactions.proofs.LawsCalls.{reply_by, open_cases, reset_cases, give_up_cases, mark_cases}

-- ---- the test decides the rules

pub rules_told : (d : Numbers) → rules d ≡ true → Rules d
rules_told d e = told d e

none_both : (ms : List Mark) → ((n : ℕ) → get_or ms n free ≢ both) → any_both ms ≡ false
unfolding any_both
none_both [] h = refl
none_both (free ∷ ms) h = none_both ms (λ n. h (suc n))
none_both (waiting ∷ ms) h = none_both ms (λ n. h (suc n))
none_both (given_up ∷ ms) h = none_both ms (λ n. h (suc n))
none_both (both ∷ ms) h = absurd (h 0 refl)

pub rules_hold : (d : Numbers) → Rules d → rules d ≡ true
unfolding rules
rules_hold d keeps = rw (keeps.zero, none_both d.marks keeps.apart)

pub fresh_rules : rules fresh ≡ true
unfolding rules any_both
fresh_rules = refl

-- ---- they are kept

-- a number from 1 on gets another mark, but not both
pub put_rules : (d : Numbers) (n : ℕ) (m : Mark) → 0 < n → m ≢ both → rules d ≡ true → rules (put d n m) ≡ true
put_rules d n m above other kept =
    let k = told d kept in
    rules_hold (put d n m)
    (record {
      zero = get_or-set_other d.marks n 0 m free (λ e. omega arith) ∙ k.zero;
      apart = apart d.marks n k.apart;
    })
  where
    apart : (ms : List Mark) (n : ℕ) → ((i : ℕ) → get_or ms i free ≢ both) → (i : ℕ) → get_or (set ms n m) i free ≢ both
    apart [] zero h i = h i
    apart [] (suc n) h i = h i
    apart (x ∷ ms) zero h zero = other
    apart (x ∷ ms) zero h (suc i) = h (suc i)
    apart (x ∷ ms) (suc n) h zero = h 0
    apart (x ∷ ms) (suc n) h (suc i) = apart ms n (λ j. h (suc j)) i

-- a number that is marked is not 0
pub marked_above : (d : Numbers) (n : ℕ) → rules d ≡ true → mark_at d n ≢ free → 0 < n
marked_above d zero kept h = absurd (h (told d kept).zero)
marked_above d (suc n) kept h = omega arith

no_waiting : waiting ≢ free
no_waiting e = impossible cc

no_given_up : given_up ≢ free
no_given_up e = impossible cc

pub waiting_above : (d : Numbers) (n : ℕ) → rules d ≡ true → mark_at d n ≡ waiting → 0 < n
waiting_above d n kept e = marked_above d n kept (λ f. no_waiting (sym e ∙ f))

pub given_up_above : (d : Numbers) (n : ℕ) → rules d ≡ true → mark_at d n ≡ given_up → 0 < n
given_up_above d n kept e = marked_above d n kept (λ f. no_given_up (sym e ∙ f))

pub lowest_above : (d : Numbers) → 0 < lowest d
unfolding lowest
lowest_above d = omega arith

-- whether a reset is under way does not matter
pub resetting_rules : (d : Numbers) → rules d ≡ true → rules (record { marks = d.marks; resetting = true }) ≡ true
unfolding rules
resetting_rules d kept = kept

module _ (d : Numbers) (kept : rules d ≡ true) where
  pub open_rules : rules (after_open d).numbers ≡ true
  open_rules = open_cases d kept (λ r. rules r.numbers ≡ true) (λ _. kept) (λ _ _. kept) (λ _ _. put_rules d (lowest d) waiting (lowest_above d) (λ e. impossible cc) kept)

  pub reset_rules : rules (after_reset d).numbers ≡ true
  reset_rules = reset_cases d kept (λ r. rules r.numbers ≡ true) (λ _. kept) (λ _. resetting_rules d kept)

  pub give_up_rules : (n : ℕ) → rules (after_give_up d n).numbers ≡ true
  give_up_rules n =
      give_up_cases d kept (λ r. rules r.numbers ≡ true) n (λ _. kept)
      (λ w. put_rules d n given_up (waiting_above d n kept w) (λ e. impossible cc) kept)

  pub reply_rules : (b : List ℕ) → rules (after_reply d b).numbers ≡ true
  reply_rules b = rw (reply_by d kept b) (by (kind b))
    where
      by : (k : BodyKind) → rules (by_kind k d).numbers ≡ true
      by Announcement = fresh_rules
      by (Reply n) =
          mark_cases d kept (λ r. rules r.numbers ≡ true) n (λ _. kept)
          (λ w. put_rules d n free (waiting_above d n kept w) (λ e. impossible cc) kept)
          (λ w. put_rules d n free (given_up_above d n kept w) (λ e. impossible cc) kept)
      by Other = kept
