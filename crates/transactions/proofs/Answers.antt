-- PROMISE: 02's numbers and words of all answers, each with its reason: 11 before all else and in every call; then 33, then 31 (Full) or the lowest
-- number (Lowest); 32 for any number that is not waiting; and what becomes of a body, by its octets. A refusal, and a stray body, change nothing.
use mathlib.Core.Logic.{◌≢◌}
use mathlib.Core.Path.{◌≡◌, refl, ap, ◌∙◌}
use mathlib.Core.Bool.{true, false}
use mathlib.Core.List.{List, [], ◌∷◌}
use Prim.Native.Nat.{ℕ, ◌%◌, ◌<◌}
use Rattle.octets.specs.Body.{header_of, SpinelBody}
use Rattle.octets.proofs.LawsTests.{by_test, impossible}
use Rattle.transactions.specs.declared.table.Table.{Table}
use Rattle.transactions.specs.Answer.{allowed, gave_up, answered, late, announced, stray}
use Rattle.transactions.specs.Table.{Mark, free, waiting, given_up, both, Numbers, numbers_of, fresh, mark_at, put, is_waiting, Rules, rules, done, refused, by_mark, by_kind, after_open, after_reset, after_give_up, after_reply}
use Rattle.transactions.proofs.LawsTable.{rules_told, mark_past}
use Rattle.transactions.proofs.LawsKind.{announces, spinel_reply, other_kind}
use Rattle.transactions.proofs.LawsCalls.{open_11, reset_11, give_up_11, reply_11, open_33, reset_33, reset_done, give_up_32, give_up_done, reply_by}
use Rattle.transactions.proofs.TableRules.{rules_hold}

-- ---- a table that breaks its rules

pub record Refuses11 (d : Numbers) : Type 0 where
  pub opening : after_open d ≡ refused 11 d
  pub resetting : after_reset d ≡ refused 11 d
  pub giving_up : (n : ℕ) → after_give_up d n ≡ refused 11 d
  pub replying : (b : List ℕ) → after_reply d b ≡ refused 11 d

pub bad_table : (d : Numbers) → (Rules d → ⊥) → Refuses11 d
bad_table d broken =
    let off : rules d ≡ false = by_test (rules d) (λ t. absurd (broken (rules_told d t))) (λ t. t) in
    record { opening = open_11 d off; resetting = reset_11 d off; giving_up = λ n. give_up_11 d n off; replying = λ b. reply_11 d b off }

-- ---- a table that keeps them

module _ (d : Numbers) (keeps : Rules d) where
  kept : rules d ≡ true
  kept = rules_hold d keeps

  -- a reset is under way
  pub open_resetting : d.resetting ≡ true → after_open d ≡ refused 33 d
  open_resetting r = open_33 d kept r

  pub reset_resetting : d.resetting ≡ true → after_reset d ≡ refused 33 d
  reset_resetting r = reset_33 d kept r

  pub reset_allowed : d.resetting ≡ false → after_reset d ≡ done allowed 0 (record { marks = d.marks; resetting = true })
  reset_allowed r = reset_done d kept r

  -- a number is given up
  pub give_up_waiting : (n : ℕ) → mark_at d n ≡ waiting → after_give_up d n ≡ done gave_up 0 (put d n given_up)
  give_up_waiting n w = give_up_done d kept n w

  pub give_up_other : (n : ℕ) → mark_at d n ≢ waiting → after_give_up d n ≡ refused 32 d
  give_up_other n other = give_up_32 d kept n (not_so (mark_at d n) other)
    where
      not_so : (m : Mark) → m ≢ waiting → is_waiting m ≡ false
      not_so free h = refl
      not_so waiting h = absurd (h refl)
      not_so given_up h = refl
      not_so both h = refl

  -- 0 is never waiting; past 15 nothing is (ToldByNumbers, `past_15`)
  pub give_up_0 : after_give_up d 0 ≡ refused 32 d
  give_up_0 = give_up_other 0 (λ e. let z = keeps.zero in impossible cc)

  -- a body comes
  pub reply_announcement : after_reply d (0x80 ∷ 0x06 ∷ 0x00 ∷ 0x72 ∷ []) ≡ done announced 0 fresh
  reply_announcement = rw (reply_by d kept (0x80 ∷ 0x06 ∷ 0x00 ∷ 0x72 ∷ []), announces)

  module _ (b : List ℕ) where
    pub reply_no_spinel : (SpinelBody b → ⊥) → after_reply d b ≡ done stray 0 d
    reply_no_spinel none = rw (reply_by d kept b, other_kind b none)

    module _ (spinel : SpinelBody b) (other : b ≢ 0x80 ∷ 0x06 ∷ 0x00 ∷ 0x72 ∷ []) where
      by_number : {m : Mark} → mark_at d (header_of b % 16) ≡ m → after_reply d b ≡ by_mark m (header_of b % 16) d
      by_number e = reply_by d kept b ∙ ap (λ k. by_kind k d) (spinel_reply b spinel other) ∙ ap (λ m. by_mark m (header_of b % 16) d) e

      pub reply_waiting : mark_at d (header_of b % 16) ≡ waiting → after_reply d b ≡ done answered (header_of b % 16) (put d (header_of b % 16) free)
      reply_waiting e = by_number e

      pub reply_given_up : mark_at d (header_of b % 16) ≡ given_up → after_reply d b ≡ done late (header_of b % 16) (put d (header_of b % 16) free)
      reply_given_up e = by_number e

      pub reply_free : mark_at d (header_of b % 16) ≡ free → after_reply d b ≡ done stray 0 d
      reply_free e = by_number e

-- ---- of a table of the code, a number past 15

pub give_up_past_15 : (t : Table) (n : ℕ) → Rules (numbers_of t) → 15 < n → after_give_up (numbers_of t) n ≡ refused 32 (numbers_of t)
give_up_past_15 t n keeps h = give_up_other (numbers_of t) keeps n (λ e. let none = mark_past t n h in impossible cc)
