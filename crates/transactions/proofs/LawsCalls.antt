-- What each call comes to, by its tests.
use mathlib.Core.Path.{◌≡◌, refl, sym, subst}
use mathlib.Core.Bool.{true, false}
use mathlib.Core.List.{List}
use Prim.Native.Nat.{ℕ, ◌≤◌, ◌<◌}
use borrow.Author.Tests.{lt-ltb, le-ltb, ltb-true, ltb-false}
use lib.Dec.{ltb}
use Rattle.octets.proofs.LawsTests.{by_test, impossible}
use Rattle.transactions.specs.Answer.{opened, allowed, gave_up, answered, late, stray}
use Rattle.transactions.specs.Kind.{kind}
use Rattle.transactions.specs.Table.{Numbers, Mark, free, waiting, given_up, both, mark_at, put, is_waiting, rules, lowest, Result, done, refused, by_mark, by_kind, after_open, after_reset, after_give_up, after_reply}
use Rattle.transactions.proofs.LawsTable.{rules_told}

only_waiting : (m : Mark) → is_waiting m ≡ true → m ≡ waiting
only_waiting free t = impossible cc
only_waiting waiting t = refl
only_waiting given_up t = impossible cc
only_waiting both t = impossible cc

module _ (d : Numbers) where
  pub open_11 : rules d ≡ false → after_open d ≡ refused 11 d
  unfolding after_open
  open_11 broken = rw broken

  pub reset_11 : rules d ≡ false → after_reset d ≡ refused 11 d
  unfolding after_reset
  reset_11 broken = rw broken

  pub give_up_11 : (n : ℕ) → rules d ≡ false → after_give_up d n ≡ refused 11 d
  unfolding after_give_up
  give_up_11 n broken = rw broken

  pub reply_11 : (b : List ℕ) → rules d ≡ false → after_reply d b ≡ refused 11 d
  unfolding after_reply
  reply_11 b broken = rw broken

  module _ (kept : rules d ≡ true) where
    pub open_33 : d.resetting ≡ true → after_open d ≡ refused 33 d
    unfolding after_open
    open_33 r = rw (kept, r)

    pub open_31 : d.resetting ≡ false → 15 < lowest d → after_open d ≡ refused 31 d
    unfolding after_open lowest
    open_31 r h = rw (kept, r, lt-ltb 15 (lowest d) h)

    pub open_done : d.resetting ≡ false → lowest d ≤ 15 → after_open d ≡ done opened (lowest d) (put d (lowest d) waiting)
    unfolding after_open lowest
    open_done r h = rw (kept, r, le-ltb 15 (lowest d) h)

    pub reset_33 : d.resetting ≡ true → after_reset d ≡ refused 33 d
    unfolding after_reset
    reset_33 r = rw (kept, r)

    pub reset_done : d.resetting ≡ false → after_reset d ≡ done allowed 0 (record { marks = d.marks; resetting = true })
    unfolding after_reset
    reset_done r = rw (kept, r)

    pub give_up_32 : (n : ℕ) → is_waiting (mark_at d n) ≡ false → after_give_up d n ≡ refused 32 d
    unfolding after_give_up
    give_up_32 n w = rw (kept, w)

    pub give_up_done : (n : ℕ) → mark_at d n ≡ waiting → after_give_up d n ≡ done gave_up 0 (put d n given_up)
    unfolding after_give_up
    give_up_done n w = rw (kept, w)

    pub reply_by : (b : List ℕ) → after_reply d b ≡ by_kind (kind b) d
    unfolding after_reply
    reply_by b = rw kept

    -- ---- by cases

    module _ (P : Result → Type 0) where
      pub open_cases : (d.resetting ≡ true → P (refused 33 d)) → (d.resetting ≡ false → 15 < lowest d → P (refused 31 d))
          → (d.resetting ≡ false → lowest d ≤ 15 → P (done opened (lowest d) (put d (lowest d) waiting))) → P (after_open d)
      open_cases resets full opens =
          by_test d.resetting (λ r. subst P (sym (open_33 r)) (resets r))
          (λ r. by_test (ltb 15 (lowest d)) (λ t. let h = ltb-true 15 (lowest d) t in subst P (sym (open_31 r h)) (full r h))
          (λ t. let h = ltb-false 15 (lowest d) t in subst P (sym (open_done r h)) (opens r h)))

      pub reset_cases : (d.resetting ≡ true → P (refused 33 d)) → (d.resetting ≡ false → P (done allowed 0 (record { marks = d.marks; resetting = true })))
          → P (after_reset d)
      reset_cases resets allows =
          by_test d.resetting (λ r. subst P (sym (reset_33 r)) (resets r)) (λ r. subst P (sym (reset_done r)) (allows r))

      pub give_up_cases : (n : ℕ) → (is_waiting (mark_at d n) ≡ false → P (refused 32 d)) → (mark_at d n ≡ waiting → P (done gave_up 0 (put d n given_up)))
          → P (after_give_up d n)
      give_up_cases n other waits =
          by_test (is_waiting (mark_at d n)) (λ t. let w = only_waiting (mark_at d n) t in subst P (sym (give_up_done n w)) (waits w))
          (λ t. subst P (sym (give_up_32 n t)) (other t))

      -- a reply under a number: stray where it is free, else matched
      pub mark_cases : (n : ℕ) → (mark_at d n ≡ free → P (done stray 0 d)) → (mark_at d n ≡ waiting → P (done answered n (put d n free)))
          → (mark_at d n ≡ given_up → P (done late n (put d n free))) → P (by_mark (mark_at d n) n d)
      mark_cases n stray-case answered-case late-case = by (mark_at d n) refl
        where
          by : (m : Mark) → mark_at d n ≡ m → P (by_mark m n d)
          by free e = stray-case e
          by waiting e = answered-case e
          by given_up e = late-case e
          by both e = absurd ((rules_told d kept).apart n e)
