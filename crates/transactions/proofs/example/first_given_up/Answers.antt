-- Each call takes the numbers that the one before it left; the first two are not refused.
use mathlib.Core.Path.{◌≡◌, sym, ap, ◌∙◌}
use mathlib.Core.List.{List}
use Prim.Native.Nat.{ℕ}
use Rattle.std.specs.Prelude.{Result}
use Rattle.transactions.specs.declared.answer.Answer.{Answer}
use Rattle.transactions.specs.declared.answer.Refusal.{Refusal}
use Rattle.transactions.specs.declared.table.Table.{Table}
use Rattle.transactions.specs.Answer.{opened, gave_up, refused, reported}
use Rattle.transactions.specs.Table.{Numbers, numbers_of, fresh, put, waiting, given_up, result, any_both, rules, first_free, lowest, after_open, after_give_up, after_reply}
use Rattle.transactions.proofs.example.first_given_up.Goals as goal

module _ (t t₁ : Table) (r₁ : Result Answer Refusal) (e : numbers_of t ≡ fresh) (e₁ : result r₁ t₁ ≡ after_open (numbers_of t)) where
  opens : (reported r₁).word ≡ opened
  unfolding after_open rules any_both lowest first_free
  opens = ap (λ s. s.report.word) e₁ ∙ ap (λ (d : Numbers). (after_open d).report.word) e

  waits : numbers_of t₁ ≡ put fresh 1 waiting
  unfolding after_open rules any_both lowest first_free
  waits = ap (λ s. s.numbers) e₁ ∙ ap (λ (d : Numbers). (after_open d).numbers) e

  module _ (t₂ : Table) (r₂ : Result Answer Refusal) (e₂ : result r₂ t₂ ≡ after_give_up (numbers_of t₁) 1) where
    gives_up : (reported r₂).word ≡ gave_up
    unfolding after_give_up rules any_both
    gives_up = ap (λ s. s.report.word) e₂ ∙ ap (λ (d : Numbers). (after_give_up d 1).report.word) waits

    is_given_up : numbers_of t₂ ≡ put fresh 1 given_up
    unfolding after_give_up rules any_both
    is_given_up = ap (λ s. s.numbers) e₂ ∙ ap (λ (d : Numbers). (after_give_up d 1).numbers) waits

    reports : (t₃ : Table) (r₃ : Result Answer Refusal) (body : List ℕ) → result r₃ t₃ ≡ after_reply (numbers_of t₂) body
        → reported r₃ ≡ (after_reply (put fresh 1 given_up) body).report
    reports t₃ r₃ body e₃ = ap (λ s. s.report) e₃ ∙ ap (λ (d : Numbers). (after_reply d body).report) is_given_up

pub returns-in_err-open : goal.returns-in_err-open
returns-in_err-open c =
    let w : refused ≡ opened = sym (ap (λ r. (reported r).word) c.in_err-open.was) ∙ opens _ _ _ c.fresh-table.ensures c.open.ensures in absurd cc

pub returns-in_err-give_up : goal.returns-in_err-give_up
returns-in_err-give_up c =
    let w : refused ≡ gave_up
    = sym (ap (λ r. (reported r).word) c.in_err-give_up.was) ∙ gives_up _ _ _ c.fresh-table.ensures c.open.ensures _ _ c.give_up.ensures in
    absurd cc

pub returns : goal.returns
returns c =
    reports _ _ _ c.fresh-table.ensures c.open.ensures _ _ c.give_up.ensures _ _ _ c.reply.ensures
