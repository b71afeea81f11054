-- What the table answers, by 02's words and numbers (T-06).
use Rattle.std.specs.Prelude.{ℕ, Result, Ok, Err}
use Rattle.transactions.specs.declared.answer.Refusal.{Refusal}
use Rattle.transactions.specs.declared.answer.Refusal.TheVariants.{BadTable, Full, NotWaiting, Resetting}
use Rattle.transactions.specs.declared.answer.Answer.{Answer}
use Rattle.transactions.specs.declared.answer.Answer.TheVariants.{Opened, Allowed, GivenUp, Answered, Late, Announced, Stray}

pub data Word : Type 0 where
  opened allowed gave_up answered late announced stray refused : Word

-- the number of a refusal, else 0; what came of the call; and the transaction number that was handed out or replied to, else 0
pub record Report : Type 0 where
  pub number : ℕ
  pub word : Word
  pub transaction : ℕ

abbrev pub says : Word → ℕ → Report
says w n = record { number = 0; word = w; transaction = n }

abbrev pub refusal : ℕ → Report
refusal n = record { number = n; word = refused; transaction = 0 }

-- ---- what the code gives

abbrev pub refusal_number : Refusal → ℕ
refusal_number BadTable = 11
refusal_number Full = 31
refusal_number NotWaiting = 32
refusal_number Resetting = 33

abbrev pub answer_report : Answer → Report
answer_report (Opened n) = says opened n
answer_report Allowed = says allowed 0
answer_report GivenUp = says gave_up 0
answer_report (Answered n) = says answered n
answer_report (Late n) = says late n
answer_report Announced = says announced 0
answer_report Stray = says stray 0

abbrev pub reported : Result Answer Refusal → Report
reported (Ok a) = answer_report a
reported (Err why) = refusal (refusal_number why)
