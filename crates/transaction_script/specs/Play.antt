-- An event on the table (02, T-06).
use Rattle.std.specs.Prelude.{Option, Some, None, List, ℕ, take}
use Rattle.transactions.specs.Answer.{Report, reported}
use Rattle.transactions.specs.Table.{Numbers, numbers_of, fresh, Result, after_open, after_reset, after_give_up, after_reply}
use Rattle.transaction_script.specs.declared.event.Event.{Event}
use Rattle.transaction_script.specs.declared.event.Event.TheVariants.{Nothing, Open, Reset, GiveUp, Body, Fresh, Put}
use Rattle.transaction_script.specs.declared.play.Said.{Said}
use Rattle.transaction_script.specs.declared.play.Said.TheVariants as said
use Rattle.transaction_script.specs.declared.play.Played.{Played}

-- what is printed: nothing, `ok`, `no event`, or what the table reports
pub data Printed : Type 0 where
  silence ok no_event : Printed
  report : Report → Printed

abbrev pub printed_of : Said → Printed
printed_of said.Nothing = silence
printed_of said.Done = ok
printed_of said.Unknown = no_event
printed_of (said.Answer a) = report (reported a)

pub record Outcome : Type 0 where
  pub printed : Printed
  pub numbers : Numbers

abbrev pub outcome_of : Played → Outcome
outcome_of p = record { printed = printed_of p.said; numbers = numbers_of p.table }

abbrev pub reporting : Result → Outcome
reporting r = record { printed = report r.report; numbers = r.numbers }

unfoldable pub playing : Numbers → Option Event → List ℕ → Outcome
playing d (Some Nothing) body = record { printed = silence; numbers = d }
playing d (Some Open) body = reporting (after_open d)
playing d (Some Reset) body = reporting (after_reset d)
playing d (Some (GiveUp n)) body = reporting (after_give_up d n)
playing d (Some (Body count)) body = reporting (after_reply d (take count body))
playing d (Some Fresh) body = record { printed = ok; numbers = fresh }
playing d (Some (Put t)) body = record { printed = ok; numbers = numbers_of t }
playing d None body = record { printed = no_event; numbers = d }
