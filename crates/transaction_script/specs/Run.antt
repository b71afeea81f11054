-- The script, octet by octet.
use Rattle.std.specs.Prelude.{cond, ℕ, eqb}
use mathlib.Core.List.{List, foldl}
use Rattle.transactions.specs.Table.{Numbers, numbers_of}
use Rattle.transaction_script.specs.declared.run.Script.{Script}
use Rattle.transaction_script.specs.Line.{Coming, coming, fresh, taking, event_at}
use Rattle.transaction_script.specs.Play.{Outcome, playing}

abbrev pub line_end : ℕ
line_end = 0x0a

-- the table, and the line that is coming in
pub record State : Type 0 where
  pub numbers : Numbers
  pub coming : Coming

abbrev pub state_of : Script → List ℕ → State
state_of s space = record { numbers = numbers_of s.table; coming = coming s.line space }

-- what is printed when the line ends, and the table then
unfoldable pub ends : State → Outcome
ends s = playing s.numbers (event_at s.coming.line) s.coming.space

unfoldable pub after_line : State → State
after_line s = record { numbers = (ends s).numbers; coming = coming fresh s.coming.space }

unfoldable pub after_octet : State → ℕ → State
after_octet s c = cond (eqb c line_end) (after_line s) (record { numbers = s.numbers; coming = taking s.coming c })

unfoldable pub after_octets : State → List ℕ → State
after_octets s xs = foldl after_octet s xs
