-- Well-formed UTF-8: the grammar of RFC 3629, section 4, octet by octet. A row of it is an alternative of UTF8-1, UTF8-2, UTF8-3 or UTF8-4.
use Rattle.std.specs.Prelude.{Bool, true, false, cond, ℕ, zero, suc}
use mathlib.Core.List.{List, [], ◌∷◌, foldl}
use Rattle.octets.specs.Ranges.{is_between}
use Rattle.utf8.specs.declared.Stage.{Stage}
use Rattle.utf8.specs.declared.Stage.TheVariants.{Between, Expecting, Wrong}

-- ---- what must follow a character's first octet

-- UTF8-tail, so many times: %x80-BF
unfoldable pub tails : ℕ → Stage
tails zero = Between
tails (suc n) = Expecting 0x80 0xBF n

-- a row: first octets from one number to another, and the stage behind them
pub record Lead : Type 0 where
  pub from : ℕ
  pub to : ℕ
  pub stage : Stage

abbrev pub lead : ℕ → ℕ → Stage → Lead
lead from to stage = record { from = from; to = to; stage = stage }

-- the nine rows; %xE0 %xA0-BF UTF8-tail is the third
unfoldable pub leads : List Lead
leads =
    lead 0x00 0x7F Between ∷
    lead 0xC2 0xDF (tails 1) ∷
    lead 0xE0 0xE0 (Expecting 0xA0 0xBF 1) ∷
    lead 0xE1 0xEC (tails 2) ∷
    lead 0xED 0xED (Expecting 0x80 0x9F 1) ∷
    lead 0xEE 0xEF (tails 2) ∷
    lead 0xF0 0xF0 (Expecting 0x90 0xBF 2) ∷
    lead 0xF1 0xF3 (tails 3) ∷
    lead 0xF4 0xF4 (Expecting 0x80 0x8F 2) ∷
    []

-- by the row that an octet is in; an octet in none begins no character
unfoldable pub lead_in : List Lead → ℕ → Stage
lead_in [] x = Wrong
lead_in (r ∷ rs) x = cond (is_between r.from r.to x) r.stage (lead_in rs x)

-- ---- octet by octet

-- an octet that is expected must be in its range
unfoldable pub step : Stage → ℕ → Stage
step Between x = lead_in leads x
step (Expecting low high n) x = cond (is_between low high x) (tails n) Wrong
step Wrong x = Wrong

-- nothing may be expected at the end
unfoldable pub ends : Stage → Bool
ends Between = true
ends (Expecting low high n) = false
ends Wrong = false

unfoldable pub is_utf8 : List ℕ → Bool
is_utf8 xs = ends (foldl step Between xs)
