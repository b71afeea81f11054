-- PROMISE: no stranger, that is, no reply is matched to a question that it doesn't answer. Of every run from a fresh table with nothing in
-- flight, each reply that was matched, in time or late, answers the question that the host had opened its number for.
use mathlib.Core.Logic.{⊎_elim}
use mathlib.Core.Path.{◌≡◌}
use mathlib.Core.List.Memᴰ
use mathlib.Core.List.{List, [], ◌∷◌, Memᴰ}
use Prim.Native.Nat.{ℕ, ◌≤◌}
use Rattle.transactions.specs.Exchange.{Match, Event, run}
use Rattle.transactions.proofs.LawsExchange.{Right, agrees}

right_each : (ms : List Match) (m : Match) → Right ms → Memᴰ m ms → m.answers ≡ m.question ∷ []
unfolding Right
right_each [] m r i = absurd (Memᴰ.not-nil i)
right_each (x ∷ ms) m r i = ⊎_elim (λ e. rw e r.0) (λ j. right_each ms m r.1 j) (Memᴰ.cases_cons i)

pub no_stranger : (links : ℕ) → 1 ≤ links → (es : List Event) (m : Match) → Memᴰ m (run links es).matched → m.answers ≡ m.question ∷ []
no_stranger links some es m i = right_each (run links es).matched m (agrees links some es).right i
