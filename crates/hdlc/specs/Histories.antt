-- The reader's calls one after the other.
use Rattle.std.specs.Prelude.{cond, ℕ, zero, suc, length, drop}
use mathlib.Core.List.{List, [], ◌∷◌, foldl}
use Rattle.octets.specs.Runs.{emitted}
use Rattle.hdlc.specs.Fate.{Fated, decided, given}
use Rattle.hdlc.specs.Reader.{Assembling, run}

-- each call is lent what the last one left: what they tell, and what the last one leaves
unfoldable pub calls_tell : Assembling → List (List ℕ) → List Fated
calls_tell h xss = emitted (λ s xs. given (run s xs).fate) (λ s xs. (run s xs).state) h xss

unfoldable pub calls_leave : Assembling → List (List ℕ) → Assembling
calls_leave h xss = foldl (λ s xs. (run s xs).state) h xss

-- a chunk is offered to a call, and what the call left unread is offered again, until a call gives no fate; at most so many calls
unfoldable pub offers : ℕ → Assembling → List ℕ → List (List ℕ)
offers zero h xs = []
offers (suc n) h xs = xs ∷ cond (decided (run h xs).fate) (offers n (run h xs).state (drop (run h xs).read xs)) []

-- a call that gives a fate reads an octet at least: so many calls are enough
unfoldable pub offered : Assembling → List ℕ → List (List ℕ)
offered h xs = offers (suc (length xs)) h xs

-- chunks, each offered until it is used up
unfoldable pub chunked : Assembling → List (List ℕ) → List (List ℕ)
chunked h xss = emitted offered (λ s xs. calls_leave s (offered s xs)) h xss
