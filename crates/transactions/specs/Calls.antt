-- Receiving calls one after the other, each with the table, the reader and the buffer that the last one left.
use Rattle.std.specs.Prelude.{cond, ℕ, zero, suc, eqb, length, drop}
use mathlib.Core.List.{List, [], ◌∷◌, foldl}
use Rattle.octets.specs.Body.{SpinelBody}
use Rattle.octets.specs.Octets.{Octets}
use Rattle.octets.specs.Runs.{emitted}
use Rattle.hdlc.specs.declared.reader.Reader.{Reader}
use Rattle.transactions.specs.Answer.{Report}
use Rattle.transactions.specs.Table.{Numbers, after_reply}
use Rattle.transactions.specs.Receiving.{Reception, receive}

-- what stands between two calls
pub record Host : Type 0 where
  pub numbers : Numbers
  pub reader : Reader
  pub assembly : List ℕ

abbrev pub host : Numbers → Reader → List ℕ → Host
host d r a = record { numbers = d; reader = r; assembly = a }

unfoldable pub gives : Host → List ℕ → Reception
gives h xs = receive h.numbers h.reader xs h.assembly

unfoldable pub next : Host → List ℕ → Host
next h xs = let r = gives h xs in host r.numbers r.reader r.assembly

-- calls with these inputs: what the table reports, and what the last one leaves
unfoldable pub calls_report : Host → List (List ℕ) → List Report
calls_report h xss = emitted (λ s xs. (gives s xs).reports) next h xss

unfoldable pub calls_leave : Host → List (List ℕ) → Host
calls_leave h xss = foldl next h xss

-- a chunk is offered to a call, and what the call left unread is offered again, until a call tells 0; at most so many calls
unfoldable pub offers : ℕ → Host → List ℕ → List (List ℕ)
offers zero h xs = []
offers (suc n) h xs = xs ∷ cond (eqb (gives h xs).number 0) [] (offers n (next h xs) (drop (gives h xs).read xs))

-- a call that is not refused and tells another number reads an octet at least, so that so many calls are enough
unfoldable pub offered : Host → List ℕ → List (List ℕ)
offered h xs = offers (suc (length xs)) h xs

-- chunks, each offered until it is used up
unfoldable pub chunked : Host → List (List ℕ) → List (List ℕ)
chunked h xss = emitted offered (λ s xs. calls_leave s (offered s xs)) h xss

-- ---- the table told bodies one after the other, without frames

unfoldable pub bodies_report : Numbers → List (List ℕ) → List Report
bodies_report d bs = emitted (λ t b. (after_reply t b).report ∷ []) (λ t b. (after_reply t b).numbers) d bs

unfoldable pub bodies_leave : Numbers → List (List ℕ) → Numbers
bodies_leave d bs = foldl (λ t b. (after_reply t b).numbers) d bs

-- bodies that can be framed and come back
pub data Spinels : List (List ℕ) → Type 0 where
  none : Spinels []
  more : {b : List ℕ} {bs : List (List ℕ)} → SpinelBody b → Octets b → Spinels bs → Spinels (b ∷ bs)
