-- PROMISE: each reply is matched. In every run, where the oldest body on its way to the host replies to a question and is a Spinel body, its
-- arrival matches it to that question. So a table that takes every reply for stray will not do.
use mathlib.Core.Path.{◌≡◌, ap, ◌∙◌}
use mathlib.Core.Bool.{true}
use mathlib.Core.List.{List, [], ◌∷◌}
use Prim.Native.Nat.{ℕ, ◌≤◌}
use Rattle.octets.specs.Body.{SpinelBody}
use Rattle.transactions.specs.Table.{rules, after_reply}
use Rattle.transactions.specs.Writing.{header}
use Rattle.transactions.specs.Exchange.{command, Response, reply, body_of, Exchange, Match, Event, deliver, in_flight, matched_to, matching, delivering, step, run}
use Rattle.transactions.proofs.LawsKind.{header_number, no_announcement, spinel_reply}
use Rattle.transactions.proofs.LawsCalls.{reply_by, mark_cases}
use Rattle.transactions.proofs.LawsFlight.{Asked, Carried}
use Rattle.transactions.proofs.LawsExchange.{Agrees, agrees}

abbrev answered_by : ℕ → Match
answered_by q = record { question = q; answers = q ∷ [] }

-- a reply to a question in flight
by_number : (links : ℕ) (w : Exchange) (l n q : ℕ) (r₀ rest : List ℕ) → rules w.numbers ≡ true → Asked links w.numbers w.notes l n q r₀
    → SpinelBody (header l n ∷ rest)
    → let r = after_reply w.numbers (header l n ∷ rest) in
    matching w (matched_to r.report.word r.report.transaction) (q ∷ []) ≡ answered_by q ∷ w.matched
unfolding matching
by_number links w l n q r₀ rest kept x spinel =
    let body = header l n ∷ rest in
    let ours = ap (λ k. record { question = k; answers = q ∷ [] } ∷ w.matched) x.ours in
    rw (reply_by w.numbers kept body, spinel_reply body spinel (no_announcement l n rest x.above), header_number l n x.below)
    (mark_cases w.numbers kept (λ r. matching w (matched_to r.report.word r.report.transaction) (q ∷ []) ≡ answered_by q ∷ w.matched) n
    (λ f. absurd (x.marked f)) (λ _. ours) (λ _. ours))

delivers : (links : ℕ) (w : Exchange) (l n q : ℕ) (r₀ rest : List ℕ) (ss : List Response)
    → Agrees links w → w.responses ≡ reply (command l n q r₀) rest ∷ ss → SpinelBody (body_of links (reply (command l n q r₀) rest))
    → (delivering links w (reply (command l n q r₀) rest ∷ ss)).matched ≡ answered_by q ∷ w.matched
unfolding delivering body_of in_flight Carried
delivers links w l n q r₀ rest ss g e spinel =
    let c = rw e at g.carried in
    rw c.0.no_reset (by_number links w l n q r₀ rest g.kept c.0 (rw c.0.no_reset at spinel))

pub each_matched : (links : ℕ) → 1 ≤ links → (es : List Event) (l n q : ℕ) (r₀ rest : List ℕ) (ss : List Response)
    → (run links es).responses ≡ reply (command l n q r₀) rest ∷ ss → SpinelBody (body_of links (reply (command l n q r₀) rest))
    → (step links (run links es) deliver).matched ≡ record { question = q; answers = q ∷ [] } ∷ (run links es).matched
unfolding step
each_matched links some es l n q r₀ rest ss e spinel =
    let w = run links es in
    ap (λ x. (delivering links w x).matched) e ∙ delivers links w l n q r₀ rest ss (agrees links some es) e spinel
