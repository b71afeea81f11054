-- PROMISE: when an announcement arrives, nothing that was asked before is in flight, and all numbers are free after it. In every run, where the
-- oldest body on its way to the host is 80 06 00 72, no request is on its way to the box, and no reply to one is on its way back behind it.
use mathlib.Core.Path.{◌≡◌, sym, ap, ◌∙◌}
use mathlib.Core.Bool.{true}
use mathlib.Core.List.{List, [], ◌∷◌}
use Prim.Native.Nat.{ℕ, ◌≤◌}
use Rattle.octets.proofs.LawsTests.{impossible}
use Rattle.transactions.specs.Kind.{announcement, kind}
use Rattle.transactions.specs.Table.{Numbers, fresh, rules, after_reply}
use Rattle.transactions.specs.Exchange.{command, reset, Response, reply, unsolicited, body_of, may_be_unsolicited, Exchange, Event, deliver, in_flight, delivering, step, run}
use Rattle.transactions.proofs.LawsKind.{announces, no_announcement}
use Rattle.transactions.proofs.LawsCalls.{reply_by}
use Rattle.transactions.proofs.LawsFlight.{Carried}
use Rattle.transactions.proofs.LawsExchange.{Unasked, Agrees, agrees}

none_behind : (links : ℕ) (w : Exchange) (s : Response) (ss : List Response) → Agrees links w → w.responses ≡ s ∷ ss → body_of links s ≡ announcement
    → in_flight ss w.requests ≡ []
unfolding body_of in_flight Carried Unasked
none_behind links w (reply (command l n q r₀) rest) ss g e is =
    let c = rw e at g.carried in
    absurd (no_announcement l n rest c.0.above (rw c.0.no_reset at is))
none_behind links w (reply reset rest) ss g e is = let c = rw e at g.carried in c.2
none_behind links w (unsolicited b) ss g e is =
    let q = rw e at g.unasked in
    let loud = ap (λ x. may_be_unsolicited (kind x)) is ∙ ap may_be_unsolicited announces in
    let z = sym q.0 ∙ loud in
    impossible cc

frees : (d : Numbers) → rules d ≡ true → (after_reply d announcement).numbers ≡ fresh
frees d kept = rw (reply_by d kept announcement, announces)

pub nothing_older : (links : ℕ) → 1 ≤ links → (es : List Event) (s : Response) (ss : List Response)
    → (run links es).responses ≡ s ∷ ss → body_of links s ≡ announcement
    → (in_flight ss (run links es).requests ≡ []) × ((step links (run links es) deliver).numbers ≡ fresh)
unfolding step delivering
nothing_older links some es s ss e is =
    let w = run links es in
    let g = agrees links some es in
    (none_behind links w s ss g e is, ap (λ x. (delivering links w x).numbers) e ∙ ap (λ b. (after_reply w.numbers b).numbers) is ∙ frees w.numbers g.kept)
