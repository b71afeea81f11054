-- PROMISE: the reader's rules are decided by their test and kept by every octet and every call.
use mathlib.Core.Bool.{true}
use mathlib.Core.Path.{◌≡◌, ap, ◌∙◌}
use mathlib.Core.List.{List}
use Prim.Native.Nat.{ℕ, ◌≤◌}
use native.Mathlib.Omega.{arith}
use borrow.Author.Tests.{ltb-false, eqb-true, le-ltb, eq-eqb}
use lib.Dec.{ltb}
use lib.ListN.{length}
use Rattle.octets.proofs.LawsTests.{by_test, impossible}
use Rattle.hdlc.specs.declared.reader.Reader.{Reader}
use Rattle.hdlc.specs.Fate.{decided}
use Rattle.hdlc.specs.Reader.{max_gathered, fresh, Assembling, assembling, after_octet, run}
use Rattle.hdlc.specs.Rules.{Rules, rules}
use Rattle.hdlc.specs.Wire.{gathered, piece_fate_at, grown, call}
use Rattle.hdlc.specs.States.{reader_after, holding, open_piece, closed_form}
use Rattle.hdlc.proofs.LawsStates.{after_undecided, after_decided}
use Rattle.hdlc.proofs.ClosedForm.{open_holds, closed_form_lem}

-- ---- the test decides the rules

pub rules_told : (r : Reader) → rules r ≡ true → Rules r
unfolding rules
rules_told r =
    by_test (ltb max_gathered r.count) (λ t. simp t (λ e. impossible cc))
    (λ t. simp t
    (by_test r.discarding
    (λ d. simp d
    (by_test r.escaped (λ x. simp x (λ e. impossible cc))
    (λ x. simp x (λ e. record { count = ltb-false _ _ t; discard = λ _. (eqb-true _ _ e, x) }))))
    (λ d. simp d (λ e. record { count = ltb-false _ _ t; discard = λ yes-d. impossible cc }))))

pub rules_hold : (r : Reader) → Rules r → rules r ≡ true
unfolding rules
rules_hold r keeps =
    simp (le-ltb max_gathered r.count keeps.count)
    (by_test r.discarding (λ d. simp (d, (keeps.discard d).1, eq-eqb _ _ (keeps.discard d).0)) (λ d. simp d))

pub fresh_rules : Rules fresh
fresh_rules = record { count = omega arith; discard = λ d. impossible cc }

-- ---- they are kept

reader_after_lem : (p : List ℕ) → rules (reader_after p) ≡ true
unfolding reader_after rules
reader_after_lem p = by_test (ltb max_gathered (length (gathered p))) (λ t. simp t) (λ t. simp t)

pub after_rules : (h : Assembling) (b : ℕ) → max_gathered ≤ length h.assembly → rules h.reader ≡ true → rules (after_octet h b).reader ≡ true
unfolding holding rules
after_rules h b room e =
    let p = open_piece h.reader h.assembly in
    ap (λ z. rules (after_octet z b).reader) (open_holds h.reader h.assembly (rules_told h.reader e) room)
    ∙ by_test (decided (piece_fate_at p b)) (λ t. ap (λ z. rules z.reader) (after_decided p h.assembly b t))
    (λ t. ap (λ z. rules z.reader) (after_undecided p h.assembly b room t) ∙ reader_after_lem (grown p b))

pub run_rules : (r : Reader) (a xs : List ℕ) → Rules r → max_gathered ≤ length a → rules (run (assembling r a) xs).state.reader ≡ true
unfolding closed_form rules
run_rules r a xs keeps room =
    let c = call (open_piece r a) xs in
    ap (λ o. rules o.state.reader) (closed_form_lem r a xs keeps room)
    ∙ by_test (decided c.fate) (λ t. simp t) (λ t. simp t (reader_after_lem c.state))
