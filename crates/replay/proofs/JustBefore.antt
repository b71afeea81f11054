-- PROMISE: the line for a record from the box is "`yes` if the record just before is to-box and this is its reply, else `no`", told by the
-- records alone: the reply is the engine's, on the box that the bodies before it leave.
use mathlib.Core.Bool.{Bool, true, false}
use mathlib.Core.Path.{◌≡◌, refl, sym, ap, ◌∙◌}
use mathlib.Core.List.{List, [], ◌∷◌, ◌++◌, append-nil, foldl-append}
use Prim.Native.Nat.{◌/◌, ◌≤◌}
use native.Mathlib.Omega.{arith}
use borrow.Author.Tests.{eq-eqb, ne_eqb, eqb-true}
use lib.Dec.{eqb}
use lib.ListN.{length}
use Rattle.octets.specs.Body.{header_of}
use Rattle.octets.specs.Comparing.{is_same}
use Rattle.octets.proofs.LawsComparing.{same_self, same_equal}
use Rattle.octets.proofs.LawsRuns.{emitted_append}
use Rattle.octets.proofs.LawsTests.{by_test}
use Rattle.capture.specs.Records.{Entry}
use Rattle.device.specs.declared.state.Device.{Device}
use Rattle.engine.specs.Engine.{engine}
use Rattle.engine.specs.Merged.{device_after}
use Rattle.engine.proofs.RepliesInOrder.{device_append}
use Rattle.replay.specs.Play.{State, silent, delivered, next, line_for, after_all, lines_from, replayed, request_in, requests_in, IsReply}

-- ---- the box behind some records

box_next : (s : State) (e : Entry) → (next s e).device ≡ device_after s.device (request_in e)
unfolding next delivered request_in device_after
box_next s e =
    by_test (eqb e.direction 0)
    (λ t. by_test (eqb (header_of e.body / 64) 2) (λ h. rw (t, h)) (λ h. rw (t, h)))
    (λ t. rw t)

box_after : (s : State) (es : List Entry) → (after_all s es).device ≡ device_after s.device (requests_in es)
unfolding after_all requests_in device_after
box_after s [] = refl
box_after s (e ∷ es) =
    box_after (next s e) es
    ∙ ap (λ d. device_after d (requests_in es)) (box_next s e)
    ∙ sym (device_append s.device (request_in e) (requests_in es))

-- ---- the reply behind some records

module _ (d : Device) (before : List Entry) (q : Entry) where
  behind : after_all (silent d) (before ++ (q ∷ [])) ≡ next (after_all (silent d) before) q
  unfolding after_all
  behind = foldl-append next (silent d) before (q ∷ [])

  -- of a body that reached the box
  expected : q.direction ≡ 0 → header_of q.body / 64 ≡ 2
      → (after_all (silent d) (before ++ (q ∷ []))).reply ≡ (engine (device_after d (requests_in before)) q.body).reply
  unfolding next delivered
  expected to top =
      ap (λ s. s.reply) behind
      ∙ rw (eq-eqb q.direction 0 to, eq-eqb (header_of q.body / 64) 2 top, box_after (silent d) before)

  -- of any other, none
  from_there : eqb q.direction 0 ≡ false → (after_all (silent d) (before ++ (q ∷ []))).reply ≡ []
  unfolding next
  from_there t = ap (λ s. s.reply) behind ∙ rw t

  dropped : eqb q.direction 0 ≡ true → eqb (header_of q.body / 64) 2 ≡ false → (after_all (silent d) (before ++ (q ∷ []))).reply ≡ []
  unfolding next delivered
  dropped t h = ap (λ s. s.reply) behind ∙ rw (t, h)

-- ---- the last record

data Last : List Entry → Type 0 where
  none : Last []
  one_more : (before : List Entry) (q : Entry) → Last (before ++ (q ∷ []))

last_of : (es : List Entry) → Last es
last_of [] = none
last_of (e ∷ es) = further (last_of es)
  where
    further : {es : List Entry} → Last es → Last (e ∷ es)
    further none = one_more [] e
    further (one_more before q) = one_more (e ∷ before) q

-- a reply behind some records, which has octets, is one to the last of them
answered : (d : Device) {es : List Entry} (a : Entry) → Last es → 2 ≤ length a.body → (after_all (silent d) es).reply ≡ a.body → IsReply d es a
unfolding after_all
answered d a none least e = absurd (omega (arith, ap length e))
answered d a (one_more before q) least e =
    by_test (eqb q.direction 0)
    (λ t. by_test (eqb (header_of q.body / 64) 2)
    (λ h. let to = eqb-true q.direction 0 t in
    let top = eqb-true (header_of q.body / 64) 2 h in
    record { before = before; request = q; just_before = refl; goes_to_box = to; top = top; reply = sym e ∙ expected d before q to top })
    (λ h. absurd (omega (arith, ap length (sym (dropped d before q t h) ∙ e)))))
    (λ t. absurd (omega (arith, ap length (sym (from_there d before q t) ∙ e))))

-- ---- the lines

module _ (d : Device) (es : List Entry) (a : Entry) where
  line_of : lines_from (silent d) (es ++ (a ∷ [])) ≡ lines_from (silent d) es ++ line_for (after_all (silent d) es) a
  unfolding lines_from after_all
  line_of =
      emitted_append line_for next (silent d) es (a ∷ [])
      ∙ ap (λ l. lines_from (silent d) es ++ l) (append-nil (line_for (after_all (silent d) es) a))

  -- a record to the box has none
  pub no_line : a.direction ≡ 0 → replayed d (es ++ (a ∷ [])) ≡ replayed d es
  unfolding line_for
  no_line to = line_of ∙ rw (eq-eqb a.direction 0 to, append-nil (lines_from (silent d) es))

  module _ (from : a.direction ≡ 1) where
    compared : {b : Bool} → is_same (after_all (silent d) es).reply a.body ≡ b → replayed d (es ++ (a ∷ [])) ≡ replayed d es ++ (b ∷ [])
    unfolding line_for
    compared e = line_of ∙ rw (ne_eqb a.direction 0 (λ z. omega arith), e)

    pub yes_when : IsReply d es a → replayed d (es ++ (a ∷ [])) ≡ replayed d es ++ (true ∷ [])
    yes_when w =
        compared
        (rw (w.just_before, expected d w.before w.request w.goes_to_box w.top, ← w.reply) (same_self a.body))

    pub no_else : 2 ≤ length a.body → (IsReply d es a → ⊥) → replayed d (es ++ (a ∷ [])) ≡ replayed d es ++ (false ∷ [])
    no_else least other =
        by_test (is_same (after_all (silent d) es).reply a.body)
        (λ t. absurd (other (answered d a (last_of es) least (same_equal _ _ t))))
        (λ t. compared t)
