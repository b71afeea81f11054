-- PROMISE: what one call gives, in closed form. From any reader that keeps its rules and any assembly buffer of 1,302 octets or more,
-- fate, octets read, reader and buffer at exit are those of the piece that the call ended in: the buffer holds its gathered octets, at
-- most 1,302, from the front, and beyond them what it held.
use mathlib.Core.Bool.{true, false, cond}
use mathlib.Core.Path.{◌≡◌, refl, sym, ap, ap₂, ◌∙◌}
use mathlib.Core.List.{List, [], ◌∷◌, ◌++◌}
use Prim.Native.Nat.{ℕ, ◌≤◌, ◌<◌}
use native.Mathlib.Omega.{arith}
use lib.ListN.{length, take, drop, length-append, take-append-drop}
use lib.Seq.{length-take-le}
use Rattle.octets.proofs.LawsTests.{by_test}
use Rattle.frame.specs.Frame.{stuffed}
use Rattle.hdlc.specs.declared.reader.Reader.{Reader}
use Rattle.hdlc.specs.Fate.{decided, later}
use Rattle.hdlc.specs.Reader.{max_gathered, fresh, gathering, overlong, assembling, run}
use Rattle.hdlc.specs.Rules.{Rules}
use Rattle.hdlc.specs.Wire.{gathered, cut_escape, piece_fate_at, grown, call}
use Rattle.hdlc.specs.States.{over, holding, open_piece, closed_form}
use Rattle.hdlc.proofs.LawsStates.{over_few, over_more, over_length, gathering_state, overlong_state, fate_piece, after_undecided, after_decided}
use Rattle.hdlc.proofs.LawsStuffing.{stuffed_gives, spelled}

-- ---- after a piece

pub call_closed : (xs p a : List ℕ) → max_gathered ≤ length a → run (holding p a) xs ≡ closed_form (call p xs) a
unfolding run call closed_form holding
call_closed [] p a room = refl
call_closed (b ∷ bs) p a room =
    by_test (decided (piece_fate_at p b))
    (λ t.
    simp (fate_piece p a b, t) (λ i. record { fate = piece_fate_at p b; read = 1; state = after_decided p a b t i }))
    (λ t.
    simp (fate_piece p a b, t, after_undecided p a b room t) (ap (later 1) (call_closed bs (grown p b) a room)))

-- ---- from any reader that keeps its rules

-- octets that were in the buffer, put over it again
over_itself : (a : List ℕ) → max_gathered ≤ length a → over (take max_gathered a) a ≡ a
over_itself a room =
    let size : length (take max_gathered a) ≡ max_gathered = length-take-le max_gathered a room in
    over_few (take max_gathered a) a (omega arith) ∙ ap (λ n. take max_gathered a ++ drop n a) size ∙ take-append-drop max_gathered a

gathering_open : (r : Reader) (a : List ℕ) → Rules r → max_gathered ≤ length a → r.discarding ≡ false → assembling r a ≡ holding (open_piece r a) a
unfolding open_piece
gathering_open r a keeps room t =
    let xs : List ℕ = take r.count a in
    let p : List ℕ = stuffed xs ++ cond r.escaped (0x7d ∷ []) [] in
    let size : length xs ≡ r.count = length-take-le r.count a (omega (arith, keeps.count)) in
    let s : (gathered p ≡ xs) × (cut_escape p ≡ r.escaped) = spelled xs r.escaped in
    let few : length (gathered p) ≤ max_gathered = omega (arith, keeps.count, ap length s.0) in
    let is : r ≡ gathering r.count r.escaped = λ i. record { count = r.count; escaped = r.escaped; discarding = t i } in
    ap (λ z. assembling z a) is
    ∙ sym
    (ap (λ z. holding (cond z (stuffed (take max_gathered a ++ (0 ∷ []))) p) a) t
    ∙ gathering_state p a few
    ∙ ap₂ (λ g z. assembling (gathering (length g) z) (g ++ drop (length g) a)) s.0 s.1
    ∙ ap (λ n. assembling (gathering n r.escaped) (xs ++ drop n a)) size
    ∙ ap (assembling (gathering r.count r.escaped)) (take-append-drop r.count a))

overlong_open : (r : Reader) (a : List ℕ) → Rules r → max_gathered ≤ length a → r.discarding ≡ true → assembling r a ≡ holding (open_piece r a) a
unfolding open_piece
overlong_open r a keeps room t =
    let xs : List ℕ = take max_gathered a in
    let p : List ℕ = stuffed (xs ++ (0 ∷ [])) in
    let size : length xs ≡ max_gathered = length-take-le max_gathered a room in
    let s : gathered p ≡ xs ++ (0 ∷ []) = (stuffed_gives (xs ++ (0 ∷ []))).0 in
    let many : max_gathered < length (gathered p) = omega (arith, ap length s, length-append xs (0 ∷ [])) in
    let is : r ≡ overlong = λ i. record { count = (keeps.discard t).0 i; escaped = (keeps.discard t).1 i; discarding = t i } in
    ap (λ z. assembling z a) is
    ∙ sym
    (ap (λ z. holding (cond z p (stuffed (take r.count a) ++ cond r.escaped (0x7d ∷ []) [])) a) t
    ∙ overlong_state p a many
    ∙ ap (assembling overlong) (ap (λ g. over g a) s ∙ over_more xs (0 ∷ []) a (omega arith) ∙ over_itself a room))

-- what is open in a reader leaves that reader
pub open_holds : (r : Reader) (a : List ℕ) → Rules r → max_gathered ≤ length a → assembling r a ≡ holding (open_piece r a) a
open_holds r a keeps room = by_test r.discarding (overlong_open r a keeps room) (gathering_open r a keeps room)

-- and nothing is open in a fresh one
pub fresh_open : (a : List ℕ) → open_piece fresh a ≡ []
unfolding open_piece stuffed
fresh_open a = refl

pub closed_form_lem : (r : Reader) (a xs : List ℕ) → Rules r → max_gathered ≤ length a → run (assembling r a) xs ≡ closed_form (call (open_piece r a) xs) a
closed_form_lem r a xs keeps room = ap (λ h. run h xs) (open_holds r a keeps room) ∙ call_closed xs (open_piece r a) a room

-- no call changes the buffer's length
pub same_room : (r : Reader) (a xs : List ℕ) → Rules r → max_gathered ≤ length a → length (run (assembling r a) xs).state.assembly ≡ length a
unfolding closed_form
same_room r a xs keeps room =
    ap (λ o. length o.state.assembly) (closed_form_lem r a xs keeps room) ∙ over_length (gathered (call (open_piece r a) xs).state) a room
