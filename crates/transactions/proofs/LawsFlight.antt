-- What is in flight between host and box agrees with the table and with the host's notes.
use mathlib.Core.Logic.{◌≢◌}
use mathlib.Core.Path.{◌≡◌, refl, sym, ap, ◌∙◌}
use mathlib.Core.Bool.{Bool, true, false}
use mathlib.Core.List.{List, [], ◌∷◌, ◌++◌}
use Prim.Native.Nat.{ℕ, ◌<◌}
use native.Mathlib.Omega.{arith}
use borrow.Author.Tests.{eqb-true, eqb-false, eq-eqb, ne_eqb}
use lib.Dec.{eqb}
use lib.ListN.{length, get_or, set}
use lib.Seq.{get_or-set_same, get_or-set_other}
use Rattle.octets.proofs.LawsTests.{by_test, impossible}
use Rattle.transactions.specs.Table.{Mark, free, waiting, given_up, Numbers, mark_at, put}
use Rattle.transactions.specs.Exchange.{Request, command, reset, octets_of, is_reset, Response, reply, unsolicited, in_flight, noted}

-- no question in flight is under number n
unfoldable pub Absent : ℕ → List Request → Type 0
Absent n [] = Unit {0}
Absent n (command l m q rest ∷ cs) = (m ≢ n) × Absent n cs
Absent n (reset ∷ cs) = Absent n cs

-- a question in flight: its number is marked, and the host's notes have it there
pub record Asked (links : ℕ) (d : Numbers) (notes : ℕ → ℕ) (l n q : ℕ) (rest : List ℕ) : Type 0 where
  pub above : 0 < n
  pub below : n < 16
  pub link : l < 4
  pub no_reset : is_reset links (octets_of (command l n q rest)) ≡ false
  pub marked : mark_at d n ≢ free
  pub ours : notes n ≡ q

-- each question in flight is so, and alone under its number; a reset is the last thing in flight, and is under way
unfoldable pub Carried : ℕ → Numbers → (ℕ → ℕ) → Bool → List Request → Type 0
Carried links d notes leave [] = Unit {0}
Carried links d notes leave (command l n q rest ∷ cs) = Asked links d notes l n q rest × Absent n cs × Carried links d notes leave cs
Carried links d notes leave (reset ∷ cs) = (d.resetting ≡ true) × (leave ≡ false) × (cs ≡ [])

absent_command : (n l m q : ℕ) (rest : List ℕ) (cs : List Request) → m ≢ n → Absent n cs → Absent n (cs ++ (command l m q rest ∷ []))
unfolding Absent
absent_command n l m q rest [] h a = (h, tt)
absent_command n l m q rest (command l' m' q' rest' ∷ cs) h a = (a.0, absent_command n l m q rest cs h a.1)
absent_command n l m q rest (reset ∷ cs) h a = absent_command n l m q rest cs h a

absent_reset : (n : ℕ) (cs : List Request) → Absent n cs → Absent n (cs ++ (reset ∷ []))
unfolding Absent
absent_reset n [] a = tt
absent_reset n (command l m q rest ∷ cs) a = (a.0, absent_reset n cs a.1)
absent_reset n (reset ∷ cs) a = absent_reset n cs a

-- ---- marks

-- one changed elsewhere
marked_other : (d : Numbers) (n m : ℕ) (x : Mark) → m ≢ n → mark_at d m ≢ free → mark_at (put d n x) m ≢ free
marked_other d n m x h t e = t (sym (get_or-set_other d.marks n m x free h) ∙ e)

-- one changed to another that is not free
marked_still : (d : Numbers) (n m : ℕ) (x : Mark) → m < length d.marks → x ≢ free → mark_at d m ≢ free → mark_at (put d n x) m ≢ free
marked_still d n m x h f t =
    by_test (eqb m n)
    (λ e. let s = eqb-true m n e in λ z. f (sym (get_or-set_same d.marks m x free h) ∙ ap (λ i. get_or (set d.marks i x) m free) s ∙ z))
    (λ e. marked_other d n m x (eqb-false m n e) t)

-- the same question under another table and other notes
still_asked : {links : ℕ} {d d' : Numbers} {notes notes' : ℕ → ℕ} {l n q : ℕ} {rest : List ℕ}
    → Asked links d notes l n q rest → mark_at d' n ≢ free → notes' n ≡ notes n → Asked links d' notes' l n q rest
still_asked x t e = record { above = x.above; below = x.below; link = x.link; no_reset = x.no_reset; marked = t; ours = e ∙ x.ours }

-- ---- what the events do

module _ (links : ℕ) (d : Numbers) (notes : ℕ → ℕ) where
  -- a question is sent under a number that was free
  pub carried_ask : (leave : Bool) (l n q : ℕ) (rest : List ℕ) (cs : List Request) → 0 < n → n < 16 → length d.marks ≡ 16 → l < 4
      → is_reset links (octets_of (command l n q rest)) ≡ false → d.resetting ≡ false → mark_at d n ≡ free
      → Carried links d notes leave cs → Carried links (put d n waiting) (noted notes n q) leave (cs ++ (command l n q rest ∷ []))
  unfolding Carried Absent
  carried_ask leave l n q rest [] a b size lk nr idle f c = (
    record {
      above = a;
      below = b;
      link = lk;
      no_reset = nr;
      marked = λ e. let z = sym (get_or-set_same d.marks n waiting free (omega arith)) ∙ e in impossible cc;
      ours = rw (eq-eqb n n refl);
    },
    tt,
    tt,
  )
  carried_ask leave l n q rest (command l' m q' rest' ∷ cs) a b size lk nr idle f c =
      let x = c.0 in
      let h : m ≢ n = λ e. x.marked (ap (mark_at d) e ∙ f) in (
        still_asked x (marked_other d n m waiting h x.marked) (rw (ne_eqb m n h)),
        absent_command m l n q rest cs (λ e. h (sym e)) c.1,
        carried_ask leave l n q rest cs a b size lk nr idle f c.2,
      )
  carried_ask leave l n q rest (reset ∷ cs) a b size lk nr idle f c = let z = sym c.0 ∙ idle in impossible cc

  -- a number is given up: it stays marked
  pub carried_give_up : (leave : Bool) (n : ℕ) (cs : List Request) → length d.marks ≡ 16
      → Carried links d notes leave cs → Carried links (put d n given_up) notes leave cs
  unfolding Carried
  carried_give_up leave n [] size c = tt
  carried_give_up leave n (command l m q rest ∷ cs) size c =
      let x = c.0 in (
        still_asked x (marked_still d n m given_up (omega (arith, x.below)) (λ e. impossible cc) x.marked) refl,
        c.1,
        carried_give_up leave n cs size c.2,
      )
  carried_give_up leave n (reset ∷ cs) size c = c

  -- a number is freed under which nothing is in flight
  pub carried_free : (leave : Bool) (n : ℕ) (cs : List Request) → Absent n cs → Carried links d notes leave cs → Carried links (put d n free) notes leave cs
  unfolding Carried Absent
  carried_free leave n [] a c = tt
  carried_free leave n (command l m q rest ∷ cs) a c =
      let x = c.0 in (still_asked x (marked_other d n m free a.0 x.marked) refl, c.1, carried_free leave n cs a.1 c.2)
  carried_free leave n (reset ∷ cs) a c = c

  -- a reset is allowed, and sent
  pub carried_allow : (leave : Bool) (cs : List Request) → d.resetting ≡ false
      → Carried links d notes leave cs → Carried links (record { marks = d.marks; resetting = true }) notes true cs
  unfolding Carried
  carried_allow leave [] idle c = tt
  carried_allow leave (command l m q rest ∷ cs) idle c = (still_asked c.0 c.0.marked refl, c.1, carried_allow leave cs idle c.2)
  carried_allow leave (reset ∷ cs) idle c = let z = sym c.0 ∙ idle in impossible cc

  pub carried_reset : (cs : List Request) → d.resetting ≡ true → Carried links d notes true cs → Carried links d notes false (cs ++ (reset ∷ []))
  unfolding Carried
  carried_reset [] out c = (out, refl, refl)
  carried_reset (command l m q rest ∷ cs) out c = (still_asked c.0 c.0.marked refl, absent_reset m cs c.1, carried_reset cs out c.2)
  carried_reset (reset ∷ cs) out c = let z = c.1 in impossible cc

  pub carried_none : (leave : Bool) (cs : List Request) → cs ≡ [] → Carried links d notes leave cs
  unfolding Carried
  carried_none leave cs e = rw e tt

-- ---- the cable

pub flight_sent : (ss : List Response) (cs xs : List Request) → in_flight ss (cs ++ xs) ≡ in_flight ss cs ++ xs
unfolding in_flight
flight_sent [] cs xs = refl
flight_sent (reply c rest ∷ ss) cs xs = ap (λ l. c ∷ l) (flight_sent ss cs xs)
flight_sent (unsolicited b ∷ ss) cs xs = flight_sent ss cs xs

pub flight_answered : (ss : List Response) (c : Request) (rest : List ℕ) (cs : List Request) → in_flight (ss ++ (reply c rest ∷ [])) cs ≡ in_flight ss (c ∷ cs)
unfolding in_flight
flight_answered [] c rest cs = refl
flight_answered (reply c' rest' ∷ ss) c rest cs = ap (λ l. c' ∷ l) (flight_answered ss c rest cs)
flight_answered (unsolicited b ∷ ss) c rest cs = flight_answered ss c rest cs

pub flight_unsolicited : (ss : List Response) (b : List ℕ) (cs : List Request) → in_flight (ss ++ (unsolicited b ∷ [])) cs ≡ in_flight ss cs
unfolding in_flight
flight_unsolicited [] b cs = refl
flight_unsolicited (reply c rest ∷ ss) b cs = ap (λ l. c ∷ l) (flight_unsolicited ss b cs)
flight_unsolicited (unsolicited b' ∷ ss) b cs = flight_unsolicited ss b cs

-- a request is left unanswered
absent_dropped : (n : ℕ) (ss : List Response) (c : Request) (cs : List Request) → Absent n (in_flight ss (c ∷ cs)) → Absent n (in_flight ss cs)
unfolding in_flight Absent
absent_dropped n [] (command l m q rest) cs a = a.1
absent_dropped n [] reset cs a = a
absent_dropped n (reply (command l m q rest) rest' ∷ ss) c cs a = (a.0, absent_dropped n ss c cs a.1)
absent_dropped n (reply reset rest ∷ ss) c cs a = absent_dropped n ss c cs a
absent_dropped n (unsolicited b ∷ ss) c cs a = absent_dropped n ss c cs a

some_flight : (ss : List Response) (c : Request) (cs : List Request) → in_flight ss (c ∷ cs) ≢ []
unfolding in_flight
some_flight [] c cs e = impossible cc
some_flight (reply x rest ∷ ss) c cs e = impossible cc
some_flight (unsolicited b ∷ ss) c cs e = some_flight ss c cs e

pub carried_dropped : (links : ℕ) (d : Numbers) (notes : ℕ → ℕ) (leave : Bool) (ss : List Response) (c : Request) (cs : List Request)
    → Carried links d notes leave (in_flight ss (c ∷ cs)) → Carried links d notes leave (in_flight ss cs)
unfolding in_flight Carried
carried_dropped links d notes leave [] (command l n q rest) cs x = x.2
carried_dropped links d notes leave [] reset cs x = rw x.2 tt
carried_dropped links d notes leave (reply (command l n q rest) rest' ∷ ss) c cs x =
    (x.0, absent_dropped n ss c cs x.1, carried_dropped links d notes leave ss c cs x.2)
carried_dropped links d notes leave (reply reset rest ∷ ss) c cs x = absurd (some_flight ss c cs x.2)
carried_dropped links d notes leave (unsolicited b ∷ ss) c cs x = carried_dropped links d notes leave ss c cs x
