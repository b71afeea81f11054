-- PROMISE: a run worked out by hand, the case that the user tells (00). Sixteen questions are tried on link 1, and fifteen are asked. The
-- first is given up, and still nothing can be asked. Its reply comes, and is matched to it; only now its number is free, and is used for a
-- sixteenth question, which gets its own reply. Something that nobody asked for arrives on the way and changes nothing. At last a reset
-- frees all numbers, also that of a question which the box left unanswered.
use mathlib.Core.Path.{◌≡◌, refl}
use mathlib.Core.List.{List, [], ◌∷◌, ◌++◌}
use Prim.Native.Nat.{ℕ}
use lib.ListN.{length, replicate}
use Rattle.octets.specs.Comparing.{is_same, common_front}
use Rattle.transactions.specs.Kind.{kind}
use Rattle.transactions.specs.Table.{free, given_up, mark_at, any_both, rules, first_free, lowest, fresh, after_open, after_reset, after_give_up, after_reply}
use Rattle.transactions.specs.Exchange.{is_reset, body_of, Match, may_send, asking, matching, answering, dropping, delivering, Event, ask, give_up, ask_leave, send_reset, answer, drop_request, send_unsolicited, deliver, step, run}

-- sixteen times: GET of the channel
abbrev pub asks : List Event
asks = replicate 16 (ask 1 (0x02 ∷ 0x21 ∷ []))

abbrev pub gives_up : List Event
gives_up = asks ++ (give_up 1 ∷ ask 1 (0x02 ∷ 0x21 ∷ []) ∷ [])

-- the box answers them all, and the first reply arrives
abbrev pub comes_late : List Event
comes_late = gives_up ++ replicate 15 (answer (0x06 ∷ 0x21 ∷ 0x0b ∷ [])) ++ (deliver ∷ [])

-- a last status comes unasked, on link 1; GET of whether the interface is up is asked under number 1 and answered
abbrev pub used_again : List Event
used_again = comes_late ++ (send_unsolicited (0x90 ∷ 0x06 ∷ 0x00 ∷ 0x72 ∷ []) ∷ ask 1 (0x02 ∷ 0x41 ∷ []) ∷ answer (0x06 ∷ 0x41 ∷ 0x01 ∷ []) ∷ [])

-- all of it arrives
abbrev pub all_arrived : List Event
all_arrived = used_again ++ replicate 16 deliver

-- one more is asked and stays unanswered; while a reset is under way none can be asked
abbrev pub resets : List Event
resets = all_arrived ++ (ask 1 (0x02 ∷ 0x21 ∷ []) ∷ ask_leave ∷ ask 1 (0x02 ∷ 0x21 ∷ []) ∷ send_reset ∷ drop_request ∷ answer [] ∷ deliver ∷ [])

abbrev right : ℕ → Match
right q = record { question = q; answers = q ∷ [] }

pub record Worked : Type 0 where
  pub fifteen : (run 2 asks).asked ≡ 15
  pub full : lowest (run 2 asks).numbers ≡ 16
  pub still_full : (run 2 gives_up).asked ≡ 15
  pub marked : mark_at (run 2 gives_up).numbers 1 ≡ given_up
  pub late_matched : (run 2 comes_late).matched ≡ right 0 ∷ []
  pub freed : mark_at (run 2 comes_late).numbers 1 ≡ free
  pub again : (run 2 used_again).notes 1 ≡ 15
  pub on_their_way : length (run 2 used_again).responses ≡ 16
  pub all_matched : (run 2 all_arrived).matched
      ≡ right 15 ∷ right 14 ∷ right 13 ∷ right 12 ∷ right 11 ∷ right 10 ∷ right 9 ∷ right 8 ∷ right 7 ∷ right 6 ∷ right 5 ∷ right 4 ∷ right 3 ∷ right 2 ∷ right 1 ∷ right 0 ∷ []
  pub asked_in_all : (run 2 resets).asked ≡ 17
  pub matched_in_all : length (run 2 resets).matched ≡ 16
  pub all_free : (run 2 resets).numbers ≡ fresh

pub worked : Worked
unfolding run step may_send is_reset asking matching answering dropping delivering body_of kind is_same common_front after_open after_reset after_give_up after_reply rules any_both lowest first_free
worked =
    record {
      fifteen = refl;
      full = refl;
      still_full = refl;
      marked = refl;
      late_matched = refl;
      freed = refl;
      again = refl;
      on_their_way = refl;
      all_matched = refl;
      asked_in_all = refl;
      matched_in_all = refl;
      all_free = refl;
    }
