-- The host's table of transaction numbers (02, T-06). 02 calls it the desk: "It holds numbers 1 to 15, each free, waiting or given up."
use Rattle.std.specs.Prelude.{Bool, true, false, cond, not, ◌&&◌, List, [], ◌∷◌, ◌≢◌, ◌≡◌, ℕ, zero, suc, Option, Some, None, Result as RustResult, ltb, get_or, set, drop, replicate}
use Rattle.transactions.specs.declared.answer.Answer.{Answer}
use Rattle.transactions.specs.declared.answer.Refusal.{Refusal}
use Rattle.transactions.specs.declared.kind.BodyKind.{BodyKind}
use Rattle.transactions.specs.declared.kind.BodyKind.TheVariants.{Announcement, Reply, Other}
use Rattle.transactions.specs.declared.table.Step.{Step}
use Rattle.transactions.specs.declared.table.Table.{Table}
use Rattle.transactions.specs.Answer.{Report, Word, says, refusal, reported, opened, allowed, gave_up, answered, late, announced, stray}
use Rattle.transactions.specs.NumberSet.{digits}
use Rattle.transactions.specs.Kind.{kind}

-- ---- a table by what it says of each number

pub data Mark : Type 0 where
  free waiting given_up both : Mark

-- a mark for each of 0 to 15, and whether a reset is under way
pub record Numbers : Type 0 where
  pub marks : List Mark
  pub resetting : Bool

abbrev pub mark_at : Numbers → ℕ → Mark
mark_at d n = get_or d.marks n free

-- the same with another mark at a number
abbrev pub put : Numbers → ℕ → Mark → Numbers
put d n m = record { marks = set d.marks n m; resetting = d.resetting }

-- a number's mark, from its digit in the set of those that wait and its digit in the set of those given up
abbrev pub mark : ℕ → ℕ → Mark
mark zero zero = free
mark zero (suc g) = given_up
mark (suc w) zero = waiting
mark (suc w) (suc g) = both

unfoldable pub marks_of : List ℕ → List ℕ → List Mark
marks_of [] gs = []
marks_of (w ∷ ws) [] = []
marks_of (w ∷ ws) (g ∷ gs) = mark w g ∷ marks_of ws gs

unfoldable pub numbers_of : Table → Numbers
numbers_of t = record { marks = marks_of (digits 16 t.waiting) (digits 16 t.given_up); resetting = t.resetting }

abbrev pub fresh : Numbers
fresh = record { marks = replicate 16 free; resetting = false }

-- ---- its rules

abbrev pub is_free : Mark → Bool
is_free free = true
is_free waiting = false
is_free given_up = false
is_free both = false

abbrev pub is_waiting : Mark → Bool
is_waiting free = false
is_waiting waiting = true
is_waiting given_up = false
is_waiting both = false

abbrev pub is_both : Mark → Bool
is_both free = false
is_both waiting = false
is_both given_up = false
is_both both = true

unfoldable pub any_both : List Mark → Bool
any_both [] = false
any_both (m ∷ ms) = cond (is_both m) true (any_both ms)

-- broken by a table "with 0 marked, or a number both waiting and given up"
pub record Rules (d : Numbers) : Type 0 where
  pub zero : mark_at d 0 ≡ free
  pub apart : (n : ℕ) → mark_at d n ≢ both

-- the test that decides them (proofs/TableRules.antt)
unfoldable pub rules : Numbers → Bool
rules d = is_free (mark_at d 0) && not (any_both d.marks)

-- ---- the calls: what each reports, and the table after it

pub record Result : Type 0 where
  pub report : Report
  pub numbers : Numbers

abbrev pub result : RustResult Answer Refusal → Table → Result
result a t = record { report = reported a; numbers = numbers_of t }

abbrev pub result_of : Step → Result
result_of s = result s.answer s.table

abbrev pub done : Word → ℕ → Numbers → Result
done w n d = record { report = says w n; numbers = d }

abbrev pub refused : ℕ → Numbers → Result
refused n d = record { report = refusal n; numbers = d }

abbrev pub max_number : ℕ
max_number = 15

-- the place of the first free mark; the length where there is none
unfoldable pub first_free : List Mark → ℕ
first_free [] = 0
first_free (m ∷ ms) = cond (is_free m) 0 (suc (first_free ms))

-- the lowest free number from 1 on; 16 where there is none
unfoldable pub lowest : Numbers → ℕ
lowest d = suc (first_free (drop 1 d.marks))

-- the same, none where there is none
abbrev pub free_number : Numbers → Option ℕ
free_number d = cond (ltb max_number (lowest d)) None (Some (lowest d))

-- "Opening a question hands out the lowest free number .. and is refused exactly when none is free (31)"; 33 is "tried before 31", and 11 is
-- "before all else"
unfoldable pub after_open : Numbers → Result
after_open d =
    cond (not (rules d)) (refused 11 d)
    (cond d.resetting (refused 33 d)
    (cond (ltb max_number (lowest d)) (refused 31 d)
    (done opened (lowest d) (put d (lowest d) waiting))))

-- "From a reset's sending until its announcement, opening and a second reset are refused with 33": from the moment that it is allowed
unfoldable pub after_reset : Numbers → Result
after_reset d =
    cond (not (rules d)) (refused 11 d)
    (cond d.resetting (refused 33 d)
    (done allowed 0 (record { marks = d.marks; resetting = true })))

-- "Giving up, allowed only on a waiting number (else 32, outside 1 to 15 too), leaves it unusable until its reply"
unfoldable pub after_give_up : Numbers → ℕ → Result
after_give_up d n =
    cond (not (rules d)) (refused 11 d)
    (cond (is_waiting (mark_at d n)) (done gave_up 0 (put d n given_up)) (refused 32 d))

-- a reply under a number: "a waiting one is freed"; one given up "is reported as late and frees it"; "All else is stray and changes nothing"
abbrev pub by_mark : Mark → ℕ → Numbers → Result
by_mark free n d = done stray 0 d
by_mark waiting n d = done answered n (put d n free)
by_mark given_up n d = done late n (put d n free)
by_mark both n d = done stray 0 d

-- the announcement "frees all fifteen", and ends a reset
abbrev pub by_kind : BodyKind → Numbers → Result
by_kind Announcement d = done announced 0 fresh
by_kind (Reply n) d = by_mark (mark_at d n) n d
by_kind Other d = done stray 0 d

-- a body from the box
unfoldable pub after_reply : Numbers → List ℕ → Result
after_reply d b = cond (not (rules d)) (refused 11 d) (by_kind (kind b) d)
