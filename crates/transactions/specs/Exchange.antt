-- Host, cable and box (02, T-06): what is asked, sent, replied and matched. A question has an identity that no octet carries, so that it can be
-- said which question a reply answers, and to which one the host matches it.
use Rattle.std.specs.Prelude.{Bool, true, false, cond, not, ◌&&◌, ℕ, suc, ◌%◌, ◌/◌, eqb, ltb, get_or}
use mathlib.Core.List.{List, [], ◌∷◌, ◌++◌, foldl}
use Rattle.octets.specs.Body.{header_of}
use Rattle.transactions.specs.declared.kind.BodyKind.{BodyKind}
use Rattle.transactions.specs.declared.kind.BodyKind.TheVariants.{Announcement, Reply, Other}
use Rattle.transactions.specs.Answer.{Word, opened, allowed, gave_up, answered, late, announced, stray, refused}
use Rattle.transactions.specs.Kind.{announcement, kind}
use Rattle.transactions.specs.Table.{Numbers, fresh, after_open, after_reset, after_give_up, after_reply}
use Rattle.transactions.specs.Writing.{header, reset_body}

-- ---- to the box

-- a command under a number, for a question, or a reset. The box sees the octets alone
pub data Request : Type 0 where
  command : (link number question : ℕ) (rest : List ℕ) → Request
  reset : Request

abbrev pub octets_of : Request → List ℕ
octets_of (command link number question rest) = header link number ∷ rest
octets_of reset = reset_body

-- 01, Whole histories: "A reset is a checked body, on a link set up, whose second octet is 01."
unfoldable pub is_reset : ℕ → List ℕ → Bool
is_reset links b = eqb (get_or b 1 0) 1 && ltb (header_of b % 64 / 16) links

-- ---- from the box

-- a reply to a request, with any octets behind its header, or something that nobody asked for
pub data Response : Type 0 where
  reply : (to : Request) (rest : List ℕ) → Response
  unsolicited : List ℕ → Response

-- 01, Commands: "A reply repeats the request's header .. save RESET's", which "announces 80 06 00 72"
unfoldable pub body_of : ℕ → Response → List ℕ
body_of links (reply c rest) = cond (is_reset links (octets_of c)) announcement (header_of (octets_of c) ∷ rest)
body_of links (unsolicited body) = body

-- the question that it answers, if there is one
abbrev pub question_of : Request → List ℕ
question_of (command link number question rest) = question ∷ []
question_of reset = []

abbrev pub answers_to : Response → List ℕ
answers_to (reply c rest) = question_of c
answers_to (unsolicited body) = []

-- what nobody asked for goes under number 0 (003: "All unsolicited or asynchronous commands originating from the NCP MUST use TID zero (0)") and
-- is no announcement: "a box that resets only when asked"
abbrev pub may_be_unsolicited : BodyKind → Bool
may_be_unsolicited Announcement = false
may_be_unsolicited (Reply n) = eqb n 0
may_be_unsolicited Other = true

-- ---- both ends and the cable between them

-- a reply that was matched: the question that the host had opened its number for, and the one that it answers, if any
pub record Match : Type 0 where
  pub question : ℕ
  pub answers : List ℕ

pub record Exchange : Type 0 where
  pub numbers : Numbers  -- the host's table
  pub notes : ℕ → ℕ  -- the host's own notes: the question that it opened each number for
  pub asked : ℕ  -- how many questions were asked, which is the next one's identity
  pub leave : Bool  -- the table allowed a reset, and the host has not sent it yet
  pub requests : List Request  -- on their way to the box, the oldest first
  pub responses : List Response  -- on their way to the host, the oldest first
  pub matched : List Match  -- the newest first

-- "from a fresh desk with nothing in flight"
abbrev pub start : Exchange
start = record { numbers = fresh; notes = λ n. 0; asked = 0; leave = false; requests = []; responses = []; matched = [] }

-- the requests in flight, the oldest first: those whose reply is on its way, then those on their way to the box
unfoldable pub in_flight : List Response → List Request → List Request
in_flight [] cs = cs
in_flight (reply c rest ∷ ss) cs = c ∷ in_flight ss cs
in_flight (unsolicited body ∷ ss) cs = in_flight ss cs

-- ---- what the host does

-- a number that a call handed out, and one that a reply was matched to, in time or late
abbrev pub handed_out : Word → ℕ → List ℕ
handed_out opened n = n ∷ []
handed_out allowed n = []
handed_out gave_up n = []
handed_out answered n = []
handed_out late n = []
handed_out announced n = []
handed_out stray n = []
handed_out refused n = []

abbrev pub matched_to : Word → ℕ → List ℕ
matched_to opened n = []
matched_to allowed n = []
matched_to gave_up n = []
matched_to answered n = n ∷ []
matched_to late n = n ∷ []
matched_to announced n = []
matched_to stray n = []
matched_to refused n = []

abbrev pub is_allowed : Word → Bool
is_allowed opened = false
is_allowed allowed = true
is_allowed gave_up = false
is_allowed answered = false
is_allowed late = false
is_allowed announced = false
is_allowed stray = false
is_allowed refused = false

-- under a number the host sends, on links 0 to 3, what is no reset; which number it is does not matter to that
unfoldable pub may_send : ℕ → ℕ → List ℕ → Bool
may_send links link rest = ltb link 4 && not (is_reset links (header link 0 ∷ rest))

abbrev pub noted : (ℕ → ℕ) → ℕ → ℕ → ℕ → ℕ
noted notes n question m = cond (eqb m n) question (notes m)

unfoldable pub matching : Exchange → List ℕ → List ℕ → List Match
matching w [] answers = w.matched
matching w (n ∷ ns) answers = record { question = w.notes n; answers = answers } ∷ w.matched

abbrev pub with_table : Exchange → Numbers → Bool → Exchange
with_table w d leave =
    record {
      numbers = d;
      notes = w.notes;
      asked = w.asked;
      leave = leave;
      requests = w.requests;
      responses = w.responses;
      matched = w.matched;
    }

abbrev pub with_cable : Exchange → List Request → List Response → Exchange
with_cable w cs ss =
    record {
      numbers = w.numbers;
      notes = w.notes;
      asked = w.asked;
      leave = w.leave;
      requests = cs;
      responses = ss;
      matched = w.matched;
    }

-- a question is asked under the number that was handed out, if one was, with the table that is left
unfoldable pub asking : Exchange → ℕ → List ℕ → Numbers → List ℕ → Exchange
asking w link rest d [] = with_table w d w.leave
asking w link rest d (n ∷ ns) =
    record {
      numbers = d;
      notes = noted w.notes n w.asked;
      asked = suc w.asked;
      leave = w.leave;
      requests = w.requests ++ (command link n w.asked rest ∷ []);
      responses = w.responses;
      matched = w.matched;
    }

-- the oldest request is answered, once, behind all that is on its way; or it is not
unfoldable pub answering : Exchange → List ℕ → List Request → Exchange
answering w rest [] = w
answering w rest (c ∷ cs) = with_cable w cs (w.responses ++ (reply c rest ∷ []))

unfoldable pub dropping : Exchange → List Request → Exchange
dropping w [] = w
dropping w (c ∷ cs) = with_cable w cs w.responses

-- the oldest response reaches the host's table
unfoldable pub delivering : ℕ → Exchange → List Response → Exchange
delivering links w [] = w
delivering links w (s ∷ ss) =
    let r = after_reply w.numbers (body_of links s) in
    record {
      numbers = r.numbers;
      notes = w.notes;
      asked = w.asked;
      leave = w.leave;
      requests = w.requests;
      responses = ss;
      matched = matching w (matched_to r.report.word r.report.transaction) (answers_to s);
    }

-- ---- events

pub data Event : Type 0 where
  ask : (link : ℕ) (rest : List ℕ) → Event  -- the host opens a number, and sends a command under it at once
  give_up : ℕ → Event  -- the host gives a number up
  ask_leave : Event  -- the host asks its table for leave to reset
  send_reset : Event  -- the host sends 80 01, once for each leave
  answer : List ℕ → Event  -- the box answers the oldest request
  drop_request : Event  -- the box leaves the oldest request unanswered
  send_unsolicited : List ℕ → Event  -- the box sends what nobody asked for
  deliver : Event  -- the oldest response arrives

-- what cannot happen changes nothing; `links` is the number of links set up
unfoldable pub step : ℕ → Exchange → Event → Exchange
step links w (ask link rest) =
    let r = after_open w.numbers in
    cond (may_send links link rest) (asking w link rest r.numbers (handed_out r.report.word r.report.transaction)) w
step links w (give_up n) = with_table w (after_give_up w.numbers n).numbers w.leave
step links w ask_leave =
    let r = after_reset w.numbers in
    with_table w r.numbers (cond (is_allowed r.report.word) true w.leave)
step links w send_reset = cond w.leave (with_cable (with_table w w.numbers false) (w.requests ++ (reset ∷ [])) w.responses) w
step links w (answer rest) = answering w rest w.requests
step links w drop_request = dropping w w.requests
step links w (send_unsolicited body) = cond (may_be_unsolicited (kind body)) (with_cable w w.requests (w.responses ++ (unsolicited body ∷ []))) w
step links w deliver = delivering links w w.responses

-- every list of events is a run
unfoldable pub run : ℕ → List Event → Exchange
run links es = foldl (step links) start es
