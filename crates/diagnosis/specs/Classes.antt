-- How far a body gets, by its first octets (02, T-02).
use Rattle.std.specs.Prelude.{ℕ, ◌/◌, cond, List, eqb, ltb, length, take, Option, None, Result, Ok, Err}
use Rattle.octets.specs.Body.{min_body, max_body, header_of}
use Rattle.octets.specs.Ranges.{is_between}
use Rattle.packed.specs.declared.Fault.{Fault}
use Rattle.device.specs.State.{max_links}
use Rattle.request.specs.Verdict.{step_of, status_of, cause_of, verdict as verdict_of}
use Rattle.request.specs.declared.verdict.Refusal.{Refusal}
use Rattle.request.specs.declared.verdict.Request.{Request}
use Rattle.request.specs.declared.verdict.Request.TheVariants as request
use Rattle.engine.specs.Engine.{link_of}
use Rattle.diagnosis.specs.declared.classes.Class.{Class}
use Rattle.diagnosis.specs.declared.classes.Class.TheVariants.{BadLinks, TooLong, Short, BadHeader, UnsetLink, Stopped, Noop, Reset, Reaches}

-- ---- a class by the papers' numbers: of a refusal or a fate its number, else a step of 01, Commands, and its status; 0 where there is none;
-- ---- and beside them the cause (02, T-07, "an extra item")

pub record Report : Type 0 where
  pub number : ℕ
  pub step : ℕ
  pub status : ℕ
  pub cause : Option Fault

abbrev pub refused : ℕ → Report
refused n = record { number = n; step = 0; status = 0; cause = None }

abbrev pub at_step : ℕ → ℕ → Option Fault → Report
at_step n s w = record { number = 0; step = n; status = s; cause = w }

abbrev pub reported : Class → Report
reported BadLinks = refused 14
reported TooLong = refused 4
reported Short = refused 2
reported BadHeader = refused 6
reported UnsetLink = at_step 1 6 None
reported (Stopped r) = at_step (step_of r) (status_of r) (cause_of r)
reported Noop = at_step 3 0 None
reported Reset = at_step 3 114 None
reported Reaches = at_step 6 0 None

-- ---- the class of a body

-- "whether step 1, 2, 4 or 5 stops it, with which status, or that it's a NOOP or a RESET, or that it reaches step 6": steps 2 to 5
abbrev pub verdict_class : Result Request Refusal → Class
verdict_class (Err r) = Stopped r
verdict_class (Ok request.Noop) = Noop
verdict_class (Ok request.Reset) = Reset
verdict_class (Ok (request.Reach c r start)) = Reaches

-- before them step 1, "link not set up: status 6" (01, Commands)
unfoldable pub link_class : ℕ → List ℕ → Class
link_class links h = cond (ltb (link_of h) links) (verdict_class (verdict_of h)) UnsetLink

-- "with other top bits" than 10: 6
unfoldable pub head_class : ℕ → List ℕ → Class
head_class links h = cond (eqb (header_of h / 64) 2) (link_class links h) BadHeader

-- "at most the first seven octets"
abbrev pub max_head : ℕ
max_head = 7

-- "Bodies under two octets, over 1,300, or with other top bits get fates 2, 4 and 6 (4 first). Links outside 1 to 4 are 14, before all else."
unfoldable pub class_of : ℕ → List ℕ → Class
class_of links b =
    cond (is_between 1 max_links links)
    (cond (ltb max_body (length b)) TooLong (cond (ltb (length b) min_body) Short (head_class links (take max_head b))))
    BadLinks
