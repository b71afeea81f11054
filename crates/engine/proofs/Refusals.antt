-- PROMISE: "A refusal changes only that link's last status. NOOP sets it to 0; other successes leave it." RESET "puts all links and the
-- power state to defaults, every last status to 114, and announces 80 06 00 72". A link that is not set up changes nothing.
use mathlib.Core.Path.{◌≡◌}
use mathlib.Core.Bool.{true, false}
use mathlib.Core.List.{List, [], ◌∷◌}
use Prim.Native.Nat.{ℕ}
use lib.ListN.{set}
use Rattle.octets.specs.Body.{header_of}
use Rattle.device.specs.State.{fresh}
use Rattle.device.specs.Rules.{settings_rule, link_rule}
use Rattle.device.specs.declared.state.Link.{Link}
use Rattle.device.specs.declared.state.Device.{Device}
use Rattle.device.specs.declared.view.View.{View}
use Rattle.device.specs.declared.view.Effect.{Effect}
use Rattle.device.specs.View.{view_of}
use Rattle.reply.specs.Reply.{status_reply}
use Rattle.command.specs.Decision.{with_status, stopped, noop, reset, success, judged, status_decision, decision_of, decide}
use Rattle.command.proofs.LawsJudged.{judged_sound}
use Rattle.engine.specs.Engine.{link_of, is_set_up, affect, settled, engine}

-- the box with one link's last status changed
abbrev pub status_set : Device → ℕ → ℕ → Device
status_set d k s = record { settings = d.settings; power = d.power; links = set d.links k (with_status (view_of k d).link s) }

module _ (d : Device) (b : List ℕ) (up : is_set_up d.settings b ≡ true) where
  pub refusal_status : (s : ℕ) → judged (view_of (link_of b) d) b ≡ stopped s
      → engine d b ≡ record { device = status_set d (link_of b) s; reply = status_reply (header_of b) s }
  unfolding engine settled decide decision_of status_decision affect
  refusal_status s e = rw (up, e)

  pub noop_status : judged (view_of (link_of b) d) b ≡ noop
      → engine d b ≡ record { device = status_set d (link_of b) 0; reply = status_reply (header_of b) 0 }
  unfolding engine settled decide decision_of status_decision affect
  noop_status e = rw (up, e)

  -- "Fresh equals after reset"
  pub reset_status_lem : judged (view_of (link_of b) d) b ≡ reset
      → engine d b ≡ record { device = fresh d.settings; reply = 0x80 ∷ 0x06 ∷ 0x00 ∷ 0x72 ∷ [] }
  unfolding engine settled decide decision_of affect status_reply
  reset_status_lem e = rw (up, e)

-- a success other than NOOP and RESET leaves the last status that the link had
pub success_status : (v : View) (b : List ℕ) (e : Effect) (l : Link) (reply : List ℕ)
    → settings_rule v.settings ≡ true → link_rule v.link ≡ true → judged v b ≡ success e l reply → l.status ≡ v.link.status
success_status v b e l reply s t j = (rw j at (judged_sound v s t b)).1

pub not_set_up : (d : Device) (b : List ℕ) → is_set_up d.settings b ≡ false
    → engine d b ≡ record { device = d; reply = status_reply (header_of b) 6 }
unfolding engine
not_set_up d b e = rw e
