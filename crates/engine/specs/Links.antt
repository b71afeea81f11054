-- What one link has of a history, whatever carries it (01, Whole histories).
use Rattle.std.specs.Prelude.{ℕ, Bool, cond, not, ◌&&◌, List, [], ◌∷◌, ◌++◌, map, ◌≡◌, eqb, ltb}
use Rattle.octets.specs.Runs.{emitted}
use Rattle.property.specs.Row.{rows}
use Rattle.device.specs.declared.state.Settings.{Settings}
use Rattle.device.specs.declared.state.Device.{Device}
use Rattle.device.specs.View.{view_of}
use Rattle.reply.specs.Value.{value_of}
use Rattle.command.specs.Effects.{is_reset}
use Rattle.engine.specs.Engine.{link_of, is_set_up, engine}
use Rattle.engine.specs.Merged.{device_step}
use Rattle.engine.specs.Carried.{Transcript}

-- ---- its replies

-- "those to its checked frames but resets"
unfoldable pub is_answered : Settings → ℕ → List ℕ → Bool
is_answered s k b = eqb (link_of b) k && not (is_set_up s b && is_reset b)

-- as the bodies that the engine replies
unfoldable pub replies_on : ℕ → Device → List (List ℕ) → List (List ℕ)
replies_on k d bs = emitted (λ e b. cond (is_answered e.settings k b) ((engine e b).reply ∷ []) []) device_step d bs

-- as the octets that were written: a reply belongs to the body at its place; of what was written for bodies, once for each, what is for
-- link k's but resets
unfoldable pub picked : {A : Type 0} → Settings → ℕ → List (List ℕ) → List A → List A
picked s k [] rs = []
picked s k (b ∷ bs) [] = []
picked s k (b ∷ bs) (r ∷ rs) = cond (is_answered s k b) (r ∷ []) [] ++ picked s k bs rs

unfoldable pub octets_on : ℕ → Device → Transcript → List (List ℕ)
octets_on k d t = picked d.settings k t.bodies t.written

-- ---- what is held for it

-- link k's values, "those held for it in every row of the table, 7 and setup's included"
unfoldable pub values_on : ℕ → Device → List (List ℕ)
values_on k d = map (λ r. value_of (view_of k d) r.kind) rows

-- its last status; "A link not set up has no last status to compare"
unfoldable pub status_on : ℕ → Device → List ℕ
status_on k d = cond (ltb k d.settings.links) ((view_of k d).link.status ∷ []) []

-- ---- two histories from the box d in which link k is told the same and ends with the same

pub record AlikeOn (k : ℕ) (d : Device) (t u : Transcript) : Type 0 where
  pub replies : replies_on k d t.bodies ≡ replies_on k d u.bodies
  pub octets : octets_on k d t ≡ octets_on k d u
  pub values : values_on k t.device ≡ values_on k u.device
  pub status : status_on k t.device ≡ status_on k u.device
