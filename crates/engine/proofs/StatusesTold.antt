-- PROMISE: from what setup returned, whatever bodies came, no link's last status is 7 and no reply tells status 7 (02, T-04). A last status
-- is 0 (NOOP), 114 (after a reset) or one of the nine with which a set-up link's bodies are refused; a reply tells one of these, or 6.
use mathlib.Core.Logic.{◌≢◌}
use mathlib.Core.Path.{◌≡◌, refl}
use mathlib.Core.Bool.{true}
use mathlib.Core.List.{List, [], ◌∷◌}
use Prim.Native.Nat.{ℕ, suc, ◌<◌}
use native.Mathlib.Omega.{arith}
use borrow.Author.Tests.{eqb-true, eqb-false, ltb-true, lt-ltb}
use lib.Dec.{eqb}
use lib.ListN.{length, get_or, set, get_or-replicate}
use lib.Seq.{get_or-set_same, get_or-set_other}
use Rattle.octets.specs.Body.{header_of}
use Rattle.octets.specs.Finding.{before}
use Rattle.octets.proofs.LawsTests.{by_test, chosen, impossible}
use Rattle.property.specs.Status.{RefusalStatus}
use Rattle.property.proofs.LawsStatus.{by_status}
use Rattle.device.specs.State.{fresh_link, no_link, fresh, max_links}
use Rattle.device.specs.Ports.{holds}
use Rattle.device.specs.Rules.{rules}
use Rattle.device.specs.Setup.{Report, is_good_setup, refusal, setup_for, Setup, device_from}
use Rattle.device.specs.declared.state.Link.{Link}
use Rattle.device.specs.declared.state.Settings.{Settings}
use Rattle.device.specs.declared.state.Device.{Device}
use Rattle.device.specs.declared.view.Effect.{Effect}
use Rattle.device.specs.declared.view.Effect.TheVariants.{None, Reset, Powered}
use Rattle.device.specs.View.{view_of}
use Rattle.device.proofs.SetupKeepsRules.{device_from_keeps}
use Rattle.device.proofs.StateRules.{settings_of, four}
use Rattle.reply.specs.Reply.{status_reply}
use Rattle.command.specs.Effects.{effect_of}
use Rattle.command.proofs.LawsStatuses.{one_status, status_left, status_told}
use Rattle.engine.specs.Engine.{link_of, is_set_up, affect, Response, settled, engine}
use Rattle.engine.specs.Merged.{device_step, device_after}
use Rattle.engine.proofs.RulesKept.{body_keeps, bodies_keep}
use Rattle.engine.proofs.LawsSteps.{link_below, own_rule, body_set_up, body_not_set_up}
use Rattle.engine.proofs.StepNine.{refusal_statuses}

abbrev pub held_statuses : List ℕ
held_statuses = 0 ∷ 114 ∷ refusal_statuses

-- step 1's besides
abbrev pub told_statuses : List ℕ
told_statuses = 6 ∷ held_statuses

abbrev Known : ℕ → Type 0
Known s = holds s held_statuses ≡ true

refusals : (s : ℕ) → RefusalStatus s → Known s
unfolding holds before
refusals s r = by_status Known refl refl refl refl refl refl refl refl refl s r

zero : Known 0
unfolding holds before
zero = refl

announced : Known 114
unfolding holds before
announced = refl

six : holds 6 told_statuses ≡ true
unfolding holds before
six = refl

more : (x y : ℕ) (xs : List ℕ) → holds x xs ≡ true → holds x (y ∷ xs) ≡ true
unfolding holds before
more x y xs h =
    by_test (eqb y x) (λ e. rw e (lt-ltb 0 (suc (length xs)) (omega arith)))
    (λ e. rw e (lt-ltb (suc (before x xs)) (suc (length xs)) (omega (arith, ltb-true (before x xs) (length xs) h))))

abbrev AllKnown : Device → Type 0
AllKnown d = (k : ℕ) → k < max_links → Known (view_of k d).link.status

known_fresh : (s : Settings) → AllKnown (fresh s)
unfolding fresh
known_fresh s k few = rw (get_or-replicate max_links k fresh_link no_link few) announced

-- ---- one body

module _ (d : Device) (t : rules d ≡ true) (known : AllKnown d) where
  known_set : (k : ℕ) (l : Link) → k < max_links → Known l.status → (j : ℕ) → j < max_links → Known (get_or (set d.links k l) j no_link).status
  known_set k l few own j h =
      by_test (eqb j k)
      (λ e. let same : j ≡ k = eqb-true j k e in rw (same, get_or-set_same d.links k l no_link (omega (arith, four d t))) own)
      (λ e. rw (get_or-set_other d.links k j l no_link (eqb-false j k e)) (known j h))

  known_affect : (e : Effect) (k : ℕ) (l : Link) → k < max_links → Known l.status → AllKnown (affect e d k l)
  unfolding affect
  known_affect None k l few own = known_set k l few own
  known_affect Reset k l few own = known_fresh d.settings
  known_affect (Powered x) k l few own = known_set k l few own

  known_step : (b : List ℕ) → AllKnown (device_step d b)
  known_step b =
      by_test (is_set_up d.settings b)
      (λ e. rw (body_set_up d b e)
      (known_affect (effect_of b) (link_of b) _ (link_below b)
      (status_left Known zero announced refusals (view_of (link_of b) d) (settings_of d t) (own_rule d b t e) (known (link_of b) (link_below b)) b)))
      (λ e. rw (body_not_set_up d b e) known)

  reply_told : (b : List ℕ) (g x : ℕ) → (engine d b).reply ≡ status_reply g x → holds x told_statuses ≡ true
  unfolding engine settled
  reply_told b g x =
      chosen (λ (a : Response). a.reply ≡ status_reply g x → holds x told_statuses ≡ true) (is_set_up d.settings b)
      (λ e q. more x 6 held_statuses
      (status_told Known zero announced refusals (view_of (link_of b) d) (settings_of d t) (own_rule d b t e) (known (link_of b) (link_below b)) b g x q))
      (λ e q. rw (← one_status (header_of b) 6 g x q) six)

-- ---- from setup on

known_first : (s : Setup) → AllKnown (device_from s)
unfolding setup_for refusal
known_first s =
    chosen (λ (r : Report). AllKnown r.device) (is_good_setup s.links s.vendor s.text s.address)
    (λ _. known_fresh _) (λ _. known_fresh _)

known_after : (d : Device) (bs : List (List ℕ)) → rules d ≡ true → AllKnown d → AllKnown (device_after d bs)
unfolding device_after
known_after d [] t known = known
known_after d (b ∷ bs) t known = known_after (device_step d b) bs (body_keeps d b t) (known_step d t known b)

module _ (s : Setup) (bs : List (List ℕ)) where
  -- the last status of any link
  pub last_statuses : (k : ℕ) → k < max_links → holds (view_of k (device_after (device_from s) bs)).link.status held_statuses ≡ true
  last_statuses k few = known_after (device_from s) bs (device_from_keeps s) (known_first s) k few

  -- a reply to the next body that reads as a status: command 6, property 0 and the status
  pub told_statuses_lem : (b : List ℕ) (header status : ℕ) → (engine (device_after (device_from s) bs) b).reply ≡ header ∷ 6 ∷ 0 ∷ status ∷ []
      → holds status told_statuses ≡ true
  unfolding status_reply
  told_statuses_lem b header status e =
      reply_told (device_after (device_from s) bs) (bodies_keep (device_from s) bs (device_from_keeps s)) last_statuses b header status e

  pub seven_never_told : (b : List ℕ) (header : ℕ) → (engine (device_after (device_from s) bs) b).reply ≢ header ∷ 6 ∷ 0 ∷ 7 ∷ []
  unfolding holds before
  seven_never_told b header e = impossible (cc (told_statuses_lem b header 7 e))
