-- PROMISE: links are separate, over bodies. After any bodies link k's view of the box, and its replies but those to resets, are a function
-- of the view that it had and of its merged sequence; so they are the same after any two lists of bodies with the same merged sequence,
-- from any two boxes that keep their rules and have the same view of k.
use mathlib.Core.Logic.{◌≢◌}
use mathlib.Core.Path.{◌≡◌, refl, sym, ap, ap₂, ◌∙◌}
use mathlib.Core.Bool.{Bool, true, false, cond, not, ◌&&◌}
use mathlib.Core.List.{List, [], ◌∷◌, ◌++◌, foldl, foldl-append}
use Prim.Native.Nat.{ℕ, ◌<◌}
use native.Mathlib.Omega.{arith}
use borrow.Author.Tests.{eqb-true, eqb-false}
use lib.Dec.{eqb}
use lib.ListN.{length, get_or-replicate}
use lib.Seq.{get_or-set_same, get_or-set_other}
use Rattle.octets.specs.Runs.{each, emitted}
use Rattle.octets.proofs.LawsRuns.{emitted_append}
use Rattle.octets.proofs.LawsTests.{by_test}
use Rattle.device.specs.State.{fresh_link, no_link, fresh, max_links}
use Rattle.device.specs.Rules.{rules}
use Rattle.device.specs.declared.state.Link.{Link}
use Rattle.device.specs.declared.state.Device.{Device}
use Rattle.device.proofs.StateRules.{four}
use Rattle.device.specs.declared.view.View.{View}
use Rattle.device.specs.declared.view.Effect.{Effect}
use Rattle.device.specs.declared.view.Effect.TheVariants.{None, Reset, Powered}
use Rattle.device.specs.View.{view_of}
use Rattle.command.specs.Decision.{decide}
use Rattle.command.specs.Effects.{is_reset, effect_of}
use Rattle.engine.specs.Engine.{link_of, is_set_up, affect, settled, engine}
use Rattle.engine.specs.Merged.{device_step, device_after, whole, effect_item, item_of, merged, moved, view_step, view_after, reply_to, item_replies, view_replies}
use Rattle.engine.specs.Links.{is_answered, replies_on}
use Rattle.engine.proofs.LawsSteps.{link_below, body_set_up, body_not_set_up, step_settings, step_four}

-- ---- one body

module _ (d : Device) (size : length d.links ≡ max_links) (k : ℕ) (few : k < max_links) where
  view_own : (e : Effect) (l : Link) → view_of k (affect e d k l) ≡ moved e (view_of k d) l
  unfolding affect moved fresh
  view_own None l = cc (get_or-set_same d.links k l no_link (omega (arith, size)))
  view_own Reset l = cc (get_or-replicate 4 k fresh_link no_link few)
  view_own (Powered x) l = cc (get_or-set_same d.links k l no_link (omega (arith, size)))

  view_other : (e : Effect) (j : ℕ) (l : Link) → k ≢ j → view_of k (affect e d j l) ≡ moved e (view_of k d) (view_of k d).link
  unfolding affect moved fresh
  view_other None j l n = cc (get_or-set_other d.links j k l no_link n)
  view_other Reset j l n = cc (get_or-replicate 4 k fresh_link no_link few)
  view_other (Powered x) j l n = cc (get_or-set_other d.links j k l no_link n)

-- the view of a link after a body of its own
step_own : (d : Device) (b : List ℕ) → length d.links ≡ max_links → view_of (link_of b) (device_step d b) ≡ view_step (view_of (link_of b) d) (whole b)
unfolding view_step
step_own d b h =
    by_test (is_set_up d.settings b)
    (λ e. cc (body_set_up d b e, view_own d h (link_of b) (link_below b) (effect_of b) (decide (view_of (link_of b) d) b).link))
    (λ e. cc (body_not_set_up d b e))

-- and after a body of another link: only what its octets say, a reset, a power setting or nothing
pub other_link : (d : Device) (b : List ℕ) (k : ℕ) → length d.links ≡ max_links → k < max_links → k ≢ link_of b
    → view_of k (device_step d b) ≡ view_after (view_of k d) (cond (is_set_up d.settings b) (effect_item (effect_of b)) [])
unfolding view_after effect_item view_step moved
other_link d b k h few n =
    by_test (is_set_up d.settings b)
    (λ e. let l = (decide (view_of (link_of b) d) b).link in
    rw e (ap (view_of k) (body_set_up d b e) ∙ view_other d h k few (effect_of b) (link_of b) l n ∙ by (effect_of b)))
    (λ e. rw e (ap (view_of k) (body_not_set_up d b e)))
  where
    by : (f : Effect) → moved f (view_of k d) (view_of k d).link ≡ foldl view_step (view_of k d) (effect_item f)
    by None = unfold moved effect_item in refl
    by Reset = unfold moved effect_item view_step in refl
    by (Powered x) = unfold moved effect_item view_step in refl

-- both at once: the view of link k goes on by what the body is to it
step_view : (d : Device) (b : List ℕ) (k : ℕ) → length d.links ≡ max_links → k < max_links
    → view_of k (device_step d b) ≡ view_after (view_of k d) (item_of d.settings k b)
unfolding item_of view_after
step_view d b k h few =
    by_test (eqb (link_of b) k)
    (λ e. let own : link_of b ≡ k = eqb-true (link_of b) k e in rw e (rw own at (step_own d b h)))
    (λ e. rw e (other_link d b k h few (λ q. eqb-false (link_of b) k e (sym q))))

-- ---- the replies to one body

reply_own : (d : Device) (b : List ℕ) → (engine d b).reply ≡ reply_to (view_of (link_of b) d) b
unfolding engine settled reply_to
reply_own d b = by_test (is_set_up d.settings b) (λ e. cc) (λ e. cc)

no_replies : (v : View) (t : Bool) (e : Effect) → view_replies v (cond t (effect_item e) []) ≡ []
unfolding view_replies effect_item item_replies
no_replies v false e = refl
no_replies v true None = refl
no_replies v true Reset = refl
no_replies v true (Powered x) = refl

step_replies : (d : Device) (b : List ℕ) (k : ℕ)
    → cond (is_answered d.settings k b) ((engine d b).reply ∷ []) [] ≡ view_replies (view_of k d) (item_of d.settings k b)
unfolding is_answered item_of
step_replies d b k =
    by_test (eqb (link_of b) k)
    (λ e. let own : link_of b ≡ k = eqb-true (link_of b) k e in rw (e, reply_own d b, own) (answered (is_set_up d.settings b && is_reset b) refl))
    (λ e. rw e (sym (no_replies (view_of k d) (is_set_up d.settings b) (effect_of b))))
  where
    answered : (t : Bool) → is_set_up d.settings b && is_reset b ≡ t
        → cond (not (is_set_up d.settings b && is_reset b)) (reply_to (view_of k d) b ∷ []) [] ≡ view_replies (view_of k d) (whole b ∷ [])
    answered true t = unfold view_replies item_replies in rw t
    answered false t = unfold view_replies item_replies in rw t

-- ---- any bodies

pub settings_after : (d : Device) (bs : List (List ℕ)) → (device_after d bs).settings ≡ d.settings
unfolding device_after
settings_after d [] = refl
settings_after d (b ∷ bs) = settings_after (device_step d b) bs ∙ step_settings d b

pub view_after_lem : (k : ℕ) → k < max_links → (d : Device) (bs : List (List ℕ)) → length d.links ≡ max_links
    → view_of k (device_after d bs) ≡ view_after (view_of k d) (merged d.settings k bs)
unfolding device_after view_after merged
view_after_lem k few d [] h = refl
view_after_lem k few d (b ∷ bs) h =
    let rest = view_after_lem k few (device_step d b) bs (step_four d b h) in
    rest ∙ ap₂ (λ v s. foldl view_step v (each (item_of s k) bs)) (step_view d b k h few) (step_settings d b)
    ∙ sym (foldl-append view_step (view_of k d) (item_of d.settings k b) (each (item_of d.settings k) bs))

pub replies_after : (k : ℕ) → k < max_links → (d : Device) (bs : List (List ℕ)) → length d.links ≡ max_links
    → replies_on k d bs ≡ view_replies (view_of k d) (merged d.settings k bs)
unfolding replies_on view_replies merged view_after
replies_after k few d [] h = refl
replies_after k few d (b ∷ bs) h =
    let rest = replies_after k few (device_step d b) bs (step_four d b h) in
    let later = rest ∙ ap₂ (λ v s. emitted item_replies view_step v (each (item_of s k) bs)) (step_view d b k h few) (step_settings d b) in
    ap₂ (λ x y. x ++ y) (step_replies d b k) later
    ∙ sym (emitted_append item_replies view_step (view_of k d) (item_of d.settings k b) (each (item_of d.settings k) bs))

-- links are separate: the same merged sequence leaves link k the same view and gives it the same replies
pub separation : (k : ℕ) → k < max_links → (d e : Device) (bs cs : List (List ℕ))
    → rules d ≡ true → rules e ≡ true → view_of k d ≡ view_of k e
    → merged d.settings k bs ≡ merged e.settings k cs
    → (view_of k (device_after d bs) ≡ view_of k (device_after e cs)) × (replies_on k d bs ≡ replies_on k e cs)
separation k few d e bs cs p q same m = (
  view_after_lem k few d bs (four d p) ∙ ap₂ view_after same m ∙ sym (view_after_lem k few e cs (four e q)),
  replies_after k few d bs (four d p) ∙ ap₂ view_replies same m ∙ sym (replies_after k few e cs (four e q)),
)
