-- PROMISE: bodies one after the other get one reply each, in order; a link's are those at the places of its bodies.
use mathlib.Core.Path.{◌≡◌, refl, ap, ◌∙◌}
use mathlib.Core.List.{List, [], ◌∷◌, ◌++◌, map, map-append, foldl-append}
use Prim.Native.Nat.{ℕ, suc}
use lib.ListN.{length}
use Rattle.octets.proofs.LawsRuns.{emitted_append}
use Rattle.octets.proofs.LawsTests.{by_test}
use Rattle.device.specs.declared.state.Device.{Device}
use Rattle.engine.specs.Engine.{engine}
use Rattle.engine.specs.Merged.{device_step, device_after, replies_to}
use Rattle.engine.specs.Links.{is_answered, replies_on, picked}
use Rattle.engine.proofs.LawsSteps.{step_settings}

pub device_append : (d : Device) (bs cs : List (List ℕ)) → device_after d (bs ++ cs) ≡ device_after (device_after d bs) cs
unfolding device_after
device_append d bs cs = foldl-append device_step d bs cs

pub replies_append : (d : Device) (bs cs : List (List ℕ)) → replies_to d (bs ++ cs) ≡ replies_to d bs ++ replies_to (device_after d bs) cs
unfolding replies_to device_after
replies_append d bs cs = emitted_append (λ e b. (engine e b).reply ∷ []) device_step d bs cs

-- the same of what becomes of each reply, as its frame
pub mapped_append : {A : Type 0} (f : List ℕ → A) (d : Device) (bs cs : List (List ℕ))
    → map f (replies_to d (bs ++ cs)) ≡ map f (replies_to d bs) ++ map f (replies_to (device_after d bs) cs)
mapped_append f d bs cs = ap (map f) (replies_append d bs cs) ∙ map-append f (replies_to d bs) (replies_to (device_after d bs) cs)

pub one_each : (d : Device) (bs : List (List ℕ)) → length (replies_to d bs) ≡ length bs
unfolding replies_to
one_each d [] = refl
one_each d (b ∷ bs) = ap suc (one_each (device_step d b) bs)

pub picked_replies : {A : Type 0} (f : List ℕ → A) (k : ℕ) (d : Device) (bs : List (List ℕ))
    → picked d.settings k bs (map f (replies_to d bs)) ≡ map f (replies_on k d bs)
unfolding picked replies_to replies_on
picked_replies f k d [] = refl
picked_replies f k d (b ∷ bs) =
    let rest = rw (step_settings d b) at (picked_replies f k (device_step d b) bs) in
    by_test (is_answered d.settings k b) (λ e. cc) (λ e. cc)
