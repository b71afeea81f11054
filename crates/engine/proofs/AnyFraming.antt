-- PROMISE: links are separate, whatever carries the bodies (00, demand 3). Take any framing, told by how it writes a body, any box that keeps
-- its rules, any two histories that the framing carried from that box, and any link k of 0 to 3. If link k's merged sequence is the same in
-- both, then so are its replies, as bodies and as octets written, in the same order, and at the end its values in every row of the table and
-- its last status.
use mathlib.Core.Path.{◌≡◌, refl, sym, ap, ◌∙◌}
use mathlib.Core.Bool.{true, cond}
use mathlib.Core.List.{List, [], ◌∷◌, map}
use Prim.Native.Nat.{ℕ, ◌<◌}
use lib.Dec.{ltb}
use Rattle.property.specs.Row.{rows}
use Rattle.device.specs.State.{max_links}
use Rattle.device.specs.Rules.{rules}
use Rattle.device.specs.declared.state.Device.{Device}
use Rattle.device.specs.View.{view_of}
use Rattle.reply.specs.Value.{value_of}
use Rattle.engine.specs.Merged.{merged}
use Rattle.engine.specs.Carried.{Transcript, Carried}
use Rattle.engine.specs.Links.{replies_on, picked, octets_on, values_on, status_on, AlikeOn}
use Rattle.engine.proofs.Separation.{separation}
use Rattle.engine.proofs.RepliesInOrder.{picked_replies}

-- what was written for link k is what the engine replied to it, framed
pub octets_framed : {frame : List ℕ → List ℕ} {d : Device} {t : Transcript} → Carried frame d t
    → (k : ℕ) → octets_on k d t ≡ map frame (replies_on k d t.bodies)
unfolding octets_on
octets_framed {frame} {d} {t} g k = ap (picked d.settings k t.bodies) g.written ∙ picked_replies frame k d t.bodies

pub separate : {frame : List ℕ → List ℕ} {d : Device} {t u : Transcript} → Carried frame d t → Carried frame d u
    → rules d ≡ true → (k : ℕ) → k < max_links → merged d.settings k t.bodies ≡ merged d.settings k u.bodies → AlikeOn k d t u
unfolding values_on status_on
separate {frame} {d} {t} {u} g h keeps k few m =
    let same = separation k few d d t.bodies u.bodies keeps keeps refl m in
    let view : view_of k t.device ≡ view_of k u.device = ap (view_of k) g.device ∙ same.0 ∙ sym (ap (view_of k) h.device) in
    record {
      replies = same.1;
      octets = octets_framed g k ∙ ap (map frame) same.1 ∙ sym (octets_framed h k);
      values = ap (λ v. map (λ r. value_of v r.kind) rows) view;
      status = ap (λ v. cond (ltb k v.settings.links) (v.link.status ∷ []) []) view;
    }
