-- Carried histories, one after the other.
use mathlib.Core.Path.{◌≡◌, refl, sym, ap, ap₂, ◌∙◌}
use mathlib.Core.List.{List, [], ◌++◌, map}
use Prim.Native.Nat.{ℕ}
use Rattle.device.specs.declared.state.Device.{Device}
use Rattle.engine.specs.Merged.{device_after, replies_to}
use Rattle.engine.specs.Carried.{Transcript, Carried}
use Rattle.engine.proofs.RepliesInOrder.{device_append, mapped_append}

module _ {frame : List ℕ → List ℕ} where
  pub carried_none : (d : Device) → Carried frame d (record { bodies = []; written = []; device = d })
  unfolding device_after replies_to
  carried_none d = record { written = refl; device = refl }

  pub carried_then : {d : Device} {t u : Transcript} → Carried frame d t → Carried frame t.device u
      → Carried frame d (record { bodies = t.bodies ++ u.bodies; written = t.written ++ u.written; device = u.device })
  carried_then {d} {t} {u} g h =
      let box : t.device ≡ device_after d t.bodies = g.device in
      record {
        written =
            ap₂ ◌++◌ g.written (h.written ∙ ap (λ e. map frame (replies_to e u.bodies)) box)
            ∙ sym (mapped_append frame d t.bodies u.bodies);
        device = h.device ∙ ap (λ e. device_after e u.bodies) box ∙ sym (device_append d t.bodies u.bodies);
      }
