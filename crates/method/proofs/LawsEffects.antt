-- A command has an effect on the whole box only where it sets the power state.
use mathlib.Core.Path.{◌≡◌, refl}
use mathlib.Core.List.{List}
use Prim.Native.Nat.{ℕ, suc, ◌%◌}
use lib.Dec.{eqb, ltb}
use lib.ListN.{length, take}
use Rattle.octets.specs.Finding.{before}
use Rattle.octets.specs.LittleEndian.{le}
use Rattle.octets.proofs.LawsTests.{chosen}
use Rattle.property.specs.Number.{number_at}
use Rattle.property.specs.declared.commands.Command.{Command}
use Rattle.property.specs.declared.commands.Command.TheVariants.{Get, Set, Insert, Remove}
use Rattle.property.specs.declared.row.Kind.{Kind}
use Rattle.property.specs.declared.row.Kind.TheVariants.{ReadOnly, Power, Number as Kind-as-Number, Name, Ports}
use Rattle.device.specs.State.{max_name, max_ports}
use Rattle.device.specs.Text.{is_text}
use Rattle.device.specs.Ports.{ports_in, holds, distinct}
use Rattle.device.specs.declared.state.Link.{Link}
use Rattle.device.specs.declared.view.Effect.TheVariants.{None}
use Rattle.std.specs.Prelude.{Result, Ok, Err}
use Rattle.property.specs.declared.status.Status.{Status}
use Rattle.method.specs.Outcome.{Outcome}
use Rattle.method.specs.Perform.{get_with, perform}
use Rattle.method.specs.Set.{value_in, conflicts, number_to, set_number, set_name, set_ports, set_kind}
use Rattle.method.specs.Items.{insert_port, ports_held, remove_port}

abbrev pub Still : Outcome → Type 0
Still (Ok r) = r.effect ≡ None
Still (Err s) = Unit {0}

number_still : (l : Link) (slot : ℕ) (x : Result ℕ Status) → Still (number_to l slot x)
unfolding number_to
number_still l slot (Err s) = tt
number_still l slot (Ok x) = chosen Still (conflicts l.numbers slot x) (λ _. tt) (λ _. refl)

set_still : (l : Link) (k : Kind) (p : List ℕ) → (k ≡ Power → ⊥) → Still (set_kind l k p)
unfolding set_kind set_number set_name set_ports
set_still l (ReadOnly f) p h = tt
set_still l Power p h = absurd (h refl)
set_still l (Kind-as-Number slot) p h = number_still l slot (value_in (number_at slot) p)
set_still l Name p h =
    chosen Still (eqb (suc (before 0 p)) (length p))
    (λ _. chosen Still (is_text max_name (take (before 0 p) p)) (λ _. refl) (λ _. tt))
    (λ _. tt)
set_still l Ports p h =
    chosen Still (eqb (length p % 2) 0)
    (λ _. chosen Still (distinct (ports_in p))
    (λ _. chosen Still (ltb max_ports (length (ports_in p))) (λ _. tt) (λ _. refl))
    (λ _. tt))
    (λ _. tt)

pub perform_still : (l : Link) (c : Command) (k : Kind) (p : List ℕ) → (c ≡ Set → k ≡ Power → ⊥) → Still (perform l c k p)
unfolding perform get_with insert_port remove_port
perform_still l Get k p h = chosen Still (eqb (length p) 0) (λ _. refl) (λ _. tt)
perform_still l Set k p h = set_still l k p (h refl)
perform_still l Insert k p h =
    chosen Still (eqb (length p) 2)
    (λ _. chosen Still (holds (le p) (ports_held l)) (λ _. tt)
    (λ _. chosen Still (ltb (length (ports_held l)) max_ports) (λ _. refl) (λ _. tt)))
    (λ _. tt)
perform_still l Remove k p h =
    chosen Still (eqb (length p) 2) (λ _. chosen Still (holds (le p) (ports_held l)) (λ _. refl) (λ _. tt)) (λ _. tt)
