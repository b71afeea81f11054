-- What a command on one property comes to.
use Rattle.std.specs.Prelude.{ℕ, List, Result, Ok}
use Rattle.property.specs.declared.status.Status.{Status}
use Rattle.device.specs.State.{max_held}
use Rattle.device.specs.declared.state.Padded.{Padded}
use Rattle.device.specs.declared.state.Link.{Link}
use Rattle.device.specs.declared.view.Effect.TheVariants.{None}
use Rattle.method.specs.declared.outcome.Performed.{Performed}

-- what a command comes to, or the status that refuses it: "A refusal changes only that link's last status", so it has no link
abbrev pub Outcome : Type 0
Outcome = Result Performed Status

abbrev pub done : Link → Outcome
done l = Ok (record { effect = None; link = l })

abbrev pub with_numbers : Link → List ℕ → Link
with_numbers l xs = record { status = l.status; numbers = xs; name = l.name; ports = l.ports }

abbrev pub with_name : Link → Padded max_held → Link
with_name l h = record { status = l.status; numbers = l.numbers; name = h; ports = l.ports }

abbrev pub with_ports : Link → Padded max_held → Link
with_ports l h = record { status = l.status; numbers = l.numbers; name = l.name; ports = h }
