-- SET, by the kind of value: steps 6 to 8 of 01, Commands.
use Rattle.std.specs.Prelude.{ℕ, Result, Ok, Err, suc, ◌%◌, Bool, cond, ◌&&◌, ◌||◌, List, eqb, ltb, length, get_or, take, set}
use Rattle.octets.specs.Finding.{before}
use Rattle.octets.specs.LittleEndian.{le}
use Rattle.property.specs.Number.{number_at, power_state, interface_up, stack_up, within}
use Rattle.property.specs.declared.number.Number.{Number as Numeric}
use Rattle.property.specs.declared.status.Status.{Status}
use Rattle.property.specs.declared.status.Status.TheVariants.{InvalidArgument, InvalidCommandForProp, InvalidState, NoMem, ParseError}
use Rattle.property.specs.declared.row.Kind.{Kind}
use Rattle.property.specs.declared.row.Kind.TheVariants.{ReadOnly, Power, Number, Name, Ports}
use Rattle.device.specs.State.{max_name, max_ports, held_from}
use Rattle.device.specs.Text.{is_text}
use Rattle.device.specs.Ports.{ports_in, distinct}
use Rattle.device.specs.declared.state.Link.{Link}
use Rattle.device.specs.declared.view.Effect.TheVariants.{Powered}
use Rattle.method.specs.Outcome.{Outcome, done, with_numbers, with_name, with_ports}

-- ---- a number

-- step 6, "payload of wrong shape, octets left over .., or a bool not 00 or 01: 9", and step 7, "value out of range: 3"
unfoldable pub value_in : Numeric → List ℕ → Result ℕ Status
value_in n p = cond (eqb (length p) n.width) (cond (within n (le p)) (Ok (le p)) (Err n.outside)) (Err ParseError)

-- "66 to 1 while 65 is 0, and 65 to 0 while 66 is 1, are 4"
unfoldable pub conflicts : List ℕ → ℕ → ℕ → Bool
conflicts held slot v =
    (eqb slot stack_up && (eqb v 1 && eqb (get_or held interface_up 0) 0)) || (eqb slot interface_up && (eqb v 0 && eqb (get_or held stack_up 0) 1))

unfoldable pub number_to : Link → ℕ → Result ℕ Status → Outcome
number_to l slot (Err s) = Err s
number_to l slot (Ok v) = cond (conflicts l.numbers slot v) (Err InvalidState) (done (with_numbers l (set l.numbers slot v)))

unfoldable pub set_number : Link → ℕ → List ℕ → Outcome
set_number l slot p = number_to l slot (value_in (number_at slot) p)

-- the power state is the whole box's
unfoldable pub power_to : Link → Result ℕ Status → Outcome
power_to l (Err s) = Err s
power_to l (Ok v) = Ok (record { effect = Powered v; link = l })

unfoldable pub set_power : Link → List ℕ → Outcome
set_power l p = power_to l (value_in power_state p)

-- ---- the name and the ports

-- "the first zero ends it, and it must be last; over 16 is 3"; not UTF-8 is 3 too, "in the length's step" (02, T-01)
unfoldable pub set_name : Link → List ℕ → Outcome
set_name l p =
    cond (eqb (suc (before 0 p)) (length p))
    (cond (is_text max_name (take (before 0 p) p)) (done (with_name l (held_from (take (before 0 p) p)))) (Err InvalidArgument))
    (Err ParseError)

-- "SET: a repeated port 3, else more than eight 11"
unfoldable pub set_ports : Link → List ℕ → Outcome
set_ports l p =
    cond (eqb (length p % 2) 0)
    (cond (distinct (ports_in p)) (cond (ltb max_ports (length (ports_in p))) (Err NoMem) (done (with_ports l (held_from p)))) (Err InvalidArgument))
    (Err ParseError)

unfoldable pub set_kind : Link → Kind → List ℕ → Outcome
set_kind l (ReadOnly f) p = Err InvalidCommandForProp  -- step 5 lets none of these through
set_kind l Power p = set_power l p
set_kind l (Number slot) p = set_number l slot p
set_kind l Name p = set_name l p
set_kind l Ports p = set_ports l p
