-- INSERT and REMOVE, of one port: steps 6 to 8 of 01, Commands.
use Rattle.std.specs.Prelude.{ℕ, Result, Ok, Err, ◌+◌, ◌*◌, cond, List, ◌++◌, eqb, ltb, length, take, drop}
use Rattle.octets.specs.Finding.{before}
use Rattle.octets.specs.LittleEndian.{le}
use Rattle.device.specs.State.{max_ports, held_from, octets_of}
use Rattle.device.specs.Ports.{ports_in, holds}
use Rattle.property.specs.declared.status.Status.{Status}
use Rattle.property.specs.declared.status.Status.TheVariants.{Already, ItemNotFound, NoMem, ParseError}
use Rattle.device.specs.declared.state.Link.{Link}
use Rattle.method.specs.Outcome.{Outcome, done, with_ports}

abbrev pub ports_held : Link → List ℕ
ports_held l = ports_in (octets_of l.ports)

-- the number that a payload of so many octets holds: "payload of wrong shape .. 9"
unfoldable pub whole : ℕ → List ℕ → Result ℕ Status
whole width p = cond (eqb (length p) width) (Ok (le p)) (Err ParseError)

-- a port is two octets
abbrev pub port_in : List ℕ → Result ℕ Status
port_in p = whole 2 p

-- "INSERT: held already 19, else full 11"; "Ports keep insertion order"
unfoldable pub insert_port : Link → List ℕ → Outcome
insert_port l p =
    cond (eqb (length p) 2)
    (cond (holds (le p) (ports_held l)) (Err Already)
    (cond (ltb (length (ports_held l)) max_ports) (done (with_ports l (held_from (octets_of l.ports ++ p)))) (Err NoMem)))
    (Err ParseError)

-- "removal closes the gap": all but the two octets at a place
unfoldable pub without : ℕ → List ℕ → List ℕ
without at xs = take at xs ++ drop (at + 2) xs

-- "REMOVE: not held 20"
unfoldable pub remove_port : Link → List ℕ → Outcome
remove_port l p =
    cond (eqb (length p) 2)
    (cond (holds (le p) (ports_held l))
    (done (with_ports l (held_from (without (2 * before (le p) (ports_held l)) (octets_of l.ports)))))
    (Err ItemNotFound))
    (Err ParseError)
