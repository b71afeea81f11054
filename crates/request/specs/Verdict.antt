-- What a body asks, before its payload is looked at: steps 2 to 5 of 01, Commands.
use Rattle.std.specs.Prelude.{ℕ, cond, List, eqb, ltb, Option, None, Some, Result, Ok, Err}
use Rattle.packed.specs.Packed.{packed_at}
use Rattle.packed.specs.declared.Fault.{Fault}
use Rattle.packed.specs.declared.Packed.{Packed}
use Rattle.property.specs.Commands.{noop, reset, value_get, value_set, value_insert, value_remove}
use Rattle.property.specs.Row.{lookup, allows}
use Rattle.property.specs.declared.commands.Command.{Command}
use Rattle.property.specs.declared.commands.Command.TheVariants.{Get, Set, Insert, Remove}
use Rattle.property.specs.declared.row.Row.{Row}
use Rattle.request.specs.declared.verdict.Refusal.{Refusal}
use Rattle.request.specs.declared.verdict.Refusal.TheVariants.{UnreadableCommand, UnknownCommand, UnreadableProperty, UnknownProperty, NotAllowed}
use Rattle.request.specs.declared.verdict.Request.{Request}
use Rattle.request.specs.declared.verdict.Request.TheVariants.{Noop, Reset, Reach}

-- ---- a refusal by the papers' numbers

-- the step
abbrev pub step_of : Refusal → ℕ
step_of (UnreadableCommand f) = 2
step_of UnknownCommand = 2
step_of (UnreadableProperty f) = 4
step_of UnknownProperty = 4
step_of NotAllowed = 5

-- "command unreadable: 9; none of 0 to 5: 5", "property number unreadable: 9; unknown: 13", "command not allowed for it: 21"
abbrev pub status_of : Refusal → ℕ
status_of (UnreadableCommand f) = 9
status_of UnknownCommand = 5
status_of (UnreadableProperty f) = 9
status_of UnknownProperty = 13
status_of NotAllowed = 21

-- the fault of a packed integer, where that is the first fault (02, T-07)
abbrev pub cause_of : Refusal → Option Fault
cause_of (UnreadableCommand f) = Some f
cause_of UnknownCommand = None
cause_of (UnreadableProperty f) = Some f
cause_of UnknownProperty = None
cause_of NotAllowed = None

-- ---- what a body asks

-- "GET (2) and SET (3) ..; INSERT (4) .. and REMOVE (5)"
unfoldable pub command_of : ℕ → Command
command_of n = cond (eqb n value_get) Get (cond (eqb n value_set) Set (cond (eqb n value_insert) Insert Remove))

-- step 4, the property unknown, and step 5, the command not allowed for it
abbrev pub by_row : Command → ℕ → Option Row → Result Request Refusal
by_row c start None = Err UnknownProperty
by_row c start (Some r) = cond (allows r c) (Ok (Reach c r start)) (Err NotAllowed)

-- step 4, the property number unreadable
abbrev pub by_property : Command → Result Packed Fault → Result Request Refusal
by_property c (Err f) = Err (UnreadableProperty f)
by_property c (Ok p) = by_row c p.next (lookup p.number)

-- step 2, the command unreadable or none of 0 to 5, and step 3, NOOP and RESET
abbrev pub by_command : List ℕ → Result Packed Fault → Result Request Refusal
by_command b (Err f) = Err (UnreadableCommand f)
by_command b (Ok p) =
    let n = p.number in
    cond (eqb n noop) (Ok Noop)
    (cond (eqb n reset) (Ok Reset)
    (cond (ltb value_remove n) (Err UnknownCommand) (by_property (command_of n) (packed_at b p.next))))

unfoldable pub verdict : List ℕ → Result Request Refusal
verdict b = by_command b (packed_at b 1)
