-- Each status that refuses a body, by its name in the code, has one of the numbers of steps 2 to 8.
use Rattle.std.proofs.Common.{◌≡◌, refl}
use Rattle.property.specs.declared.status.Status.{Status}
use Rattle.property.specs.declared.status.Status.TheVariants as status
use Rattle.property.specs.Status.{status_number, RefusalStatus, parse_error, invalid_command, prop_not_found, invalid_command_for_prop, invalid_argument, invalid_state, nomem, already, item_not_found}

pub refusal_number : (s : Status) → (s ≡ status.Ok → ⊥) → (s ≡ status.InvalidInterface → ⊥) → (s ≡ status.ResetSoftware → ⊥) → RefusalStatus (status_number s)
refusal_number status.Ok a b c = absurd (a refl)
refusal_number status.InvalidArgument a b c = invalid_argument
refusal_number status.InvalidState a b c = invalid_state
refusal_number status.InvalidCommand a b c = invalid_command
refusal_number status.InvalidInterface a b c = absurd (b refl)
refusal_number status.ParseError a b c = parse_error
refusal_number status.NoMem a b c = nomem
refusal_number status.PropNotFound a b c = prop_not_found
refusal_number status.Already a b c = already
refusal_number status.ItemNotFound a b c = item_not_found
refusal_number status.InvalidCommandForProp a b c = invalid_command_for_prop
refusal_number status.ResetSoftware a b c = absurd (c refl)
