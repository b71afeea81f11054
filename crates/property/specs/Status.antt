-- Statuses (01, Setup and Commands; 000, section 6).
use Rattle.std.specs.Prelude.{ℕ}
use Rattle.property.specs.declared.status.Status.{Status}
use Rattle.property.specs.declared.status.Status.TheVariants as status

-- the numbers of 000, section 6
abbrev pub status_number : Status → ℕ
status_number status.Ok = 0
status_number status.InvalidArgument = 3
status_number status.InvalidState = 4
status_number status.InvalidCommand = 5
status_number status.InvalidInterface = 6
status_number status.ParseError = 9
status_number status.NoMem = 11
status_number status.PropNotFound = 13
status_number status.Already = 19
status_number status.ItemNotFound = 20
status_number status.InvalidCommandForProp = 21
status_number status.ResetSoftware = 114

-- "each last status 0 to 127"
abbrev pub max_status : ℕ
max_status = 127

-- RESET puts "every last status to 114"
abbrev pub reset_status : ℕ
reset_status = 114

-- the statuses with which steps 2 to 8 refuse a body (01, Commands), by 000's names
pub data RefusalStatus : ℕ → Type 0 where
  -- "command unreadable: 9", "property number unreadable: 9", "payload of wrong shape, octets left over .., or a bool not 00 or 01: 9"
  parse_error : RefusalStatus 9
  -- "none of 0 to 5: 5"
  invalid_command : RefusalStatus 5
  -- "unknown: 13"
  prop_not_found : RefusalStatus 13
  -- "command not allowed for it: 21"
  invalid_command_for_prop : RefusalStatus 21
  -- "value out of range: 3"
  invalid_argument : RefusalStatus 3
  -- "state: 4, 11, 19, 20 as below"
  invalid_state : RefusalStatus 4
  nomem : RefusalStatus 11
  already : RefusalStatus 19
  item_not_found : RefusalStatus 20
