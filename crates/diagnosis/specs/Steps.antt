-- Steps 1 to 5 of 01, Commands, told by the octets of a body, each clause by itself and in no order.
use Rattle.std.specs.Prelude.{◌≡◌, true, false, List, ℕ, ◌/◌, ◌%◌, ◌≤◌, ◌<◌, Option, None, Some, Result, Ok, Err}
use Rattle.octets.specs.Body.{header_of}
use Rattle.packed.specs.Packed.{packed_at, read}
use Rattle.packed.specs.declared.Fault.{Fault}
use Rattle.property.specs.Row.{lookup, allows}
use Rattle.property.specs.declared.commands.Command.{Command}
use Rattle.property.specs.declared.row.Row.{Row}
use Rattle.request.specs.Verdict.{step_of, status_of, cause_of, command_of}
use Rattle.request.specs.declared.verdict.Refusal.{Refusal}
use Rattle.request.specs.declared.verdict.Request.{Request}
use Rattle.request.specs.declared.verdict.Request.TheVariants.{Noop, Reset, Reach}

-- step 1: the body's link is one of the "numbers 0 to links-1" (01, Setup); "two bits 10, two bits link, four bits transaction"
abbrev pub OnSetUp : ℕ → List ℕ → Type 0
OnSetUp links b = header_of b / 16 % 4 < links

-- the command is n, one of those that name a property, and the property's number starts at a place
pub record Names (b : List ℕ) (n at : ℕ) : Type 0 where
  pub command : packed_at b 1 ≡ read n at
  pub least : 2 ≤ n
  pub most : n ≤ 5

-- what steps 2 to 5 come to, by the papers' numbers: a step, a status and a cause, NOOP, RESET, or a command, a row and the place of the
-- payload
pub data Numbered : Type 0 where
  stops : ℕ → ℕ → Option Fault → Numbered
  does_noop : Numbered
  does_reset : Numbered
  reaches_property : Command → Row → ℕ → Numbered

abbrev pub numbered : Result Request Refusal → Numbered
numbered (Err r) = stops (step_of r) (status_of r) (cause_of r)
numbered (Ok Noop) = does_noop
numbered (Ok Reset) = does_reset
numbered (Ok (Reach c r start)) = reaches_property c r start

pub data Told (b : List ℕ) : Numbered → Type 0 where
  -- step 2, "command unreadable: 9; none of 0 to 5: 5"
  command_unreadable : {f : Fault} → packed_at b 1 ≡ Err f → Told b (stops 2 9 (Some f))
  command_unknown : {n at : ℕ} → packed_at b 1 ≡ read n at → 5 < n → Told b (stops 2 5 None)
  -- step 3, "NOOP (0) .. RESET (1) .. Both ignore any payload"
  is_noop : {at : ℕ} → packed_at b 1 ≡ read 0 at → Told b does_noop
  is_reset : {at : ℕ} → packed_at b 1 ≡ read 1 at → Told b does_reset
  -- step 4, "property number unreadable: 9; unknown: 13"
  property_unreadable : {n at : ℕ} {f : Fault} → Names b n at → packed_at b at ≡ Err f → Told b (stops 4 9 (Some f))
  property_unknown : {n at id start : ℕ} → Names b n at → packed_at b at ≡ read id start → lookup id ≡ None → Told b (stops 4 13 None)
  -- step 5, "command not allowed for it: 21"
  not_allowed : {n at id start : ℕ} {r : Row} → Names b n at → packed_at b at ≡ read id start → lookup id ≡ Some r
      → allows r (command_of n) ≡ false → Told b (stops 5 21 None)
  -- none of them
  passes : {n at id start : ℕ} {r : Row} → Names b n at → packed_at b at ≡ read id start → lookup id ≡ Some r
      → allows r (command_of n) ≡ true → Told b (reaches_property (command_of n) r start)
