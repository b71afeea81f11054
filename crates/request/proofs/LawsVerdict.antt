-- What a verdict tells of the body, and which octets give which verdict.
use mathlib.Core.Path.{◌≡◌, refl, ap, ◌∙◌}
use mathlib.Core.Bool.{true}
use mathlib.Core.List.{List}
use Prim.Native.Nat.{ℕ, ◌≤◌}
use native.Mathlib.Omega.{arith}
use lib.ListN.{length, get_or}
use Rattle.std.specs.Prelude.{Option, None, Some, Result, Ok, Err}
use Rattle.octets.proofs.LawsTests.{impossible}
use Rattle.packed.specs.Packed.{packed_at, read}
use Rattle.packed.specs.declared.Fault.{Fault}
use Rattle.packed.specs.declared.Packed.{Packed}
use Rattle.packed.proofs.OneSpelling.{place_after, one_octet}
use Rattle.property.specs.Status.{RefusalStatus, invalid_command, parse_error, prop_not_found, invalid_command_for_prop}
use Rattle.property.specs.Row.{lookup, allows}
use Rattle.property.specs.Rule.{row_rule}
use Rattle.property.specs.declared.commands.Command.{Command}
use Rattle.property.specs.declared.row.Row.{Row}
use Rattle.property.proofs.TableRule.{Asked, lookup_asked}
use Rattle.request.specs.declared.verdict.Refusal.{Refusal}
use Rattle.request.specs.declared.verdict.Refusal.TheVariants.{UnreadableCommand, UnknownCommand, UnreadableProperty, UnknownProperty, NotAllowed}
use Rattle.request.specs.declared.verdict.Request.TheVariants.{Reset, Reach}
use Rattle.request.specs.Verdict.{status_of, command_of, by_row, by_property, by_command, verdict}

-- where a verdict is that a command reaches a property
pub record Reached (b : List ℕ) (c : Command) (r : Row) (start : ℕ) : Type 0 where
  pub number : ℕ
  pub next : ℕ
  pub command : packed_at b 1 ≡ read number next
  pub few : number ≤ 5
  pub named : command_of number ≡ c
  pub property : packed_at b next ≡ read r.id start
  pub found : lookup r.id ≡ Some r
  pub allowed : allows r c ≡ true
  pub rule : row_rule r ≡ true

by_row_lem : (d c : Command) (at start : ℕ) (f : Option Row) (r : Row) → by_row d at f ≡ Ok (Reach c r start)
    → (f ≡ Some r) × (d ≡ c) × (at ≡ start) × (allows r c ≡ true)
by_row_lem d c at start None r e = impossible cc
by_row_lem d c at start (Some x) r e = (grind arith, grind arith, grind arith, grind arith)

from_found : (id : ℕ) (f : Option Row) (r : Row) → Asked id f → f ≡ Some r → (row_rule r ≡ true) × (r.id ≡ id)
from_found id None r a e = impossible cc
from_found id (Some x) r a e = let same : x ≡ r = cc in rw (← same) a

by_property_lem : (d c : Command) (q : Result Packed Fault) (r : Row) (start : ℕ) → by_property d q ≡ Ok (Reach c r start)
    → (q ≡ read r.id start) × (d ≡ c) × (allows r c ≡ true) × (row_rule r ≡ true) × (lookup r.id ≡ Some r)
by_property_lem d c (Err f) r start e = impossible cc
by_property_lem d c (Ok p) r start e =
    let t = by_row_lem d c p.next start (lookup p.number) r e in
    let f = from_found p.number (lookup p.number) r (lookup_asked p.number) t.0 in
    (rw (f.1, ← t.2), t.1, t.3, f.0, ap lookup f.1 ∙ t.0)

by_command_lem : (b : List ℕ) (q : Result Packed Fault) (c : Command) (r : Row) (start : ℕ)
    → packed_at b 1 ≡ q → by_command b q ≡ Ok (Reach c r start) → Reached b c r start
by_command_lem b (Err f) c r start p e = impossible cc
by_command_lem b (Ok a) c r start p e =
    let goes : by_property (command_of a.number) (packed_at b a.next) ≡ Ok (Reach c r start) = grind arith in
    let told = by_property_lem (command_of a.number) c (packed_at b a.next) r start goes in
    record {
      number = a.number;
      next = a.next;
      command = p;
      few = grind arith;
      named = told.1;
      property = told.0;
      found = told.4;
      allowed = told.2;
      rule = told.3;
    }

pub verdict_reach : (b : List ℕ) (c : Command) (r : Row) (start : ℕ) → verdict b ≡ Ok (Reach c r start) → Reached b c r start
unfolding verdict
verdict_reach b c r start e = by_command_lem b (packed_at b 1) c r start refl e

-- the payload starts within the body
pub payload_start : (b : List ℕ) (c : Command) (r : Row) (start : ℕ) → verdict b ≡ Ok (Reach c r start) → start ≤ length b
payload_start b c r start e = let t = verdict_reach b c r start e in (place_after b t.next r.id start t.property).1

-- ---- RESET

row_no_reset : (c : Command) (start : ℕ) (f : Option Row) → by_row c start f ≡ Ok Reset → ⊥
row_no_reset c start None e = impossible cc
row_no_reset c start (Some r) e = grind arith

property_no_reset : (c : Command) (q : Result Packed Fault) → by_property c q ≡ Ok Reset → ⊥
property_no_reset c (Err f) e = impossible cc
property_no_reset c (Ok p) e = row_no_reset c p.next (lookup p.number) e

command_reset : (b : List ℕ) (q : Result Packed Fault) → packed_at b 1 ≡ q → by_command b q ≡ Ok Reset → get_or b 1 0 ≡ 1
command_reset b (Err f) p e = impossible cc
command_reset b (Ok a) p e =
    let other = property_no_reset (command_of a.number) (packed_at b a.next) in
    let one : a.number ≡ 1 = grind arith in
    (one_octet b 1 a.number a.next p (omega arith)).0 ∙ one

-- RESET is told by the second octet
pub verdict_reset : (b : List ℕ) → verdict b ≡ Ok Reset → get_or b 1 0 ≡ 1
unfolding verdict
verdict_reset b e = command_reset b (packed_at b 1) refl e

-- ---- the statuses of steps 2 to 5

pub refusal_told : (r : Refusal) → RefusalStatus (status_of r)
refusal_told (UnreadableCommand f) = parse_error
refusal_told UnknownCommand = invalid_command
refusal_told (UnreadableProperty f) = parse_error
refusal_told UnknownProperty = prop_not_found
refusal_told NotAllowed = invalid_command_for_prop
