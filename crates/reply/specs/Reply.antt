-- Reply bodies (01, Commands).
use Rattle.std.specs.Prelude.{ℕ, ◌+◌, List, [], ◌∷◌, ◌++◌}
use Rattle.packed.specs.Packed.{packed}
use Rattle.property.specs.Commands.{value_is, value_inserted, value_removed}
use Rattle.property.specs.declared.commands.Command.{Command}
use Rattle.property.specs.declared.commands.Command.TheVariants.{Get, Set, Insert, Remove}
use Rattle.property.specs.declared.row.Kind.{Kind}
use Rattle.property.specs.declared.row.Row.{Row}
use Rattle.device.specs.State.{max_text}
use Rattle.device.specs.declared.view.View.{View}
use Rattle.reply.specs.Value.{value_of}

-- "A refusal is command 6, property 0, status"
unfoldable pub status_reply : ℕ → ℕ → List ℕ
status_reply h s = h ∷ value_is ∷ 0 ∷ s ∷ []

-- "GET (2) and SET (3) reply command 6 with number and value held; INSERT (4) replies 7 and REMOVE (5) replies 8 with the item"
unfoldable pub reply_command : Command → ℕ
reply_command Get = value_is
reply_command Set = value_is
reply_command Insert = value_inserted
reply_command Remove = value_removed

-- the longest value is a version text and its zero
abbrev pub max_content : ℕ
max_content = max_text + 1

unfoldable pub content : View → Command → Kind → List ℕ → List ℕ
content v Get k p = value_of v k
content v Set k p = value_of v k
content v Insert k p = p
content v Remove k p = p

-- "A reply repeats the request's header"
unfoldable pub success_reply : View → ℕ → Command → Row → List ℕ → List ℕ
success_reply v h c r p = h ∷ reply_command c ∷ (packed r.id ++ content v c r.kind p)
