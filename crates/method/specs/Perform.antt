-- A command on one property of a link: steps 6 to 8 of 01, Commands.
use Rattle.std.specs.Prelude.{ℕ, Err, cond, List, eqb, length}
use Rattle.property.specs.declared.commands.Command.{Command}
use Rattle.property.specs.declared.commands.Command.TheVariants.{Get, Set, Insert, Remove}
use Rattle.property.specs.declared.row.Kind.{Kind}
use Rattle.property.specs.declared.status.Status.TheVariants.{ParseError}
use Rattle.device.specs.declared.state.Link.{Link}
use Rattle.method.specs.Outcome.{Outcome, done}
use Rattle.method.specs.Set.{set_kind}
use Rattle.method.specs.Items.{insert_port, remove_port}

-- "octets left over (after GET's number too) ..: 9"
unfoldable pub get_with : Link → List ℕ → Outcome
get_with l p = cond (eqb (length p) 0) (done l) (Err ParseError)

unfoldable pub perform : Link → Command → Kind → List ℕ → Outcome
perform l Get k p = get_with l p
perform l Set k p = set_kind l k p
perform l Insert k p = insert_port l p
perform l Remove k p = remove_port l p
