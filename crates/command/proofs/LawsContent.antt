-- How much content the reply to a command that was performed has, from a state that keeps its rules.
use mathlib.Core.Path.{◌≡◌, refl}
use mathlib.Core.Bool.{Bool, true, false, cond}
use mathlib.Core.List.{List}
use Prim.Native.Nat.{ℕ, ◌≤◌}
use native.Mathlib.Omega.{arith}
use borrow.Author.Tests.{eqb-true}
use lib.Dec.{eqb}
use lib.ListN.{length}
use Rattle.octets.proofs.LawsTests.{impossible}
use Rattle.property.specs.Rule.{row_rule}
use Rattle.property.specs.declared.commands.Command.{Command}
use Rattle.property.specs.declared.commands.Command.TheVariants.{Get, Set, Insert, Remove}
use Rattle.property.specs.declared.row.Row.{Row}
use Rattle.property.proofs.TableRule.{slot_below}
use Rattle.device.specs.Rules.{settings_rule, link_rule}
use Rattle.device.proofs.StateRules.{link_from}
use Rattle.device.specs.declared.state.Link.{Link}
use Rattle.device.specs.declared.view.View.{View}
use Rattle.device.specs.View.{after}
use Rattle.std.specs.Prelude.{Ok, Err}
use Rattle.property.specs.declared.status.Status.TheVariants.{ParseError}
use Rattle.method.specs.declared.outcome.Performed.{Performed}
use Rattle.method.specs.Perform.{perform}
use Rattle.method.specs.Outcome.{Outcome}
use Rattle.method.specs.Items.{insert_port, remove_port}
use Rattle.method.proofs.LinkKept.{perform_kept}
use Rattle.reply.specs.Value.{value_of}
use Rattle.reply.specs.Reply.{content, max_content}
use Rattle.reply.proofs.LawsReplies.{value_size}

-- an item that is inserted or removed is one port
by_nine : (t : Bool) (x : Outcome) (d : Performed) → cond t x (Err ParseError) ≡ Ok d → t ≡ true
by_nine true x d h = refl
by_nine false x d h = impossible cc

-- a command that was performed leaves a link that keeps its rule
pub link_left : (l : Link) (c : Command) (r : Row) (p : List ℕ) (d : Performed)
    → link_rule l ≡ true → row_rule r ≡ true → perform l c r.kind p ≡ Ok d → link_rule d.link ≡ true
link_left l c r p d t rule h =
    let kept = rw h at (perform_kept l t c r.kind p (λ slot k. slot_below r slot k rule)) in
    link_from d.link kept.facts

-- the value held after a command that was performed, or its item
pub content_size : (v : View) (c : Command) (r : Row) (p : List ℕ) (d : Performed)
    → settings_rule v.settings ≡ true → link_rule v.link ≡ true → row_rule r ≡ true → perform v.link c r.kind p ≡ Ok d
    → length (content (after v d.effect d.link) c r.kind p) ≤ max_content
content_size v c r p d s l t h = by c h
  where
    after_size : (c : Command) → perform v.link c r.kind p ≡ Ok d → length (value_of (after v d.effect d.link) r.kind) ≤ max_content
    after_size c h = value_size (after v d.effect d.link) s (link_left v.link c r p d l t h) r.kind (λ slot k. slot_below r slot k t)

    by : (c : Command) → perform v.link c r.kind p ≡ Ok d → length (content (after v d.effect d.link) c r.kind p) ≤ max_content
    by Get h = unfold content in after_size Get h
    by Set h = unfold content in after_size Set h
    by Insert h = unfold content perform insert_port in omega (arith, eqb-true (length p) 2 (by_nine (eqb (length p) 2) _ d h))
    by Remove h = unfold content perform remove_port in omega (arith, eqb-true (length p) 2 (by_nine (eqb (length p) 2) _ d h))
