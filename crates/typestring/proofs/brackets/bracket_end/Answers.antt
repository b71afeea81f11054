-- While a bracket is open, an octet is left; each octet opens one, closes one or does neither.
use Rattle.std.proofs.Common.{rules, ◌≢◌, ◌≡◌, ◌+◌, get_or, drop, suc, arith}
use borrow.Author.Tests.{ne_eqb}
use Rattle.typestring.proofs.LawsBrackets.{past, next_open, past_none, past_next, past_least, past_brackets, brackets_within}
use Rattle.typestring.proofs.brackets.bracket_end.Goals as goal
use Rattle.typestring.proofs.brackets.bracket_end.Goals.{Joined-octet, in-40, in-41, in_default}

pub loop-index-init : goal.loop-index-init
loop-index-init c = record { inside = omega (arith, brackets_within c.args.octets.now 0 c.requires.0 c.requires.1); same = omega arith; some = omega arith }

pub overflow_add-unclosed : goal.overflow_add-unclosed
overflow_add-unclosed c = omega (arith, past_least (drop c.loop-index.index c.args.octets.now) c.loop-index.unclosed)

-- what the octet makes of the open brackets
on : (c : Joined-octet) → past (drop c.loop-index.index c.args.octets.now) c.loop-index.unclosed
    ≡ suc (past (drop (c.loop-index.index + 1) c.args.octets.now) c.match-octet.unclosed)
on c =
    let octet = get_or c.args.octets.now c.loop-index.index 0 in
    let now : c.match-octet.unclosed ≡ next_open octet c.loop-index.unclosed =
    elim c.match-octet.branch [
      | in-40 v ↦ rw v.in-40.is v.unclosed-is
      | in-41 v ↦ rw v.in-41.is v.unclosed-is
      | in_default v ↦ let none = v.in_default in
          let no40 : octet ≢ 40 = search rules in let no41 : octet ≢ 41 = omega arith in rw (ne_eqb octet 40 no40, ne_eqb octet 41 no41) v.unclosed-is
    ] in
    rw (← now) at (past_next c.args.octets.now c.loop-index.index c.loop-index.unclosed c.loop-index.invariant.some (omega arith))

pub returns-then-unclosed-eq0 : goal.returns-then-unclosed-eq0
returns-then-unclosed-eq0 c = λ t b.
    omega (arith, past_brackets c.args.octets.now t b, on (goal.at.returns-then-unclosed-eq0 c).Joined-octet, past_none (drop (c.loop-index.index + 1) c.args.octets.now) c.match-octet.unclosed c.if-unclosed-eq0.true)

pub loop-index-preserved : goal.loop-index-preserved
loop-index-preserved c =
    record {
      inside = c.loop-index.invariant.inside;
      same = omega (arith, on (goal.at.loop-index-preserved c).Joined-octet);
      some = omega arith;
    }

pub unreachable-requires : goal.unreachable-requires
unreachable-requires c = omega (arith, past_least (drop c.loop-index.index c.args.octets.now) c.loop-index.unclosed)
