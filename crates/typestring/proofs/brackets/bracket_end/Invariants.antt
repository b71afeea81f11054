-- The invariant: the bracket that closes the last of the open ones, looked for from the octet reached on, is the one that is looked for from
-- the start on, and it stands in the string.
use Rattle.std.proofs.Common.{◌≡◌, ◌+◌, ◌≤◌, ◌<◌, length, drop}
use Rattle.typestring.proofs.LawsBrackets.{past}
use Rattle.typestring.proofs.brackets.bracket_end.Given as goal

abbrev pub invariant-loop-index : goal.invariant-loop-index
invariant-loop-index l = record {
  inside : past l.octets 1 ≤ length l.octets;
  same : l.index + past (drop l.index l.octets) l.unclosed ≡ past l.octets 1;
  some : 0 < l.unclosed;
}
