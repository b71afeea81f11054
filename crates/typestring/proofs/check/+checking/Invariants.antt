-- The loop's invariant: what a part is found to be from `next` on, it is found to be from its start on. The measures are made of the octets
-- left and the brackets that may still be opened.
use Rattle.std.proofs.Common.{◌≤◌, length, ◌+◌, ◌-◌, ◌*◌}
use Rattle.typestring.proofs.LawsCheck.{Onward}
use Rattle.typestring.proofs.check.+checking.Given as goal

abbrev pub decreases-check_inside : goal.decreases-check_inside
decreases-check_inside l = 2 * (length l.types.now - l.at) + l.depth + 1

abbrev pub decreases-check_item : goal.decreases-check_item
decreases-check_item l = 2 * (length l.types.now - l.at) + l.depth

abbrev pub decreases-check_sequence : goal.decreases-check_sequence
decreases-check_sequence l = 2 * (length l.types.now - l.at) + l.depth + 1

abbrev pub invariant-check_sequence-loop-at : goal.invariant-check_sequence-loop-at
invariant-check_sequence-loop-at l = (l.at ≤ l.next) × (l.next ≤ length l.types) × Onward l.types l.depth l.in_array l.next l.at

abbrev pub decreases-check_sequence-loop-at : goal.decreases-check_sequence-loop-at
decreases-check_sequence-loop-at l = length l.types - l.next
