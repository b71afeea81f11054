-- The loops' invariants: whatever tree is printed at the start, what is left of its reading, with the list and the leaves so far, gives its
-- answer. The measures are made of the octets left and the brackets that may still be opened; the loop over an array's elements has its own.
use Rattle.std.proofs.Common.{length, ◌-◌, ◌≡◌, drop, ◌+◌, ◌*◌, ◌≤◌}
use Rattle.typestring.specs.Grammar.{Items, array}
use Rattle.typestring.specs.Calls.{PartFrom, ItemFrom}
use Rattle.datatype.specs.Reading.{item_reads, part_reads}
use Rattle.datatype.specs.Calls.{Room}
use Rattle.datatype.proofs.LawsDid.{Finishes}
use Rattle.datatype.proofs.reading.+reading_parts.Given as goal

abbrev pub decreases-read_item : goal.decreases-read_item
decreases-read_item l = 2 * (length l.types.now - l.at) + l.depth

abbrev pub decreases-read_sequence : goal.decreases-read_sequence
decreases-read_sequence l = 2 * (length l.types.now - l.at) + l.depth + 1

abbrev pub invariant-read_item-loop-read : goal.invariant-read_item-loop-read
invariant-read_item-loop-read l =
    (l.read.next ≤ length l.part) × (l.read.leaves ≤ l.read.next + l.at) × (length l.list ≡ length l.fn.list)
    × ((t : Items) → ItemFrom (drop l.at l.types) l.depth (array t)
    → Finishes (item_reads (array t) l.part l.fn.start.next) l.fn.list l.fn.start.leaves (item_reads (array t) l.part l.read.next) l.list l.read.leaves)

abbrev pub decreases-read_item-loop-read : goal.decreases-read_item-loop-read
decreases-read_item-loop-read l = length l.part - l.read.next

abbrev pub invariant-read_sequence-loop-list : goal.invariant-read_sequence-loop-list
invariant-read_sequence-loop-list l =
    Room l.types l.part l.place l.read.next l.read.leaves × (l.at ≤ l.place) × (length l.list ≡ length l.fn.list)
    × ((t : Items) → PartFrom (drop l.at l.types) l.depth t
    → (u : Items) × PartFrom (drop l.place l.types) l.depth u
    × Finishes (part_reads t l.part l.fn.start.next) l.fn.list l.fn.start.leaves (part_reads u l.part l.read.next) l.list l.read.leaves)

abbrev pub decreases-read_sequence-loop-list : goal.decreases-read_sequence-loop-list
decreases-read_sequence-loop-list l = length l.types - l.place
