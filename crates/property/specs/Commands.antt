-- The numbers of commands and of their replies (01, Commands).
use Rattle.std.specs.Prelude.{ℕ}

-- "NOOP (0) .. RESET (1)"
abbrev pub noop : ℕ
noop = 0

abbrev pub reset : ℕ
reset = 1

-- "GET (2) and SET (3) reply command 6 with number and value held; INSERT (4) replies 7 and REMOVE (5) replies 8 with the item"
abbrev pub value_get : ℕ
value_get = 2

abbrev pub value_set : ℕ
value_set = 3

abbrev pub value_insert : ℕ
value_insert = 4

abbrev pub value_remove : ℕ
value_remove = 5

abbrev pub value_is : ℕ
value_is = 6

abbrev pub value_inserted : ℕ
value_inserted = 7

abbrev pub value_removed : ℕ
value_removed = 8

-- "Header: two bits 10, two bits link, four bits transaction": that of link 0 and transaction 0
abbrev pub spinel_header : ℕ
spinel_header = 0x80
