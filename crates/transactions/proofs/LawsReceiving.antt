-- Laws of one receiving call.
use mathlib.Core.Path.{◌≡◌}
use mathlib.Core.Bool.{true, false}
use mathlib.Core.List.{List}
use Prim.Native.Nat.{ℕ, ◌≤◌, ◌<◌}
use borrow.Author.Tests.{not-false, lt-ltb, le-ltb}
use lib.ListN.{length}
use Rattle.octets.proofs.LawsTests.{both_told}
use Rattle.hdlc.specs.declared.reader.Reader.{Reader}
use Rattle.hdlc.specs.Reader.{max_gathered, assembling, run}
use Rattle.hdlc.specs.Rules.{rules as reader_rules}
use Rattle.transactions.specs.Table.{Numbers, rules}
use Rattle.transactions.specs.Receiving.{refused, unrefused, breaks_rules, receive}

pub rules_kept : (d : Numbers) (r : Reader) → breaks_rules d r ≡ false → (rules d ≡ true) × (reader_rules r ≡ true)
unfolding breaks_rules
rules_kept d r e = both_told (not-false _ e)

pub rules_both : (d : Numbers) (r : Reader) → rules d ≡ true → reader_rules r ≡ true → breaks_rules d r ≡ false
unfolding breaks_rules
rules_both d r p q = rw (p, q)

module _ (d : Numbers) (r : Reader) (input a : List ℕ) where
  pub receive_11 : breaks_rules d r ≡ true → receive d r input a ≡ refused 11 d r a
  unfolding receive
  receive_11 broken = rw broken

  module _ (kept : breaks_rules d r ≡ false) where
    pub receive_12 : length a < max_gathered → receive d r input a ≡ refused 12 d r a
    unfolding receive
    receive_12 small = rw (kept, lt-ltb (length a) max_gathered small)

    pub receive_run : max_gathered ≤ length a → receive d r input a ≡ unrefused d (run (assembling r a) input)
    unfolding receive
    receive_run room = rw (kept, le-ltb (length a) max_gathered room)
