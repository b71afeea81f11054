-- PROMISE: what the host's receiving call gives, with 01's numbers as numerals. 11 if the table or the reader breaks its rules; else 12 under 1,302
-- octets of assembly; both read nothing and leave table, reader and buffer as they were. Else number, count, reader and buffer are the frame
-- reader's: with 1 the table is told the body, and with any other number it stays as it was.
use mathlib.Core.Logic.{◌≢◌}
use mathlib.Core.Path.{◌≡◌, ◌∙◌}
use mathlib.Core.Bool.{false}
use mathlib.Core.List.{List, [], ◌∷◌}
use Prim.Native.Nat.{ℕ, ◌≤◌, ◌<◌}
use borrow.Author.Tests.{eq-eqb, ne_eqb}
use lib.ListN.{length}
use Rattle.octets.proofs.LawsTests.{by_test}
use Rattle.hdlc.specs.declared.reader.Reader.{Reader}
use Rattle.hdlc.specs.Reader.{assembling, run}
use Rattle.hdlc.specs.Rules.{Rules as ReaderRules}
use Rattle.hdlc.proofs.ReaderRules.{rules_told as reader-told, rules_hold as reader-hold}
use Rattle.transactions.specs.Table.{Numbers, Rules, after_reply}
use Rattle.transactions.specs.Receiving.{unrefused, breaks_rules, receive}
use Rattle.transactions.proofs.TableRules.{rules_told, rules_hold}
use Rattle.transactions.proofs.LawsReceiving.{rules_kept, rules_both, receive_11, receive_12, receive_run}

module _ (d : Numbers) (r : Reader) (input a : List ℕ) where
  pub bad_state : (Rules d → ReaderRules r → ⊥)
      → receive d r input a ≡ record { number = 11; body = []; reports = []; read = 0; numbers = d; reader = r; assembly = a }
  bad_state broken =
      receive_11 d r input a
      (by_test (breaks_rules d r) (λ t. t) (λ t. let k = rules_kept d r t in absurd (broken (rules_told d k.0) (reader-told r k.1))))

  module _ (keeps : Rules d) (reader-keeps : ReaderRules r) where
    kept : breaks_rules d r ≡ false
    kept = rules_both d r (rules_hold d keeps) (reader-hold r reader-keeps)

    pub small_assembly : length a < 1302
        → receive d r input a ≡ record { number = 12; body = []; reports = []; read = 0; numbers = d; reader = r; assembly = a }
    small_assembly h = receive_12 d r input a kept h

    module _ (room : 1302 ≤ length a) where
      pub told_body : let o = run (assembling r a) input in o.fate.number ≡ 1
          → receive d r input a
          ≡ record {
            number = 1;
            body = o.fate.body;
            reports = (after_reply d o.fate.body).report ∷ [];
            read = o.read;
            numbers = (after_reply d o.fate.body).numbers;
            reader = o.state.reader;
            assembly = o.state.assembly;
          }
      unfolding unrefused
      told_body e = receive_run d r input a kept room ∙ rw (eq-eqb (run (assembling r a) input).fate.number 1 e)

      pub told_nothing : let o = run (assembling r a) input in o.fate.number ≢ 1
          → receive d r input a
          ≡ record {
            number = o.fate.number;
            body = [];
            reports = [];
            read = o.read;
            numbers = d;
            reader = o.state.reader;
            assembly = o.state.assembly;
          }
      unfolding unrefused
      told_nothing e = receive_run d r input a kept room ∙ rw (ne_eqb (run (assembling r a) input).fate.number 1 e)
