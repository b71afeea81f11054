-- The reader's rules (01, Setup: "gathered count at most 1,302; a reader throwing away has count 1,302 and no escape pending").
use Rattle.std.specs.Prelude.{Bool, true, false, cond, ◌≡◌, ◌≤◌, ltb, eqb}
use Rattle.hdlc.specs.declared.reader.Reader.{Reader}
use Rattle.hdlc.specs.Reader.{max_gathered}

-- 01's sentence
pub record Rules (r : Reader) : Type 0 where
  pub count : r.count ≤ max_gathered
  pub discard : r.discarding ≡ true → (r.count ≡ max_gathered) × (r.escaped ≡ false)

-- the test that decides it (proofs/ReaderRules.antt)
unfoldable pub rules : Reader → Bool
rules r =
    cond (ltb max_gathered r.count) false
    (cond r.discarding (cond r.escaped false (eqb r.count max_gathered)) true)
