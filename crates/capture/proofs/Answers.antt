-- PROMISE: 02's numbers of all answers, each with its reason; reading in the order 22, 21, 23, writing in the order 23, 24. What is in range
-- is said with numerals in LawsRecords (`range_told`, `range_holds`).
use mathlib.Core.Path.{◌≡◌}
use mathlib.Core.Bool.{true, false}
use mathlib.Core.List.{List}
use Prim.Native.Nat.{ℕ, ◌+◌, ◌≤◌, ◌<◌}
use lib.ListN.{length, get_or, length-drop}
use lib.Seq.{get_or-drop}
use Rattle.std.proofs.Common.{rules}
use Rattle.octets.specs.LittleEndian.{le_at}
use Rattle.octets.proofs.LawsLittleEndian.{le_drop}
use Rattle.capture.specs.Records.{entry, record_of, is_in_range}
use Rattle.capture.specs.Reading.{one, no_record, read_at}
use Rattle.capture.specs.Writing.{refused, put, writing}
use Rattle.capture.proofs.LawsRecords.{record_length}

-- ---- reading

module _ (log : List ℕ) (at : ℕ) where
  pub past_end : length log < at → read_at log at ≡ no_record 22
  past_end h = search rules

  pub at_end_lem : length log ≡ at → read_at log at ≡ no_record 0
  at_end_lem h = search (rules, length-drop at log)

  pub under_five : at < length log → length log < at + 5 → read_at log at ≡ no_record 22
  under_five h k = search (rules, length-drop at log)

  module _ (head : at + 5 ≤ length log) where
    pub bad_mark : (get_or log at 0 ≡ 0x53 → get_or log (at + 1) 0 ≡ 0x50 → ⊥) → read_at log at ≡ no_record 21
    bad_mark other = search (rules, length-drop at log, get_or-drop at log 0 0, get_or-drop at log 1 0)

    module _ (one-is : get_or log at 0 ≡ 0x53) (two_is : get_or log (at + 1) 0 ≡ 0x50) where
      pub out_of_range : is_in_range (get_or log (at + 2) 0) (le_at log (at + 3) 2) ≡ false → read_at log at ≡ no_record 23
      out_of_range r = search (rules, length-drop at log, get_or-drop at log 0 0, get_or-drop at log 1 0, get_or-drop at log 2 0, le_drop log at 3 2)

      module _ (r : is_in_range (get_or log (at + 2) 0) (le_at log (at + 3) 2) ≡ true) where
        pub body_cut : length log < at + 5 + le_at log (at + 3) 2 → read_at log at ≡ no_record 22
        body_cut l = search (rules, length-drop at log, get_or-drop at log 0 0, get_or-drop at log 1 0, get_or-drop at log 2 0, le_drop log at 3 2)

        pub whole : at + 5 + le_at log (at + 3) 2 ≤ length log
            → read_at log at
            ≡ one (record { direction = get_or log (at + 2) 0; start = at + 5; len = le_at log (at + 3) 2; next = at + 5 + le_at log (at + 3) 2 })
        whole l = search (rules, length-drop at log, get_or-drop at log 0 0, get_or-drop at log 1 0, get_or-drop at log 2 0, le_drop log at 3 2)

-- ---- writing

module _ (space : List ℕ) (at direction : ℕ) (body : List ℕ) where
  pub write_out_of_range : is_in_range direction (length body) ≡ false → writing space at direction body ≡ refused 23 space
  write_out_of_range r = search rules

  module _ (r : is_in_range direction (length body) ≡ true) where
    pub write_no_room : length space < at + (5 + length body) → writing space at direction body ≡ refused 24 space
    write_no_room l = search (rules, record_length (entry direction body))

    pub write_fits : at + (5 + length body) ≤ length space → writing space at direction body ≡ put space at (record_of (entry direction body))
    write_fits l = search (rules, record_length (entry direction body))
