-- PROMISE: what the host writes is what it means. A command's frame is written exactly where link, number and command are good, the body has
-- at most 1,300 octets and the frame fits; else nothing is, and the count is 0, the code's None. A body that `write_command` frames has its
-- link and its number in the header, its command behind it and then the payload; it is never a reset, so that it is one that a host of a run
-- may send; and the reader of its frame gets this body and no other. A reset is 7E 80 01 02 92 7E.
use mathlib.Core.Logic.{◌≢◌}
use mathlib.Core.Path.{◌≡◌, refl, sym, ap, ◌∙◌}
use mathlib.Core.Bool.{true, false}
use mathlib.Core.List.{List, [], ◌∷◌, ◌++◌}
use Prim.Native.Nat.{ℕ, ◌+◌, ◌/◌, ◌%◌, ◌≤◌, ◌<◌}
use native.Mathlib.Omega.{arith}
use borrow.Author.Tests.{lt-ltb, ne_eqb}
use lib.ListN.{length, get_or, drop}
use lib.Seq.{drop-append_seam}
use Rattle.octets.specs.Body.{header_of, SpinelBody}
use Rattle.octets.specs.Octets.{Octets}
use Rattle.octets.proofs.LawsTests.{by_test}
use Rattle.octets.proofs.LawsLists.{octets_more, octets_append}
use Rattle.std.specs.Prelude.{Result, Ok, Err}
use Rattle.packed.specs.Packed.{packed, packed_in, packed_at, read}
use Rattle.packed.specs.declared.Fault.{Fault}
use Rattle.packed.specs.declared.Packed.{Packed}
use Rattle.packed.proofs.ReadsBack.{packed_size, packed_octets, reads_back}
use Rattle.packed.proofs.OneSpelling.{octet_alone}
use Rattle.octets.specs.LittleEndian.{le_octets}
use Rattle.frame.specs.Kind.{is_flag, is_escape, is_skipped}
use Rattle.frame.specs.Fcs.{fcs, fcs_from, fcs_octet, fcs_bits, fcs_bit}
use Rattle.frame.specs.Frame.{frame, stuffed, with_check, sent, written, writing}
use Rattle.hdlc.specs.Wire.{checked_in}
use Rattle.hdlc.proofs.RoundTrip.{frame_checked}
use Rattle.transactions.specs.Writing.{header, command_body, reset_body, Sendable, is_sendable, writing_command, writing_reset}
use Rattle.transactions.specs.Exchange.{is_reset, may_send}
use Rattle.transactions.proofs.LawsKind.{header_top, header_link, header_number}
use Rattle.transactions.proofs.LawsExchange.{reset_is}
use Rattle.transactions.proofs.LawsWriting.{sendable_told, sendable_holds, body_size, fits_not, fits_written, command_none, command_long, command_fitting}

abbrev number_is : Result Packed Fault → ℕ
number_is (Ok p) = p.number
number_is (Err f) = 0

-- ---- what is written, and where nothing is

module _ (l n c : ℕ) (payload out : List ℕ) where
  pub command_written : Sendable l n c → length (command_body l n c payload) ≤ 1300 → length (frame (command_body l n c payload)) ≤ length out
      → writing_command l n c payload out ≡ writing (command_body l n c payload) out
  command_written k most room =
      command_fitting l n c payload out (sendable_holds l n c k) most ∙ fits_written (command_body l n c payload) out room

  pub command_refused : (Sendable l n c → ⊥) → writing_command l n c payload out ≡ written 0 out
  command_refused none =
      command_none l n c payload out (by_test (is_sendable l n c) (λ t. absurd (none (sendable_told l n c t))) (λ t. t))

  pub command_too_long : Sendable l n c → 1300 < length (command_body l n c payload) → writing_command l n c payload out ≡ written 0 out
  command_too_long k long = command_long l n c payload out (sendable_holds l n c k) long

  pub command_no_room : Sendable l n c → length (command_body l n c payload) ≤ 1300 → length out < length (frame (command_body l n c payload))
      → writing_command l n c payload out ≡ written 0 out
  command_no_room k most small =
      command_fitting l n c payload out (sendable_holds l n c k) most ∙ fits_not (command_body l n c payload) out small

-- ---- a command's body

module _ (l n c : ℕ) (payload : List ℕ) (fit : Sendable l n c) where
  abbrev body : List ℕ
  body = command_body l n c payload

  -- its parts

  pub header_of_lem : (header_of body / 64 ≡ 2) × (header_of body % 64 / 16 ≡ l) × (header_of body % 16 ≡ n)
  header_of_lem =
      let link : l < 4 = omega (arith, fit.link) in
      let number : n < 16 = omega (arith, fit.most) in
      (header_top l n link number, header_link l n link number, header_number l n number)

  pub command_back : packed_at body 1 ≡ read c (1 + length (packed c))
  command_back = reads_back (header l n ∷ []) payload c fit.packs

  pub payload_behind : drop (1 + length (packed c)) body ≡ payload
  payload_behind =
      let next : 1 + length (packed c) ≡ length (header l n ∷ packed c) = omega arith in
      ap (λ k. drop k body) next ∙ drop-append_seam (header l n ∷ packed c) payload

  pub written_spinel : length body ≤ 1300 → SpinelBody body
  written_spinel most = (omega (arith, body_size l n c payload, (packed_size c).0), most, header_of_lem.0)

  -- it is no reset

  second_octet : get_or body 1 0 ≢ 1
  second_octet e =
      let inside : 1 < length body = omega (arith, body_size l n c payload, (packed_size c).0) in
      let alone = octet_alone body 1 inside (rw e (omega arith)) in
      let same : read c (1 + length (packed c)) ≡ read 1 2 = sym command_back ∙ alone ∙ ap (λ x. read x 2) e in
      fit.other (ap number_is same)

  pub no_reset : (links : ℕ) → is_reset links body ≡ false
  unfolding is_reset
  no_reset links = rw (ne_eqb (get_or body 1 0) 1 second_octet)

  pub written_may_be_sent : (links : ℕ) → may_send links l (packed c ++ payload) ≡ true
  unfolding may_send is_reset
  written_may_be_sent links = rw (lt-ltb l 4 (omega (arith, fit.link)), ne_eqb (get_or (packed c ++ payload) 0 0) 1 second_octet)

  -- its frame

  octets_are : Octets payload → Octets body
  octets_are o =
      octets_more (header l n) (packed c ++ payload) (omega (arith, fit.link, fit.most)) (octets_append (packed c) payload (packed_octets c fit.packs) o)

  pub command_checked : Octets payload → length body ≤ 1300 → checked_in [] (frame body) ≡ body ∷ []
  command_checked o most = frame_checked body (written_spinel most) (octets_are o)

-- NOOP on link 0 under 1, and GET of the channel on link 1 under 2: 01's bodies 81 00 and 92 02 21, framed
pub worked_frames : (frame (command_body 0 1 0 []) ≡ 0x7e ∷ 0x81 ∷ 0x00 ∷ 0x53 ∷ 0x9a ∷ 0x7e ∷ [])
    × (frame (command_body 1 2 2 (0x21 ∷ [])) ≡ 0x7e ∷ 0x92 ∷ 0x02 ∷ 0x21 ∷ 0x36 ∷ 0xf9 ∷ 0x7e ∷ [])
unfolding frame stuffed with_check sent is_flag is_escape is_skipped fcs fcs_from fcs_octet fcs_bits fcs_bit le_octets packed packed_in
worked_frames = (refl, refl)

-- ---- a reset

pub reset_frame : frame reset_body ≡ 0x7e ∷ 0x80 ∷ 0x01 ∷ 0x02 ∷ 0x92 ∷ 0x7e ∷ []
unfolding frame stuffed with_check sent is_flag is_escape is_skipped fcs fcs_from fcs_octet fcs_bits fcs_bit le_octets
reset_frame = refl

pub reset_written : (out : List ℕ) → 6 ≤ length out → writing_reset out ≡ written 6 ((0x7e ∷ 0x80 ∷ 0x01 ∷ 0x02 ∷ 0x92 ∷ 0x7e ∷ []) ++ drop 6 out)
unfolding writing
reset_written out room = fits_written reset_body out (rw reset_frame room) ∙ rw reset_frame

pub reset_no_room : (out : List ℕ) → length out < 6 → writing_reset out ≡ written 0 out
reset_no_room out small = fits_not reset_body out (rw reset_frame small)

pub reset_is_one : (links : ℕ) → 1 ≤ links → is_reset links reset_body ≡ true
reset_is_one links some = reset_is links some
