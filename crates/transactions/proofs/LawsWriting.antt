-- Laws of what the host writes.
use mathlib.Core.Path.{◌≡◌, ap, ap₂, ◌∙◌}
use mathlib.Core.Bool.{true, false, not, ◌&&◌}
use mathlib.Core.List.{List}
use Prim.Native.Nat.{ℕ, ◌+◌, ◌≤◌, ◌<◌}
use native.Mathlib.Omega.{arith}
use borrow.Author.Tests.{le-leb, leb-true, ne_eqb, eqb-false, not-true, lt-ltb, le-ltb}
use lib.Dec.{eqb, leb}
use lib.ListN.{length, take, drop, length-append}
use lib.Seq.{take-append_seam}
use Rattle.std.specs.Prelude.{Some, ◌≢◌}
use Rattle.std.proofs.lemmas.Option.{same_Some}
use Rattle.octets.specs.Writing.{Wrote}
use Rattle.octets.specs.Body.{max_body}
use Rattle.octets.proofs.LawsTests.{and_l, and_r}
use Rattle.octets.proofs.LawsWriting.{front_count, front_held}
use Rattle.packed.specs.Packed.{packed, max_packed}
use Rattle.frame.specs.Frame.{frame, written, writing}
use Rattle.frame.proofs.FrameBounds.{frame_bounds}
use Rattle.transactions.specs.Table.{max_number}
use Rattle.transactions.specs.Writing.{command_body, Sendable, is_sendable, nothing, writing_fitting, writing_command}

-- ---- what may be sent under a number

pub sendable_told : (l n c : ℕ) → is_sendable l n c ≡ true → Sendable l n c
unfolding is_sendable
sendable_told l n c e =
    let e₁ = and_l _ (not (eqb c 1)) e in
    let e₂ = and_l _ (leb c max_packed) e₁ in
    let e₃ = and_l _ (leb n max_number) e₂ in
    record {
      link = leb-true l 3 (and_l (leb l 3) (leb 1 n) e₃);
      from_1 = leb-true 1 n (and_r (leb l 3) (leb 1 n) e₃);
      most = leb-true n 15 (and_r (leb l 3 && leb 1 n) (leb n max_number) e₂);
      packs = leb-true c max_packed (and_r (leb l 3 && leb 1 n && leb n max_number) (leb c max_packed) e₁);
      other = eqb-false c 1 (not-true (eqb c 1) (and_r (leb l 3 && leb 1 n && leb n max_number && leb c max_packed) (not (eqb c 1)) e));
    }

pub sendable_holds : (l n c : ℕ) → Sendable l n c → is_sendable l n c ≡ true
unfolding is_sendable
sendable_holds l n c k =
    rw (le-leb l 3 k.link, le-leb 1 n k.from_1, le-leb n 15 k.most, le-leb c max_packed k.packs, ne_eqb c 1 k.other)

-- ---- a frame that the writer wrote, from the front of a space

pub record Framed (body : List ℕ) (count : ℕ) (space : List ℕ) : Type 0 where
  pub count_is : count ≡ length (frame body)
  pub stands : take count space ≡ frame body
  pub inside : count ≤ length space

pub framed : (body space space' : List ℕ) (count : ℕ) → written count space' ≡ writing body space → Framed body count space'
unfolding writing
framed body space space' count e =
    let n = ap (λ z. z.count) e in
    let s = ap (λ z. z.output) e in
    record {
      count_is = n;
      stands = ap₂ take n s ∙ take-append_seam (frame body) (drop (length (frame body)) space);
      inside = omega (arith, n, ap length s, length-append (frame body) (drop (length (frame body)) space));
    }

-- its count is no 0
pub some_octets : (body space space' : List ℕ) (count : ℕ) → written count space' ≡ writing body space → Some count ≢ Some 0
some_octets body space space' count e z =
    let same = same_Some count 0 z in absurd (omega (arith, same, (framed body space space' count e).count_is, (frame_bounds body).0))

-- ---- what fits

module _ (body out : List ℕ) where
  pub fits_not : length out < length (frame body) → writing_fitting body out ≡ nothing out
  unfolding writing_fitting
  fits_not h = rw (lt-ltb (length out) (length (frame body)) h)

  pub fits_written : length (frame body) ≤ length out → writing_fitting body out ≡ writing body out
  unfolding writing_fitting
  fits_written h = rw (le-ltb (length out) (length (frame body)) h)

  pub fits : {count : ℕ} {out' : List ℕ} → length (frame body) ≤ length out → Wrote out out' 0 count (frame body) → written count out' ≡ writing_fitting body out
  unfolding writing_fitting writing
  fits h w = rw (le-ltb (length out) (length (frame body)) h) (ap₂ written (front_count h w) (front_held h w))

-- ---- a command

pub body_size : (l n c : ℕ) (payload : List ℕ) → length (command_body l n c payload) ≡ 1 + length (packed c) + length payload
body_size l n c payload = omega (arith, length-append (packed c) payload)

module _ (l n c : ℕ) (payload out : List ℕ) where
  pub command_none : is_sendable l n c ≡ false → writing_command l n c payload out ≡ nothing out
  unfolding writing_command
  command_none e = rw e

  module _ (is : is_sendable l n c ≡ true) where
    pub command_long : max_body < length (command_body l n c payload) → writing_command l n c payload out ≡ nothing out
    unfolding writing_command
    command_long h = rw (is, lt-ltb max_body (length (command_body l n c payload)) h)

    pub command_fitting : length (command_body l n c payload) ≤ max_body → writing_command l n c payload out ≡ writing_fitting (command_body l n c payload) out
    unfolding writing_command
    command_fitting h = rw (is, le-ltb max_body (length (command_body l n c payload)) h)
