-- What a body is to the table, by its octets.
use mathlib.Core.Logic.{◌≢◌, ◌⊎◌, inl, inr}
use mathlib.Core.Path.{◌≡◌, refl, sym, ap, subst}
use mathlib.Core.List.{List, ◌∷◌}
use Prim.Native.Nat.{ℕ, ◌/◌, ◌%◌, ◌<◌}
use native.Mathlib.Omega.{arith}
use borrow.Author.Tests.{le-ltb, eq-eqb, ltb-false, eqb-true}
use lib.Dec.{eqb, ltb}
use lib.ListN.{length}
use Rattle.octets.specs.Body.{min_body, max_body, header_of, SpinelBody}
use Rattle.octets.specs.Comparing.{is_same}
use Rattle.octets.proofs.LawsTests.{by_test, impossible}
use Rattle.octets.proofs.LawsComparing.{same_equal, same_self}
use Rattle.transactions.specs.declared.kind.BodyKind.TheVariants.{Announcement, Reply, Other}
use Rattle.transactions.specs.Kind.{announcement, kind}
use Rattle.transactions.specs.Writing.{header}

pub announces : kind announcement ≡ Announcement
unfolding kind
announces = rw (same_self announcement)

-- the announcement and no other body
pub announced_only : (b : List ℕ) → kind b ≡ Announcement → b ≡ announcement
unfolding kind
announced_only b e =
    by_test (is_same b announcement) (λ t. same_equal b announcement t)
    (λ t. by_test (ltb (length b) min_body) (λ u. impossible cc)
    (λ u. by_test (ltb max_body (length b)) (λ v. impossible cc)
    (λ v. by_test (eqb (header_of b / 64) 2) (λ w. impossible cc) (λ w. impossible cc))))

-- the number in a header has four bits
pub reply_below : (b : List ℕ) (n : ℕ) → kind b ≡ Reply n → n < 16
unfolding kind
reply_below b n e =
    by_test (is_same b announcement) (λ t. impossible cc)
    (λ t. by_test (ltb (length b) min_body) (λ u. impossible cc)
    (λ u. by_test (ltb max_body (length b)) (λ v. impossible cc)
    (λ v. by_test (eqb (header_of b / 64) 2) (λ w. let number : header_of b % 16 ≡ n = cc in omega arith) (λ w. impossible cc))))

-- any other Spinel body is a reply under the number in its header
pub spinel_reply : (b : List ℕ) → SpinelBody b → b ≢ announcement → kind b ≡ Reply (header_of b % 16)
unfolding kind
spinel_reply b s other =
    by_test (is_same b announcement) (λ t. absurd (other (same_equal b announcement t)))
    (λ t. rw (t, le-ltb (length b) min_body s.0, le-ltb max_body (length b) s.1, eq-eqb (header_of b / 64) 2 s.2))

-- what is no Spinel body is neither
pub other_kind : (b : List ℕ) → (SpinelBody b → ⊥) → kind b ≡ Other
unfolding kind
other_kind b none =
    by_test (is_same b announcement) (λ t. absurd (none (subst SpinelBody (sym (same_equal b announcement t)) (omega arith, omega arith, refl))))
    (λ t. by_test (ltb (length b) min_body) (λ u. rw (t, u))
    (λ u. by_test (ltb max_body (length b)) (λ v. rw (t, u, v))
    (λ v. by_test (eqb (header_of b / 64) 2)
    (λ w. absurd (none (ltb-false (length b) min_body u, ltb-false max_body (length b) v, eqb-true (header_of b / 64) 2 w)))
    (λ w. rw (t, u, v, w)))))

-- ---- a body under a header

pub header_number : (l n : ℕ) → n < 16 → header l n % 16 ≡ n
header_number l n h = omega arith

pub header_link : (l n : ℕ) → l < 4 → n < 16 → header l n % 64 / 16 ≡ l
header_link l n k h = omega arith

pub header_top : (l n : ℕ) → l < 4 → n < 16 → header l n / 64 ≡ 2
header_top l n k h = omega arith

module _ (l n : ℕ) (rest : List ℕ) (above : 0 < n) where
  -- one under a number from 1 on is no announcement
  pub no_announcement : header l n ∷ rest ≢ announcement
  no_announcement e = let z = ap header_of e in absurd (omega arith)

  pub reply_or_other : n < 16 → (kind (header l n ∷ rest) ≡ Other) ⊎ (kind (header l n ∷ rest) ≡ Reply n)
  unfolding kind
  reply_or_other below =
      let b = header l n ∷ rest in
      let number = header_number l n below in
      by_test (is_same b announcement) (λ t. absurd (no_announcement (same_equal b announcement t)))
      (λ t. by_test (ltb (length b) min_body) (λ u. inl cc)
      (λ u. by_test (ltb max_body (length b)) (λ v. inl cc)
      (λ v. by_test (eqb (header l n / 64) 2) (λ w. inr cc) (λ w. inl cc))))
