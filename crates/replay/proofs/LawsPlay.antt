-- Laws of one record: what an answered body leaves.
use mathlib.Core.Path.{◌≡◌}
use mathlib.Core.List.{List}
use Prim.Native.Nat.{ℕ, ◌≤◌}
use lib.ListN.{length, take}
use lib.Seq.{take-append_seam}
use Rattle.octets.specs.Writing.{Wrote}
use Rattle.octets.proofs.LawsWriting.{front_count, front_held}

-- what was written from the front, as far as its end, is there
pub front_taken : {space after : List ℕ} {len : ℕ} {xs : List ℕ} → length xs ≤ length space → Wrote space after 0 len xs → take len after ≡ xs
front_taken {xs = xs} room w = rw (front_count room w, front_held room w) (take-append_seam xs _)
