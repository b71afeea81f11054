-- What a read gives follows what came before it.
use Rattle.std.proofs.Common.{rules, ◌≡◌, ℕ, ◌+◌, ◌≤◌, ◌-◌, List, ◌++◌, length, take, subst, length-take-le}
use Rattle.std.proofs.lemmas.Slice.{overwrites}
use Rattle.std.specs.Io.KnownBytes.{Consumes}
use Rattle.std.proofs.KnownBytes.{Consumes-trans}
use borrow.Rule.Slice.PartMut.{put_mid, post_of}
use lib.Seq.{take-append-add, take-append-le}
use Rattle.streams.proofs.read_full.Goals as goal

module _ (a k n : ℕ) (xs ys : List ℕ) (within : a ≤ length xs) (fits : n ≤ length ys) where
  -- the first a and the n that were put behind them are the first a + n
  joined : take a xs ++ take n ys ≡ take (a + n) (put_mid a k xs ys)
  joined = cc (length-take-le a xs within, take-append-add (take a xs) (ys ++ post_of a k xs) n, take-append-le n ys (post_of a k xs) fits)

  room : a + n ≤ length (put_mid a k xs ys)
  room = search (rules, overwrites)

pub loop-done-preserved : goal.loop-done-preserved
loop-done-preserved g c =
    let at = c.loop-done.done in
    let left = length c.loop-done.space - at in
    let before = c.loop-done.invariant in
    let read = c.read_some-count in
    record {
      within = room at left read.result c.loop-done.space read.new.space before.within read.ensures.in_bounds;
      came =
          subst (Consumes _ _) (joined at left read.result c.loop-done.space read.new.space before.within read.ensures.in_bounds)
          (Consumes-trans _ _ _ _ _ before.came read.ensures.octets);
    }
