-- The invariant: the bytes taken so far went in one after the other, and what is left to take is what is left of the block.
-- Assumes nothing.
use mathlib.Core.Path.{◌≡◌, refl, ◌∙◌}
use Prim.Native.Nat.{◌+◌, ◌<◌}
use lib.ListN.{length}
use Rattle.desk_turn.specs.Lines.{roomy}
use Rattle.desk_feed.specs.Feed.{whole}
use Rattle.desk_feed.specs.Laws.{stands-first, stands-next, stands-full, stands-end}
use native.Mathlib.Omega.{arith}
use Rattle.desk_feed.proofs.feed.Goals as goal
use Rattle.desk_feed.proofs.feed.Goals.{then-out-lt-LONGEST_LINE-via-then-out-lt-LONGEST_LINE}
use Rattle.desk_feed.proofs.feed.Goals.{then-out-lt-LONGEST_LINE-via-else-out-lt-LONGEST_LINE+then-out-put}

pub loop-taken-init : goal.loop-taken-init
loop-taken-init c =
    let a = c.args in
    (stands-first (whole a.desk a.first.now a.second.now a.hold.now) a.block.now a.out.now, refl, refl, refl)

pub returns-then-out-lt-LONGEST_LINE : goal.returns-then-out-lt-LONGEST_LINE
returns-then-out-lt-LONGEST_LINE c =
    let a = c.args in
    let k = c.loop-taken in
    let full : length a.out.now < k.put + roomy =
    elim c.then-out-lt-LONGEST_LINE.branch [
      | then-out-lt-LONGEST_LINE-via-then-out-lt-LONGEST_LINE w ↦ omega (arith, k.invariant.0.same, w.if-out-lt-LONGEST_LINE.true)
      | then-out-lt-LONGEST_LINE-via-else-out-lt-LONGEST_LINE+then-out-put w ↦
          omega (arith, k.invariant.0.same, w.if-out-lt-LONGEST_LINE.false, w.if-out-put.true)
    ] in
    stands-full (whole a.desk a.first.now a.second.now a.hold.now) a.block.now a.out.now _ _ _ _ k.invariant.0 _ _ _ _ refl full

pub loop-taken-preserved : goal.loop-taken-preserved
loop-taken-preserved c =
    let a = c.args in
    let k = c.loop-taken in
    let f = c.feed_byte-fed in
    let s = k.invariant.0 in (
      stands-next (whole a.desk a.first.now a.second.now a.hold.now) a.block.now a.out.now _ _ _ _ s _ f.result _ _ _ _ refl
          (omega arith) (omega (arith, s.same, c.if-out-put.false, c.if-out-lt-LONGEST_LINE.false)) f.ensures f.auto.out,
      f.auto.first ∙ k.invariant.1,
      f.auto.second ∙ k.invariant.2,
      f.auto.hold ∙ k.invariant.3,
    )

pub returns : goal.returns
returns c =
    let a = c.args in
    let k = c.loop-taken in
    let e : length a.block.now ≡ k.taken = omega arith in
    rw e
    (stands-end (whole a.desk a.first.now a.second.now a.hold.now) a.block.now a.out.now _ _ _ _ k.invariant.0 _ _ _ _ refl (omega arith))
