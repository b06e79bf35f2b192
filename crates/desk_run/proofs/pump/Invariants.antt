-- Each turn takes at least a byte, and what was put goes out before the next: so where every write is fine, the block is taken whole.
-- Assumes nothing.
use Rattle.std.proofs.Common.{length, ◌-◌, ◌≡◌, ◌≤◌, take}
use Rattle.desk_feed.specs.Feed.{whole}
use Rattle.desk_run.specs.Run.{Reached}
use Rattle.desk_run.proofs.pump.Given as goal

abbrev pub invariant-loop-at : goal.invariant-loop-at
invariant-loop-at g l =
    (length l.out ≡ length l.fn.out) × (l.at ≤ length l.block) ×
    Reached (whole l.fn.desk l.fn.first l.fn.second l.fn.hold) (take l.at l.block) l.fn.put (whole l.state l.first l.second l.hold) l.sent.put

abbrev pub decreases-loop-at : goal.decreases-loop-at
decreases-loop-at g l = length l.block - l.at
