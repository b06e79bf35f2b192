-- Each turn reads a byte or more and answers it, or is the last.
-- Assumes nothing.
use Rattle.std.proofs.Common.{◌-◌, List, ℕ}
use Rattle.desk_feed.specs.Feed.{whole}
use Rattle.desk_run.specs.Run.{Standing}
use Rattle.desk_run.proofs.serve.Given as goal

abbrev pub invariant-loop-read : goal.invariant-loop-read
invariant-loop-read g l =
    (xs : List ℕ) × Standing (whole l.fn.desk l.fn.first l.fn.second l.fn.hold) xs (whole l.state l.first l.second l.hold) l.read l.put

abbrev pub decreases-loop-read : goal.decreases-loop-read
decreases-loop-read g l = 18446744073709551615 - l.read
