use mathlib.Core.Path.{◌≡◌}
use lib.ListN.{length}
use Rattle.desk_feed.specs.Feed.{whole}
use Rattle.desk_feed.specs.Laws.{Stands}
use Rattle.desk_feed.proofs.feed.Given as goal

abbrev pub invariant-loop-taken : goal.invariant-loop-taken
invariant-loop-taken l =
    Stands (whole l.initial.state l.initial.first l.initial.second l.initial.hold) l.block l.initial.out (whole l.state l.first l.second l.hold) l.out l.taken l.put ×
    (length l.first ≡ length l.initial.first) × (length l.second ≡ length l.initial.second) × (length l.hold ≡ length l.initial.hold)
