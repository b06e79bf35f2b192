-- Nothing is done where there is no room, or nothing to end.
-- Assumes nothing.
use mathlib.Core.Path.{refl}
use borrow.Author.Tests.{lt-ltb, le-ltb}
use Rattle.printing.specs.Printing.{put-none}
use Rattle.desk_feed.specs.Feed.{finishing}
use Rattle.desk_feed.proofs.finish.Goals as goal
use Rattle.desk_feed.proofs.finish.Goals.{then-out-lt-LONGEST_LINE-via-then-out-lt-LONGEST_LINE, then-out-lt-LONGEST_LINE-via-else-out-lt-LONGEST_LINE+then-is_over}

pub returns-then-out-lt-LONGEST_LINE : goal.returns-then-out-lt-LONGEST_LINE
unfolding finishing
returns-then-out-lt-LONGEST_LINE c =
    let a = c.args in
    elim c.then-out-lt-LONGEST_LINE.branch [
      | then-out-lt-LONGEST_LINE-via-then-out-lt-LONGEST_LINE w ↦ rw (lt-ltb _ _ w.if-out-lt-LONGEST_LINE.true)
          (record { phase = refl; first = refl; second = refl; put = put-none a.out.now 0 })
      | then-out-lt-LONGEST_LINE-via-else-out-lt-LONGEST_LINE+then-is_over w ↦
          rw (le-ltb _ _ w.if-out-lt-LONGEST_LINE.false, ← w.is_over.ensures, w.if-is_over.true)
          (record { phase = refl; first = refl; second = refl; put = put-none a.out.now 0 })
    ]

pub returns : goal.returns
unfolding finishing
returns c =
    rw (
      le-ltb _ _ c.if-out-lt-LONGEST_LINE.false,
      ← c.is_over.ensures,
      c.if-is_over.false,
    )
    c.end_line.ensures
