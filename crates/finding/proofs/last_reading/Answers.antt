-- A word past the end is 0, as the definition reads it.
-- Assumes nothing.
use mathlib.Core.Path.{sym}
use lib.ListN.{get_or-eq_default}
use native.Mathlib.Omega.{arith}
use Rattle.finding.proofs.last_reading.Goals as goal

pub returns-then-room-le-LAST : goal.returns-then-room-le-LAST
returns-then-room-le-LAST c =
    let a = c.args in sym (get_or-eq_default a.room.now 0 (omega arith))
