-- Words that are no table are left; a table's are zeros then.
-- Assumes nothing.
use Rattle.base.specs.Decides.{decided, undecided}
use Rattle.gateway.proofs.Laws.{season-refused, season-done}
use Rattle.std.proofs.Common.{ap}
use Rattle.std.proofs.Common.{not}
use Rattle.gateway.proofs.new_season.Goals as goal

pub returns-then-not-sized : goal.returns-then-not-sized
returns-then-not-sized c =
    let o = c.sized in
    season-refused c.args.table.now (undecided o.result (ap not c.if-not-sized.true) o.ensures)

pub returns : goal.returns
returns c =
    let o = c.sized in
    season-done c.args.table.now _ (decided o.result (ap not c.if-not-sized.false) o.ensures) c.zero.ensures
