-- Where there is not a word, there are no slots.
-- Assumes nothing.
use Rattle.std.proofs.Common.{sym}
use lib.ListN.{get_or-eq_default}
use Rattle.desk_lines.proofs.slots_of.Goals as goal

pub returns-then-w-le-SLOTS : goal.returns-then-w-le-SLOTS
returns-then-w-le-SLOTS c =
    sym (get_or-eq_default c.args.w.now 0 c.if-w-le-SLOTS.true)
