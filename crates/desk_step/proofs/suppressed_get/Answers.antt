-- The line is that of the snapshot and of what the room then holds.
-- Assumes nothing.
use Rattle.suppressed_verdicts.specs.Calls as Suppressed
use Rattle.desk_step.specs.Desk.{suppressed_get}
use Rattle.desk_lines.specs.Lines.{alone, snapshot_line}
use Rattle.parties.specs.Parties.{sent}
use Rattle.desk_step.specs.Laws.{line-told}
use Rattle.desk_step.proofs.suppressed_get.Goals as goal

pub returns : goal.returns
unfolding suppressed_get
returns c =
    let a = c.args in
    let key = sent (alone a.room.now) a.key.now in
    let told = rw c.alone-caller.ensures at c.get-a.ensures in
    line-told (snapshot_line a.t) a.key.now (Suppressed.get a.settings a.room.now a.t key) c.get-a.result c.get-a.new.room
    c.stored_of.result c.snapshot_line.result told c.stored_of.ensures c.snapshot_line.ensures
