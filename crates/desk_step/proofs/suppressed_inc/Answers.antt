-- The line is that of the decision and of what the room then holds.
-- Assumes nothing.
use Rattle.suppressed_verdicts.specs.Calls as Suppressed
use Rattle.desk_step.specs.Desk.{suppressed_inc}
use Rattle.desk_lines.specs.Lines.{alone, decision_line, per_minute}
use Rattle.parties.specs.Parties.{sent}
use Rattle.desk_step.specs.Laws.{line-told}
use Rattle.desk_step.proofs.suppressed_inc.Goals as goal

pub returns : goal.returns
unfolding suppressed_inc
returns c =
    let a = c.args in
    let key = sent (alone a.room.now) a.key.now in
    let told = rw (c.alone-caller.ensures, c.per_minute.ensures) at c.inc-d.ensures in
    line-told (decision_line a.t) a.key.now (Suppressed.inc a.settings a.room.now a.t key (per_minute a.rate) a.n a.draw)
    c.inc-d.result
    c.inc-d.new.room c.stored_of.result c.decision_line.result told c.stored_of.ensures c.decision_line.ensures
