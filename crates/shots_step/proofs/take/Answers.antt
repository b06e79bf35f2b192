-- The line is that of the answer and of what the room then holds.
-- Assumes nothing.
use Rattle.gateway.specs.Gateway.{shot}
use Rattle.parties.specs.Parties.{sent}
use Rattle.desk_lines.specs.Lines.{alone, per_minute}
use Rattle.shots_step.specs.Shots.{shot_of}
use Rattle.shots_step.specs.Laws.{line-told}
use Rattle.shots_step.proofs.take.Goals as goal

pub returns : goal.returns
unfolding shot_of
returns c =
    let a = c.args in
    let key = sent (alone a.room.now) a.key.now in
    let told = rw (c.alone-caller.ensures, c.per_minute.ensures) at c.shot-a.ensures in
    line-told a.l.t a.key.now (shot a.settings a.table.now a.room.now a.l.t key a.l.number (per_minute a.l.rate) a.l.draw)
    c.shot-a.result c.shot-a.new.table c.shot-a.new.room c.stored_of.result c.shot_line.result
    told c.stored_of.ensures c.shot_line.ensures
