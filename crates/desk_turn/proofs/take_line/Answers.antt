-- Each arm is its case of the definition.
-- Assumes nothing.
use mathlib.Core.Path.{refl}
use Rattle.printing.specs.Printing.{put-none}
use Rattle.desk_turn.specs.Lines.{turn}
use Rattle.desk_turn.proofs.take_line.Goals as goal

pub returns-in-Waiting : goal.returns-in-Waiting
unfolding turn
returns-in-Waiting c =
    let o = c.take_settings.ensures in
    rw c.in-Waiting.is (record { phase = o.phase; first = refl; second = refl; put = o.put })

pub returns-in-Open : goal.returns-in-Open
returns-in-Open c =
    rw c.in-Open.is
    c.put_step.ensures

pub returns-in-Ended : goal.returns-in-Ended
unfolding turn
returns-in-Ended c =
    let a = c.args in
    rw c.in-Ended.is (record { phase = refl; first = refl; second = refl; put = put-none a.out.now a.at })
