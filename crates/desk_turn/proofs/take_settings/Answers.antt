-- Each arm is its case of the definition.
-- Assumes nothing.
use mathlib.Core.Path.{refl, sym, ◌∙◌}
use Rattle.printing.specs.Printing.{put-none}
use Rattle.desk_turn.proofs.take_settings.Goals as goal

pub returns-in-Ok : goal.returns-in-Ok
returns-in-Ok c =
    let a = c.args in
    rw (sym c.begin.ensures ∙ c.in-Ok.is) (record { phase = refl; put = put-none a.out.now a.at })

pub returns-in-Err : goal.returns-in-Err
returns-in-Err c =
    rw (sym c.begin.ensures ∙
    c.in-Err.is)
    (record { phase = refl; put = rw c.refusal.ensures at c.put_line.ensures })
