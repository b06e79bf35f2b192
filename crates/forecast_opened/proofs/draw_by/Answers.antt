-- Each part is what its function says.
use Rattle.rules.specs.Suppressed.{drawn}
use Rattle.forecast_opened.proofs.draw_by.Goals as goal

pub returns : goal.returns
unfolding drawn
returns c =
    rw (c.declined_by.ensures, c.admits-is_allowed.ensures)
