-- By whether there is a series.
use mathlib.Core.Path.{◌∙◌, ap}
use lib.Ieee.{Float}
use Rattle.common.specs.Limits.{rate_back}
use Rattle.settings.specs.Settings.{window_in}
use Rattle.shared_opened.specs.Opened.{old_rate_at}
use Rattle.shared_opened.proofs.old_rate.Goals as goal
use Rattle.std.specs.Prelude.{Some}

pub returns-then-series : goal.returns-then-series
unfolding old_rate_at
returns-then-series c =
    let a = c.args in
    rw c.if-series.true
    (ap (λ (y : Float). Some (record { 0 = y })) (c.from_stored_window_limit-rate.ensures ∙
    ap (λ (d : Float). rate_back (window_in a.settings) d a.x.limit) c.divisor.ensures))

pub returns : goal.returns
unfolding old_rate_at
returns c =
    rw c.if-series.false
