-- Each field is read from its word, or by the function of its name; the pass takes the look.
use Rattle.opened.specs.Slot.{opened}
use Rattle.opened.specs.Look.{opened-look}
use Rattle.opened.proofs.open_body.Goals as goal

pub returns : goal.returns
unfolding opened
returns c =
    let h = c.has_series-series.ensures in
    let a = c.args in
    rw (c.has_cached.ensures, c.series_pass-pass.ensures, h)
    (opened-look a.look a.window a.r a.last a.reading a.at a.u a.b.now)
