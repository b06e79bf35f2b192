-- The tests of the definition, in its order.
use borrow.Author.Tests.{le-leb, lt-leb, lt-ltb, le-ltb, eq-eqb, ne_eqb}
use Rattle.rules.specs.Suppressed.{reach_of}
use Rattle.forecast_opened.proofs.reach_of.Goals as goal

pub returns-then-forecast-hard : goal.returns-then-forecast-hard
unfolding reach_of
returns-then-forecast-hard c =
    simp (eq-eqb _ _ c.if-forecast-hard.true)

pub returns-then-forecast-soft : goal.returns-then-forecast-soft
unfolding reach_of
returns-then-forecast-soft c =
    simp (ne_eqb _ _ c.if-forecast-hard.false, le-leb _ _ c.if-forecast-soft.true)

pub returns-then-hard-forecast : goal.returns-then-hard-forecast
unfolding reach_of
returns-then-hard-forecast c =
    simp (ne_eqb _ _ c.if-forecast-hard.false, lt-leb _ _ c.if-forecast-soft.false, lt-ltb _ _ c.if-hard-forecast.true)

pub returns : goal.returns
unfolding reach_of
returns c =
    simp (ne_eqb _ _ c.if-forecast-hard.false, lt-leb _ _ c.if-forecast-soft.false, le-ltb _ _ c.if-hard-forecast.false)
