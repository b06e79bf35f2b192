-- Each arm is its case of the definition; a constant is its bits.
use mathlib.Core.Path.{sym, subst}
use lib.Ieee.{of_bits}
use Prim.Native.Nat.{◌≤◌}
use Rattle.settings.specs.Settings.{cache_in}
use Rattle.settings.specs.declared.Settings.{Settings}
use Rattle.factor_opened.specs.Opened.{InRoom, worked_at, asked_at}
use Rattle.forecast_opened.specs.Forecast.{outcome_at}
use Rattle.forecast_opened.proofs.decide.Goals as goal

pub ask_by-requires : goal.ask_by-requires
ask_by-requires c = (
  subst (InRoom c.args.w.now) (sym c.rebuilt.ensures) c.requires.0,
  subst (λ (s : Settings). cache_in s ≤ 4294967296) (sym c.again.ensures) c.requires.1,
)

pub returns-in-Hard : goal.returns-in-Hard
unfolding outcome_at
returns-in-Hard c =
    rw (← c.soft_limit-soft.ensures, ← c.cut_limit-hard.ensures, ← c.reach_of.ensures, c.in-Hard.is, c.full_at.ensures)

pub returns-in-Soft : goal.returns-in-Soft
unfolding outcome_at
returns-in-Soft c =
    rw (← c.soft_limit-soft.ensures, ← c.cut_limit-hard.ensures, ← c.reach_of.ensures, c.in-Soft.is)

pub returns-in-Over : goal.returns-in-Over
unfolding outcome_at of_bits
returns-in-Over c =
    rw (
      ← c.soft_limit-soft.ensures,
      ← c.cut_limit-hard.ensures,
      ← c.reach_of.ensures,
      c.in-Over.is,
      c.full_at-in-Over.ensures,
    )

pub returns-in-Between : goal.returns-in-Between
unfolding outcome_at asked_at worked_at
returns-in-Between c =
    rw (
      ← c.soft_limit-soft.ensures,
      ← c.cut_limit-hard.ensures,
      ← c.reach_of.ensures,
      c.in-Between.is,
      ← c.again.ensures,
      ← c.rebuilt.ensures,
      ← c.ask_by.ensures,
    ) c.draw_by.ensures
