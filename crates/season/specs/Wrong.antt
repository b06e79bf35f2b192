-- Which promise each wrong gateway breaks, by a season of a few events that the checker computes (`Histories.antt`).
-- Assumes nothing.
use Rattle.season.specs.Season.{Gateway}
use Rattle.season.specs.Season.{NeverTwice, HeldWasAdmitted, LeavesTable}

-- ---- one that turns every shot away keeps all the rest

pub record KeepsTheRest (g : Gateway) : Type 0 where
  pub never-twice : NeverTwice g
  pub held-was-admitted : HeldWasAdmitted g
  pub leaves_table : LeavesTable g
