-- A gateway whose answers are by the log keeps the season's promises: whatever gateway it is.
-- Assumes nothing.
use Rattle.std.specs.Prelude.{◌≡◌, true, false, List, ℕ, ◌≤◌, ◌<◌, Result, Ok}
use Rattle.table.specs.Table.{most_controllers, numbered}
use Rattle.gateway.specs.Gateway.{as_shot, admits_shot}
use Rattle.season.specs.Log.{Pair, highest}
use Rattle.season.specs.Season.{Shot, limiter, full}
use Rattle.common.specs.Refusals.{refuse}
use Rattle.common.specs.declared.refusal.Refusal.{Refusal}
use Rattle.answers.specs.declared.ShotOutcome.{ShotOutcome}
use Rattle.answers.specs.declared.ShotOutcome.TheVariants.{Held}

-- the five cases, with their facts
pub data Judging (log : List Pair) (c : Shot) : Result ShotOutcome Refusal × List ℕ → Type 0 where
  unnumbered : numbered c.number ≡ false → Judging log c (refuse 19, c.room)
  below : numbered c.number ≡ true → c.number < highest c.controller log → Judging log c (refuse 20, c.room)
  away : numbered c.number ≡ true → highest c.controller log ≤ c.number → full most_controllers log c ≡ true → Judging log c (refuse 21, c.room)
  same : numbered c.number ≡ true → c.number ≡ highest c.controller log → full most_controllers log c ≡ false → Judging log c ((Ok Held), c.room)
  asked : numbered c.number ≡ true → highest c.controller log < c.number → full most_controllers log c ≡ false →
      Judging log c (as_shot (limiter c).answer, (limiter c).words)

-- what is admitted is above all of its controller's, has its place, and is admitted by the limiter
pub record Through (log : List Pair) (c : Shot) : Type 0 where
  pub number : numbered c.number ≡ true
  pub ahead : highest c.controller log < c.number
  pub free : full most_controllers log c ≡ false
  pub admits : admits_shot (as_shot (limiter c).answer) ≡ true
