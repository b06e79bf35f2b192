-- Each answer exactly: where the log says so, and nowhere else. So none of the promises can be said of more shots.
-- Assumes nothing.
use Rattle.std.specs.Prelude.{◌≡◌, true, false, List, ◌↔◌, ◌<◌, Result, Ok}
use Rattle.table.specs.Table.{most_controllers, numbered}
use Rattle.season.specs.Log.{Pair, newest}
use Rattle.season.specs.Season.{Shot}
use Rattle.season.specs.Season.{full}
use Rattle.common.specs.Refusals.{refuse}
use Rattle.common.specs.declared.refusal.Refusal.{Refusal}
use Rattle.answers.specs.declared.ShotOutcome.{ShotOutcome}
use Rattle.answers.specs.declared.ShotOutcome.TheVariants.{Held}

-- ---- the answers

-- "Refusals: 19 for number 0 or over 2^32 - 1, 20 for a number below the last admitted, 21 for a controller not in the table when it has 64"; held is "the
-- same number again". The last admitted is the newest of its controller in the log
pub record Exactly (log : List Pair) (c : Shot) (a : Result ShotOutcome Refusal) : Type 0 where
  pub nineteen : a ≡ refuse 19 ↔ numbered c.number ≡ false
  pub twenty : a ≡ refuse 20 ↔ ((numbered c.number ≡ true) × (c.number < newest c.controller log))
  pub twenty-one : a ≡ refuse 21 ↔ ((numbered c.number ≡ true) × (full most_controllers log c ≡ true))
  pub held : a ≡ Ok Held ↔ ((numbered c.number ≡ true) × (c.number ≡ newest c.controller log))
