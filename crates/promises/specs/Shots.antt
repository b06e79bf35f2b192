-- Demand 1 of a gateway: a shot is turned away by one table, 19 to 21 first and then the limiter's own, and then every word of table and room stays; a new
-- season by its own table.
-- Assumes nothing.
use Rattle.std.specs.Prelude.{List, ℕ}
use Rattle.parties.specs.Parties.{Sent}
use Rattle.answers.specs.Rows.{shot_row, done_row}
use Rattle.common.specs.declared.units.RateLimit.{RateLimit}
use Rattle.settings.specs.declared.Settings.{Settings}
use Rattle.gateway.specs.Gateway.{shot_turns, shot, season_turns, new_season}
use Rattle.steps.specs.Order.{TurnedBy}

pub record TurnsShots : Type 0 where
  -- a shot by its number: table and room stay
  pub shots : (s : Settings) (w r : List ℕ) (t : ℕ) (key : Sent) (number : ℕ) (rate : RateLimit) (draw : ℕ) →
      TurnedBy {B = List ℕ × List ℕ} (shot_turns s w r t key number rate draw) (shot_row (shot s w r t key number rate draw).answer) (w, r)
      ((shot s w r t key number rate draw).table, (shot s w r t key number rate draw).room)
  -- a new season
  pub new-season : (w : List ℕ) → TurnedBy (season_turns w) (done_row (new_season w).answer) w (new_season w).words
