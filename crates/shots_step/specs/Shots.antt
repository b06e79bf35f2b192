-- What `shots` prints for a line and what it leaves of its table and its room. s are the settings, w the table's words, r the room's, t the reading.
-- Every shot is of the one party.
-- Assumes nothing.
use Rattle.std.specs.Prelude.{List, ℕ, Option, Some, None}
use Rattle.settings.specs.declared.Settings.{Settings}
use Rattle.lines.specs.Laws.{key_in}
use Rattle.shot_lines.specs.Reading.{read_shot}
use Rattle.shot_lines.specs.declared.ShotLine.{ShotLine}
use Rattle.parties.specs.Parties.{sent}
use Rattle.desk_lines.specs.Lines.{alone, stored_of, shot_line, per_minute}
use Rattle.desk_lines.specs.Step.{Step, bad_step}
use Rattle.gateway.specs.Gateway.{Verdict, shot}

-- a shot's verdict with its line: the controller's totals are those that the room then stores
abbrev pub lined : ℕ → List ℕ → Verdict → Step
lined t key v = record { answer = shot_line t v.answer (stored_of v.room key); first = v.table; second = v.room }

unfoldable pub shot_of : Settings → List ℕ → List ℕ → ℕ → List ℕ → ℕ → ℕ → ℕ → Step
shot_of s w r t key number rate draw = lined t key (shot s w r t (sent (alone r) key) number (per_minute rate) draw)

abbrev pub step_of : Settings → List ℕ → List ℕ → List ℕ → Option ShotLine → Step
step_of s w r line None = bad_step w r
step_of s w r line (Some l) = shot_of s w r l.t (key_in line l.start l.end) l.number l.rate l.draw

unfoldable pub stepped : Settings → List ℕ → List ℕ → List ℕ → Step
stepped s w r line = step_of s w r line (read_shot line)
