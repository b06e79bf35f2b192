-- A shot by the code's steps: what a look at the table stops, and what the limiter is asked. `Laws` shows that they come to `shot`.
-- Assumes nothing.
use Rattle.std.specs.Prelude.{Bool, cond, not, ◌&&◌, List, ℕ, ltb, eqb, Option}
use Rattle.common.specs.Refusals.{first}
use Rattle.common.specs.declared.units.RateLimit.{RateLimit}
use Rattle.settings.specs.Settings.{faults}
use Rattle.settings.specs.declared.Settings.{Settings}
use Rattle.parties.specs.Parties.{Sent}
use Rattle.rules.specs.Suppressed.{admits}
use Rattle.suppressed_verdicts.specs.Calls.{inc}
use Rattle.table.specs.declared.Looked.{Looked}
use Rattle.table.specs.Table.{most_controllers, numbered, remembered, seen_sound, seen_at, seen_last}
use Rattle.gateway.specs.Gateway.{Verdict, as_shot}

-- the last number again: it is 0 where there is none
unfoldable pub again : ℕ → ℕ → Bool
again last number = not (eqb last 0) && eqb number last

-- where the table is unsound: 1 to 4, or 5
unfoldable pub unsoundness : Settings → ℕ
unsoundness s = cond (eqb (first (faults s)) 0) 5 (first (faults s))

-- 19, an unsound table's, 20 and 21, or 0; x is what a look at the table found
unfoldable pub stops : Settings → Option Looked → ℕ → ℕ
stops s x number =
    cond (not (numbered number)) 19
    (cond (not (seen_sound x)) (unsoundness s)
    (cond (ltb number (seen_last x)) 20
    (cond (eqb (seen_at x) most_controllers) 21
    0)))

-- the limiter is asked, and the number remembered if it is admitted
unfoldable pub asked : Settings → List ℕ → List ℕ → ℕ → Sent → ℕ → RateLimit → ℕ → Verdict
asked s w r t key number rate draw =
    let v = inc s r t key rate 1 draw in
    record { answer = as_shot v.answer; table = cond (admits v.answer) (remembered w key.bytes number) w; room = v.words }
