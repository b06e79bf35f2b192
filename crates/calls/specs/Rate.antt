-- Setting a rate, for every input: the old rate is given by the rule, and a known series has the new limit.
-- Assumes nothing.
use Rattle.std.specs.Prelude.{Ok, List, ℕ, Result, Option}
use Rattle.parties.specs.Parties.{Sent}
use Rattle.settings.specs.Clock.{join_ticks}
use Rattle.settings.specs.declared.Settings.{Settings}
use Rattle.common.specs.declared.units.RateLimit.{RateLimit}
use Rattle.rules.specs.declared.RoomKind.{RoomKind}
use Rattle.rules.specs.Both.{limit_in}
use Rattle.rules.specs.Sets.{old_rate, rate_turns}
use Rattle.change.specs.Words.{applied}
use Rattle.judge.specs.Held.{held_in}
use Rattle.judge.specs.Judge.{slot_in}
use Rattle.judge.specs.Verdict.{Verdict, verdict, call}
use Rattle.shared_opened.specs.Opened.{limiting}
use Rattle.common.specs.Refusals.{refuse}
use Rattle.common.specs.declared.refusal.Refusal.{Refusal}

unfoldable pub set_rate_limit : RoomKind → Settings → List ℕ → ℕ → Sent → RateLimit → Verdict (Result (Option RateLimit) Refusal)
set_rate_limit kind s w t key rate =
    let x = slot_in s w t key in
    call refuse kind s w t key (rate_turns rate)
    (verdict (Ok (old_rate kind s (held_in w key))) (applied w x.at key (join_ticks s) t (limiting x (limit_in kind s rate))))
