-- A set of a key's total, for every input: refusals and outcome by the rules, the words by the edit.
-- Assumes nothing.
use Rattle.std.specs.Prelude.{List, ℕ, Result, Ok}
use Rattle.parties.specs.Parties.{Sent, none_left}
use Rattle.settings.specs.Clock.{join_ticks}
use Rattle.settings.specs.declared.Settings.{Settings}
use Rattle.common.specs.declared.units.RateLimit.{RateLimit}
use Rattle.common.specs.declared.comparator.RateLimitComparator.{RateLimitComparator}
use Rattle.answers.specs.declared.HistoryUpdateMode.{HistoryUpdateMode}
use Rattle.rules.specs.declared.RoomKind.{RoomKind}
use Rattle.rules.specs.Both.{limit_in}
use Rattle.rules.specs.Sets.{outcome, still_for, set_turns}
use Rattle.change.specs.Words.{applied}
use Rattle.judge.specs.Held.{held_in}
use Rattle.judge.specs.Judge.{slot_in}
use Rattle.judge.specs.Verdict.{Verdict, verdict, call}
use Rattle.plan.specs.Plan.{place_of}
use Rattle.sets_opened.specs.Sets.{setting}
use Rattle.common.specs.Refusals.{refuse}
use Rattle.common.specs.declared.refusal.Refusal.{Refusal}
use Rattle.answers.specs.declared.ConditionalSetOutcome.{ConditionalSetOutcome}

unfoldable pub set : RoomKind → Settings → List ℕ → ℕ → Sent → RateLimit → RateLimitComparator → ℕ → HistoryUpdateMode → Verdict (Result ConditionalSetOutcome Refusal)
set kind s w t key rate comparator count mode =
    let h = held_in w key in
    let x = slot_in s w t key in
    let still = still_for kind s t rate comparator count mode h in
    call refuse kind s w t key (set_turns kind s (none_left w key.caller) t rate comparator count mode h)
    (verdict (Ok (outcome s t still comparator count h))
    (applied w (place_of w x) key (join_ticks s) t (setting x still (limit_in kind s rate) count mode)))
