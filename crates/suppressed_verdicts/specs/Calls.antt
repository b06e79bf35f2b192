-- The suppressed limiter's own calls: for every input the answer and the words after. Refusals and answers are document 01's rules on what the key holds; the
-- words are told by the edits of the key's slot, for an increment and a factor as a first look leaves it. s are the settings, w the room's words, t the
-- reading.
-- Assumes nothing.
use Rattle.std.specs.Prelude.{true, List, [], ℕ, Result, Ok, Float}
use Rattle.settings.specs.Clock.{join_ticks}
use Rattle.answers.specs.declared.RateLimitDecision.{RateLimitDecision}
use Rattle.answers.specs.declared.RateLimitDecision.TheVariants as decision
use Rattle.settings.specs.declared.Settings.{Settings}
use Rattle.common.specs.declared.units.RateLimit.{RateLimit}
use Rattle.rules.specs.declared.RoomKind.TheVariants.{Suppressed}
use Rattle.rules.specs.Both.{overdue_in}
use Rattle.rules.specs.Suppressed.{limit_for, outcome, inc_turns, snapshot_of, asking, factor_turns}
use Rattle.room.specs.Room.{ring_of}
use Rattle.parties.specs.Parties.{Sent, none_left}
use Rattle.change.specs.Words.{applied}
use Rattle.judge.specs.Held.{held_in}
use Rattle.judge.specs.Judge.{slot_in, looked_in}
use Rattle.judge.specs.Verdict.{Verdict, verdict, call}
use Rattle.plan.specs.Plan.{place_of}
use Rattle.suppressed_edits.specs.Edits.{get_change, factor_change, inc_change}
use Rattle.common.specs.Refusals.{refuse}
use Rattle.common.specs.declared.refusal.Refusal.{Refusal}
use Rattle.answers.specs.declared.SuppressedRateLimitSnapshot.{SuppressedRateLimitSnapshot}

unfoldable pub get : Settings → List ℕ → ℕ → Sent → Verdict (Result SuppressedRateLimitSnapshot Refusal)
get s w t key =
    let h = held_in w key in
    let x = slot_in s w t key in
    call refuse Suppressed s w t key []
    (verdict (Ok (snapshot_of s t h (asking s t true h).factor))
    (applied w x.at key (join_ticks s) t (get_change x (asking s t true h).caching)))

unfoldable pub get_factor : Settings → List ℕ → ℕ → Sent → Verdict (Result Float Refusal)
get_factor s w t key =
    let h = held_in w key in
    let x = looked_in s w t key in
    let a = asking s t (overdue_in s t h) h in
    call refuse Suppressed s w t key (factor_turns (none_left w key.caller) h)
    (verdict (Ok a.factor) (applied w (place_of w x) key (join_ticks s) t (factor_change x a.caching t)))

-- by c at rate
unfoldable pub inc : Settings → List ℕ → ℕ → Sent → RateLimit → ℕ → ℕ → Verdict RateLimitDecision
inc s w t key rate c draw =
    let h = held_in w key in
    let x = looked_in s w t key in
    let limit = limit_for s rate h in
    let o = outcome s t limit c draw h in
    call decision.Refused Suppressed s w t key (inc_turns s (ring_of w) (none_left w key.caller) t rate c draw h)
    (verdict o.decision (applied w (place_of w x) key (join_ticks s) t (inc_change x limit c o.declined o.caching)))
