-- The absolute limiter's calls: answer and words after, for every input. Refusals and answers are document 01's rules on what the key holds; the words are told
-- by the edits of the key's slot. s are the settings, w the room's words, t the reading, key the key with its caller.
-- Assumes nothing.
use Rattle.std.specs.Prelude.{List, [], ℕ, Result, Ok}
use Rattle.settings.specs.Clock.{join_ticks}
use Rattle.settings.specs.declared.Settings.{Settings}
use Rattle.answers.specs.declared.RateLimitDecision.{RateLimitDecision}
use Rattle.answers.specs.declared.RateLimitDecision.TheVariants as decision
use Rattle.common.specs.declared.units.RateLimit.{RateLimit}
use Rattle.ring.specs.Ring.{counts}
use Rattle.rules.specs.declared.RoomKind.TheVariants.{Absolute}
use Rattle.rules.specs.Both.{limit_in, live_of}
use Rattle.rules.specs.Absolute.{tests_again, whole_limit, allowed, decided, out_for, inc_turns}
use Rattle.room.specs.Room.{ring_of}
use Rattle.parties.specs.Parties.{Sent, none_left}
use Rattle.change.specs.Words.{applied}
use Rattle.judge.specs.Held.{held_in}
use Rattle.judge.specs.Judge.{slot_in, looked_in}
use Rattle.judge.specs.Verdict.{Verdict, verdict, call}
use Rattle.plan.specs.Plan.{place_of}
use Rattle.absolute_opened.specs.Opened.{get_change, ask_change, inc_change}
use Rattle.common.specs.Refusals.{refuse}
use Rattle.common.specs.declared.refusal.Refusal.{Refusal}

-- the live total, 0 of an unknown key
unfoldable pub get : Settings → List ℕ → ℕ → Sent → Verdict (Result ℕ Refusal)
get s w t key =
    let x = slot_in s w t key in
    call refuse Absolute s w t key []
    (verdict (Ok (counts (live_of s t (held_in w key)))) (applied w x.at key (join_ticks s) t (get_change x)))

unfoldable pub is_allowed : Settings → List ℕ → ℕ → Sent → Verdict RateLimitDecision
is_allowed s w t key =
    let h = held_in w key in
    let x = slot_in s w t key in
    call decision.Refused Absolute s w t key []
    (verdict (decided s t h)
    (applied w x.at key (join_ticks s) t (ask_change (tests_again (whole_limit h) h.buckets) (looked_in s w t key))))

-- by c at rate
unfoldable pub inc : Settings → List ℕ → ℕ → Sent → RateLimit → ℕ → Verdict RateLimitDecision
inc s w t key rate c =
    let h = held_in w key in
    let x = slot_in s w t key in
    call decision.Refused Absolute s w t key (inc_turns s (ring_of w) (none_left w key.caller) t rate c h)
    (verdict (decided s t h)
    (applied w (place_of w x) key (join_ticks s) t
    (inc_change (limit_in Absolute s rate) c (allowed s t h) (out_for s (ring_of w) t c h) x (looked_in s w t key))))
