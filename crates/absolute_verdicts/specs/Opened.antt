-- The absolute limiter's calls as the code carries them out, on the key's slot as it is opened. They are the calls of `Calls.antt` (`get-opened`, `ask-opened`,
-- `inc-opened` in `Seen.antt`), and no contract names them.
-- Assumes nothing.
use Rattle.std.specs.Prelude.{Bool, List, [], ℕ, Result, Ok}
use Rattle.common.specs.Limits.{absolute_word, cut_word}
use Rattle.common.specs.Ranges.{rate_ok}
use Rattle.settings.specs.Settings.{window_in}
use Rattle.settings.specs.Clock.{ticks_in, look_ticks, join_ticks}
use Rattle.settings.specs.declared.Settings.{Settings}
use Rattle.answers.specs.declared.RateLimitDecision.{RateLimitDecision}
use Rattle.answers.specs.declared.RateLimitDecision.TheVariants as decision
use Rattle.common.specs.declared.units.RateLimit.{RateLimit}
use Rattle.rules.specs.declared.RoomKind.TheVariants.{Absolute}
use Rattle.room.specs.Room.{ring_of}
use Rattle.parties.specs.Parties.{Sent, none_left}
use Rattle.change.specs.declared.Change.{Change}
use Rattle.change.specs.Words.{applied}
use Rattle.opened.specs.declared.Slot.{Slot}
use Rattle.opened.specs.Slot.{first_look}
use Rattle.judge.specs.Judge.{slot_in, looked_in}
use Rattle.judge.specs.Verdict.{Verdict, verdict, call}
use Rattle.plan.specs.Plan.{place_of, lacks_at}
use Rattle.absolute_opened.specs.Opened.{clears_at, inc_refusals, get_change, ask_change, inc_change}
use Rattle.absolute_test.specs.Test.{evicts, allowed_at, decided_at}
use Rattle.common.specs.Refusals.{refuse}
use Rattle.common.specs.declared.refusal.Refusal.{Refusal}

unfoldable pub get : Settings → List ℕ → ℕ → Sent → Verdict (Result ℕ Refusal)
get s w t key =
    call refuse Absolute s w t key []
    (verdict (Ok (slot_in s w t key).pass.live_total) (applied w (slot_in s w t key).at key (join_ticks s) t (get_change (slot_in s w t key))))

-- ---- of the key's slot x: as a first look leaves it, whether it is allowed, tests again, and the decision

abbrev pub look_in : Settings → ℕ → Slot → Slot
look_in s t x = first_look (look_ticks s) t x

abbrev pub may_in : Settings → ℕ → Slot → Bool
may_in s t x = allowed_at (cut_word x.limit) (look_in s t x)

abbrev pub again_in : Slot → Bool
again_in x = evicts (cut_word x.limit) x

abbrev pub decided_in : Settings → ℕ → Slot → RateLimitDecision
decided_in s t x = decided_at (ticks_in s) s.window_size t (may_in s t x) (look_in s t x)

unfoldable pub is_allowed : Settings → List ℕ → ℕ → Sent → Verdict RateLimitDecision
is_allowed s w t key =
    call decision.Refused Absolute s w t key []
    (verdict (decided_in s t (slot_in s w t key))
    (applied w (slot_in s w t key).at key (join_ticks s) t (ask_change (again_in (slot_in s w t key)) (looked_in s w t key))))

-- ---- an increment by c at rate; none says whether the party has no slot left

abbrev pub out_in : Settings → List ℕ → ℕ → ℕ → Slot → Bool
out_in s w t c x = clears_at (ring_of w) (join_ticks s) t c (cut_word x.limit) x

abbrev pub inc_own : Settings → List ℕ → Bool → ℕ → RateLimit → ℕ → Slot → List (ℕ × Bool)
inc_own s w none t rate c x = inc_refusals (ring_of w) (join_ticks s) t c (rate_ok rate.0) (may_in s t x) (lacks_at none x) (out_in s w t c x) x

abbrev pub inc_makes : Settings → List ℕ → ℕ → RateLimit → ℕ → Slot → Change
inc_makes s w t rate c x = inc_change (absolute_word rate.0 (window_in s)) c (may_in s t x) (out_in s w t c x) x (look_in s t x)

unfoldable pub inc : Settings → List ℕ → ℕ → Sent → RateLimit → ℕ → Verdict RateLimitDecision
inc s w t key rate c =
    call decision.Refused Absolute s w t key (inc_own s w (none_left w key.caller) t rate c (slot_in s w t key))
    (verdict (decided_in s t (slot_in s w t key))
    (applied w (place_of w (slot_in s w t key)) key (join_ticks s) t (inc_makes s w t rate c (slot_in s w t key))))
