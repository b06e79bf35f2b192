-- The calls that both limiters have as the code carries them out, on the key's slot x as it is opened. They are the calls that the contracts name
-- (`delete-opened`, `rate-opened`, `set-opened` in `Seen.antt`).
-- Assumes nothing.
use Rattle.std.specs.Prelude.{◌≡◌, refl, Bool, not, ◌&&◌, List, [], ℕ, Result, Ok, Option}
use Rattle.parties.specs.Parties.{Sent, none_left}
use Rattle.settings.specs.Clock.{join_ticks}
use Rattle.settings.specs.declared.Settings.{Settings}
use Rattle.common.specs.Refusals.{first, refuse}
use Rattle.common.specs.declared.units.RateLimit.{RateLimit}
use Rattle.common.specs.declared.comparator.RateLimitComparator.{RateLimitComparator}
use Rattle.answers.specs.declared.HistoryUpdateMode.{HistoryUpdateMode}
use Rattle.rules.specs.declared.RoomKind.{RoomKind}
use Rattle.rules.specs.Both.{limit_in}
use Rattle.rules.specs.Sets.{rate_turns}
use Rattle.change.specs.Words.{applied}
use Rattle.opened.specs.declared.Slot.{Slot}
use Rattle.judge.specs.Verdict.{Verdict, verdict}
use Rattle.plan.specs.Plan.{place_of, lacks_at}
use Rattle.shared_opened.specs.Opened.{deleted_at, deleting, old_rate_at, limiting}
use Rattle.sets_opened.specs.Sets.{idle_at, outcome_at, setting, set_own}
use Rattle.calls.specs.Calls.{calls}
use Rattle.common.specs.declared.refusal.Refusal.{Refusal}
use Rattle.answers.specs.declared.ConditionalSetOutcome.{ConditionalSetOutcome}

-- ---- delete

abbrev pub deletes : Settings → List ℕ → ℕ → Sent → Slot → Verdict (Result (Option ℕ) Refusal)
deletes s w t key x = verdict (Ok (deleted_at x)) (applied w x.at key (join_ticks s) t (deleting x))

-- it has no refusal of its own
abbrev pub no_own : Slot → List (ℕ × Bool)
no_own x = []

pub none-own : (x : Slot) → first (no_own x) ≡ 0
unfolding first
none-own x = refl

abbrev pub delete_at : RoomKind → Settings → List ℕ → ℕ → Sent → Verdict (Result (Option ℕ) Refusal)
delete_at kind s w t key = calls refuse kind s w t key no_own (deletes s w t key)

-- ---- setting a rate

abbrev pub rate_own_of : RateLimit → Slot → List (ℕ × Bool)
rate_own_of rate x = rate_turns rate

abbrev pub limits : RoomKind → Settings → List ℕ → ℕ → Sent → RateLimit → Slot → Verdict (Result (Option RateLimit) Refusal)
limits kind s w t key rate x = verdict (Ok (old_rate_at kind s x)) (applied w x.at key (join_ticks s) t (limiting x (limit_in kind s rate)))

abbrev pub rate_at : RoomKind → Settings → List ℕ → ℕ → Sent → RateLimit → Verdict (Result (Option RateLimit) Refusal)
rate_at kind s w t key rate = calls refuse kind s w t key (rate_own_of rate) (limits kind s w t key rate)

-- ---- a set

abbrev pub set_own_of : RoomKind → Settings → Bool → RateLimit → RateLimitComparator → ℕ → HistoryUpdateMode → Slot → List (ℕ × Bool)
set_own_of kind s full rate comparator count mode x =
    set_own rate count (not (idle_at x (limit_in kind s rate) comparator count mode) && lacks_at full x)

abbrev pub sets : RoomKind → Settings → List ℕ → ℕ → Sent → RateLimit → RateLimitComparator → ℕ → HistoryUpdateMode → Slot → Verdict (Result ConditionalSetOutcome Refusal)
sets kind s w t key rate comparator count mode x =
    let still = idle_at x (limit_in kind s rate) comparator count mode in
    verdict (Ok (outcome_at x still comparator count)) (applied w (place_of w x) key (join_ticks s) t (setting x still (limit_in kind s rate) count mode))

abbrev pub set_at : RoomKind → Settings → List ℕ → ℕ → Sent → RateLimit → RateLimitComparator → ℕ → HistoryUpdateMode → Verdict (Result ConditionalSetOutcome Refusal)
set_at kind s w t key rate comparator count mode =
    calls refuse kind s w t key (set_own_of kind s (none_left w key.caller) rate comparator count mode) (sets kind s w t key rate comparator count mode)
