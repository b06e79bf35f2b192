-- Setting a total, setting a rate, and delete, in document 01's words: of both limiters. h is the key, limit the word of the rate's limit; `still` says that
-- nothing changes.
-- Assumes nothing.
use Rattle.std.specs.Prelude.{Bool, true, false, not, ◌&&◌, ◌||◌, cond, List, [], ◌∷◌, ℕ, ◌-◌, ltb, eqb, Result, Ok, Option, Some, None}
use Rattle.common.specs.Comparator.{matches}
use Rattle.common.specs.Limits.{rate_back}
use Rattle.settings.specs.Settings.{window_in, factor_in}
use Rattle.settings.specs.Clock.{window_ticks}
use Rattle.settings.specs.declared.Settings.{Settings}
use Rattle.common.specs.declared.units.RateLimit.{RateLimit}
use Rattle.common.specs.declared.comparator.RateLimitComparator.{RateLimitComparator}
use Rattle.answers.specs.declared.ConditionalSetOutcome.{ConditionalSetOutcome}
use Rattle.answers.specs.declared.HistoryUpdateMode.{HistoryUpdateMode}
use Rattle.answers.specs.declared.HistoryUpdateMode.TheVariants as mode
use Rattle.rules.specs.Buckets.{gone, live, replaced, preserved}
use Rattle.ring.specs.declared.Bucket.{Bucket}
use Rattle.layout.specs.Layout.{most_total}
use Rattle.ring.specs.Ring.{counts, declineds}
use Rattle.rules.specs.declared.RoomKind.{RoomKind}
use Rattle.rules.specs.Held.{Held, lacks_slot}
use Rattle.rules.specs.Both.{limit_in, divisor, live_of, unrated}
use Rattle.common.specs.declared.refusal.Refusal.{Refusal}

-- ---- a set

abbrev pub preserves : HistoryUpdateMode → Bool
preserves mode.Replace = false
preserves (mode.Preserve p) = true

-- "live total first, worked out without change"
abbrev pub met : Settings → ℕ → RateLimitComparator → Held → Bool
met s t comparator h = matches comparator (counts (live_of s t h))

-- "Preserve has an equal count above 0, no expired bucket and the same limit": sound limits are equal as doubles exactly where their words are (`same-limit`)
unfoldable pub already : Settings → ℕ → ℕ → ℕ → HistoryUpdateMode → Held → Bool
already s t limit count mode h =
    preserves mode &&
    (ltb 0 count && (eqb (counts (live_of s t h)) count && (eqb (gone (window_ticks s) t h.buckets) 0 && eqb h.limit limit)))

-- "Nothing changes .. if the comparator is not met, the key is unknown and count 0, or Preserve has .."
unfoldable pub idle : Settings → ℕ → ℕ → RateLimitComparator → ℕ → HistoryUpdateMode → Held → Bool
idle s t limit comparator count mode h =
    not (met s t comparator h) || (not h.known && eqb count 0 || already s t limit count mode h)

-- whether the comparator is met, and the live totals before and after: "that total is given twice" where nothing changes
unfoldable pub outcome : Settings → ℕ → Bool → RateLimitComparator → ℕ → Held → ConditionalSetOutcome
outcome s t still comparator count h = record {
  matched = met s t comparator h;
  previous_total = counts (live_of s t h);
  current_total = cond still (counts (live_of s t h)) count;
}

-- "then Replace (one bucket) or Preserve"
abbrev pub reset_to : ℕ → ℕ → HistoryUpdateMode → ℕ → List Bucket → List Bucket
reset_to w t mode.Replace count xs = replaced t count
reset_to w t (mode.Preserve p) count xs = preserved p t count (live w t xs)

-- whether nothing changes, of a rate
abbrev pub still_for : RoomKind → Settings → ℕ → RateLimit → RateLimitComparator → ℕ → HistoryUpdateMode → Held → Bool
still_for kind s t rate comparator count mode h = idle s t (limit_in kind s rate) comparator count mode h

-- 8; 10: "a set's count" passes 2^53, "judged before its comparator"; 11: where something changes
abbrev pub set_turns : RoomKind → Settings → Bool → ℕ → RateLimit → RateLimitComparator → ℕ → HistoryUpdateMode → Held → List (ℕ × Bool)
set_turns kind s full t rate comparator count mode h =
    (8, unrated rate) ∷
    (10, ltb most_total count) ∷
    (11, not (still_for kind s t rate comparator count mode h) && lacks_slot full h) ∷ []

-- ---- setting a rate

-- "touches only a known series and gives the old rate back, as `RateLimit::from_stored_window_limit` does"
unfoldable pub old_rate : RoomKind → Settings → Held → Option RateLimit
old_rate kind s h = cond h.known (Some (record { 0 = rate_back (window_in s) (divisor kind (factor_in s)) h.limit })) None

unfoldable pub rate_turns : RateLimit → List (ℕ × Bool)
rate_turns rate = (8, unrated rate) ∷ []

-- ---- delete

-- "Delete gives live total less declined, or 0 for a lone cached factor, or none"
unfoldable pub deleted : Settings → ℕ → Held → Option ℕ
deleted s t h =
    cond h.known (Some (counts (live_of s t h) - declineds (live_of s t h))) (cond h.cached (Some 0) None)
