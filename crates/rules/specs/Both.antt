-- Rules that both limiters have: limits of a rate, what is live, a first look, 8, 10 and 12. s are the settings, t the reading, c the count, r the ring,
-- xs buckets.
-- Assumes nothing.
use Rattle.std.specs.Prelude.{Bool, false, not, ◌&&◌, List, [], ◌∷◌, ℕ, ◌+◌, leb, ltb, Float, length}
use Rattle.common.specs.Limits.{absolute_word, hard_word}
use Rattle.common.specs.Ranges.{one, rate_ok}
use Rattle.settings.specs.Settings.{window_in, factor_in}
use Rattle.settings.specs.Clock.{age_in_milliseconds, ticks_in, window_in_milliseconds, window_ticks}
use Rattle.settings.specs.declared.Settings.{Settings}
use Rattle.common.specs.declared.units.RateLimit.{RateLimit}
use Rattle.rules.specs.Buckets.{live, out_if, joins}
use Rattle.ring.specs.declared.Bucket.{Bucket}
use Rattle.layout.specs.Layout.{most_total}
use Rattle.rules.specs.declared.RoomKind.{RoomKind}
use Rattle.rules.specs.declared.RoomKind.TheVariants.{Absolute, Suppressed}
use Rattle.rules.specs.Held.{Held}

-- the word of a rate's limit: "Limit = rate * W"; "Hard = rate * F * W, in that order"
abbrev pub limit_in : RoomKind → Settings → RateLimit → ℕ
limit_in Absolute s rate = absolute_word rate.0 (window_in s)
limit_in Suppressed s rate = hard_word rate.0 (factor_in s) (window_in s)

-- "divided by W and F (1 for absolute)"
abbrev pub divisor : RoomKind → Float → Float
divisor Absolute F = one
divisor Suppressed F = F

-- the key's buckets that are not expired: what `get`, the sets and delete go by
abbrev pub live_of : Settings → ℕ → Held → List Bucket
live_of s t h = live (window_ticks s) t h.buckets

-- an increment, `is_allowed` and `get_suppression_factor` evict "if the oldest bucket is expired": this first look goes by its age cut to milliseconds
unfoldable pub overdue : Settings → ℕ → List Bucket → Bool
overdue s t [] = false
overdue s t (x ∷ xs) = ltb (window_in_milliseconds (window_in s)) (age_in_milliseconds (ticks_in s) t x.time)

abbrev pub overdue_in : Settings → ℕ → Held → Bool
overdue_in s t h = overdue s t h.buckets

-- the key's buckets that a first look leaves
abbrev pub looked_of : Settings → ℕ → Held → List Bucket
looked_of s t h = out_if (overdue_in s t h) (window_ticks s) t h.buckets

-- 8: "rate outside its range (also for a known key)"
abbrev pub unrated : RateLimit → Bool
unrated rate = not (rate_ok rate.0)

-- 10: "the key's total would pass 2^53"
unfoldable pub passes : ℕ → ℕ → Bool
passes c total = ltb most_total (total + c)

-- 12: "a bucket must be added to a full ring"; b is the longest age that joins
unfoldable pub ring_full : ℕ → ℕ → ℕ → List Bucket → Bool
ring_full r b t xs = not (joins b t xs) && leb r (length xs)
