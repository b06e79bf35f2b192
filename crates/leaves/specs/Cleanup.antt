-- What a cleanup leaves: every word but uses, who holds a slot and the last reading; of each slot what the rule keeps; slots in use sound, keys in one slot
-- each.
-- Assumes nothing.
use Rattle.std.specs.Prelude.{◌≡◌, Bool, ◌&&◌, List, ◌≢◌, ℕ, ◌<◌, length, get_or}
use Rattle.layout.specs.Layout.{last_word, firsts_word, seconds_word}
use Rattle.ring.specs.Ring.{buckets}
use Rattle.room.specs.Room.{slots_of, ring_of, last_of, entry_of, Room, used_at, body_of}
use Rattle.opened.specs.Sound.{factor_time_of, has_series, has_cached}
use Rattle.rules.specs.Stale.{series_stays, factor_stays}
use Rattle.stale.specs.Swept.{Settled}

-- ---- every word

-- v is w after a cleanup at reading t; ticks is the number of ticks in a millisecond
pub record Cleaned (w v : List ℕ) (t ticks stale : ℕ) : Type 0 where
  pub room : Room v
  pub long : length v ≡ length w
  pub slots : slots_of v ≡ slots_of w
  pub ring : ring_of v ≡ ring_of w
  pub last : last_of v ≡ t
  pub settled : (i : ℕ) → i < slots_of w → Settled w t ticks stale v i
  pub words : (j : ℕ) → j ≢ last_word → j ≢ firsts_word → j ≢ seconds_word → ((i : ℕ) → i < slots_of w → j ≢ entry_of i) → get_or v j 0 ≡ get_or w j 0
  pub bodies : (i : ℕ) → body_of v i ≡ body_of w i

-- ---- each slot: "Cleanup drops a series with no bucket or whose newest age is over the stale time; a cached factor stays only at an age below it"

abbrev pub series_kept : List ℕ → ℕ → ℕ → ℕ → ℕ → Bool
series_kept w t ticks stale i = has_series (used_at w i) && series_stays (buckets (ring_of w) (body_of w i)) t ticks stale

abbrev pub cached_kept : List ℕ → ℕ → ℕ → ℕ → ℕ → Bool
cached_kept w t ticks stale i = has_cached (used_at w i) && factor_stays (factor_time_of (body_of w i)) t ticks stale
