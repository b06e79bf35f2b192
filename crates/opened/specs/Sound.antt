-- When a slot is sound, in document 01's words. W and F are the settings' window and factor, r the ring, last the last reading.
-- Assumes nothing.
use Rattle.std.specs.Prelude.{Bool, true, not, ◌&&◌, ◌||◌, cond, List, ℕ, length, get_or, leb, ltb, eqb}
use Rattle.suppression.specs.Factor.{factor_word_ok}
use Rattle.common.specs.Limits.{limit_ok}
use Rattle.settings.specs.Settings.{window_in, factor_in}
use Rattle.settings.specs.declared.Settings.{Settings}
use Rattle.layout.specs.Layout.{limit_at, factor_at, factor_time_at, series_use, cached_use, both_use, longest_key}
use Rattle.ring.specs.Ring.{declined_of}
use Rattle.ring.specs.Sound.{sound_buckets}
use Rattle.room.specs.Room.{slots_of, ring_of, last_of, use_of, key_sound, find, body_of}
use Rattle.parties.specs.Parties.{Sent, key_for}
use Rattle.rules.specs.Both.{divisor}
use Rattle.rules.specs.declared.RoomKind.{RoomKind}
use Rattle.rules.specs.declared.RoomKind.TheVariants.{Absolute, Suppressed}

-- ---- the words of a body that buckets do not use

abbrev pub limit_of : List ℕ → ℕ
limit_of b = get_or b limit_at 0

abbrev pub factor_of : List ℕ → ℕ
factor_of b = get_or b factor_at 0

abbrev pub factor_time_of : List ℕ → ℕ
factor_time_of b = get_or b factor_time_at 0

-- ---- a slot's use: a series, a cached factor, or both

abbrev pub has_series : ℕ → Bool
has_series u = eqb u series_use || eqb u both_use

abbrev pub has_cached : ℕ → Bool
has_cached u = eqb u cached_use || eqb u both_use

-- an absolute room caches no factor
unfoldable pub right_use : RoomKind → ℕ → Bool
right_use Absolute u = eqb u series_use
right_use Suppressed u = has_series u || has_cached u

-- "declined is at most count in each bucket (zero in the absolute room)": the total is the sum
abbrev pub declined_right : RoomKind → ℕ → Bool
declined_right Absolute d = eqb d 0
declined_right Suppressed d = true

unfoldable pub sound_series : RoomKind → Settings → ℕ → ℕ → List ℕ → Bool
sound_series kind s r last b =
    sound_buckets r b last && (declined_right kind (declined_of b) && limit_ok (window_in s) (divisor kind (factor_in s)) (limit_of b))

-- "a cached factor is 0 to 1 with a time not past the last reading"
unfoldable pub sound_cached : ℕ → List ℕ → Bool
sound_cached last b = factor_word_ok (factor_of b) && leb (factor_time_of b) last

-- what is not there is not judged
unfoldable pub sound_slot : RoomKind → Settings → List ℕ → ℕ → Bool
sound_slot kind s w at =
    key_sound w at && (right_use kind (use_of w at) &&
    ((not (has_series (use_of w at)) || sound_series kind s (ring_of w) (last_of w) (body_of w at)) &&
    (not (has_cached (use_of w at)) || sound_cached (last_of w) (body_of w at))))

-- ---- the slot addressed: "the lowest slot with their key", or the number of slots; a key of over 32 bytes has none
unfoldable pub addressed : List ℕ → Sent → ℕ
addressed w key = cond (ltb longest_key (length key.bytes)) (slots_of w) (find w (key_for key))

unfoldable pub sound_at : RoomKind → Settings → List ℕ → ℕ → Bool
sound_at kind s w at = cond (ltb at (slots_of w)) (sound_slot kind s w at) true
