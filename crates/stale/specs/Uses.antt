-- What a cleanup leaves: the use of each slot, and the words. ticks is the number of ticks in a millisecond.
-- Assumes nothing.
use Rattle.std.specs.Prelude.{◌≡◌, Bool, true, ◌&&◌, cond, List, ℕ, zero, suc, ◌+◌, ◌≤◌, ◌<◌, length, eqb}
use Rattle.rules.specs.Stale.{series_stays, factor_stays}
use Rattle.ring.specs.declared.Bucket.{Bucket}
use Rattle.ring.specs.Ring.{buckets, Shape}
use Rattle.room.specs.Room.{Room, slots_of, ring_of, used_at, body_of, with_use, released, with_reading}
use Rattle.opened.specs.Sound.{factor_time_of, has_series, has_cached}

-- ---- what stays

abbrev pub series_use : List Bucket → ℕ → ℕ → ℕ → ℕ
series_use xs t ticks stale = cond (series_stays xs t ticks stale) 1 0

abbrev pub factor_use : ℕ → ℕ → ℕ → ℕ → ℕ
factor_use time t ticks stale = cond (factor_stays time t ticks stale) 2 0

-- a slot's use: 1 for a series, 2 for a cached factor, 3 for both, 0 for neither
abbrev pub uses : Bool → Bool → ℕ
uses series cached = cond series 1 0 + cond cached 2 0

-- the use afterwards: r is the ring, u the use, b the body
unfoldable pub use_after : ℕ → ℕ → List ℕ → ℕ → ℕ → ℕ → ℕ
use_after r u b t ticks stale = uses (has_series u && series_stays (buckets r b) t ticks stale) (has_cached u && factor_stays (factor_time_of b) t ticks stale)

abbrev pub use_next : List ℕ → ℕ → ℕ → ℕ → ℕ → ℕ
use_next w t ticks stale i = use_after (ring_of w) (used_at w i) (body_of w i) t ticks stale

-- ---- the words after

-- slot i with use u, and free where that is none
unfoldable pub settled : List ℕ → ℕ → ℕ → List ℕ
settled w i u = cond (eqb u 0) (released w i) (with_use w i u)

-- the first n slots have their use afterwards: no other word changes
unfoldable pub swept : List ℕ → ℕ → ℕ → ℕ → ℕ → List ℕ
swept w t ticks stale zero = w
swept w t ticks stale (suc n) = settled (swept w t ticks stale n) n (use_next w t ticks stale n)

-- every slot, and the reading
unfoldable pub cleaned : List ℕ → ℕ → ℕ → ℕ → List ℕ
cleaned w t ticks stale = with_reading (swept w t ticks stale (slots_of w)) t

-- what sweeping asks of a body of use u, of a slot, and of all: a series has the words of a ring
pub record Opens (r u : ℕ) (b : List ℕ) : Type 0 where
  pub long : 7 ≤ length b
  pub shape : has_series u ≡ true → Shape r b

pub record Readable (w : List ℕ) (i : ℕ) : Type 0 where
  pub room : Room w
  pub inside : i < slots_of w
  pub shape : has_series (used_at w i) ≡ true → Shape (ring_of w) (body_of w i)

pub record Ready (w : List ℕ) : Type 0 where
  pub room : Room w
  pub shapes : (i : ℕ) → i < slots_of w → has_series (used_at w i) ≡ true → Shape (ring_of w) (body_of w i)
