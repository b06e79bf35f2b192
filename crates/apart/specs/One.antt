-- A limiter of one key: what a call that is not turned away leaves of what its key holds, told of that alone. h is what the key held, r the ring, t the
-- reading.
-- Assumes nothing.
use Rattle.std.specs.Prelude.{◌≡◌, Bool, true, false, cond, ◌&&◌, List, [], ◌∷◌, ℕ, eqb, Option, Some, None}
use Rattle.settings.specs.Clock.{ticks_in, window_ticks, join_ticks}
use Rattle.settings.specs.declared.Settings.{Settings}
use Rattle.answers.specs.declared.HistoryUpdateMode.{HistoryUpdateMode}
use Rattle.common.specs.declared.comparator.RateLimitComparator.{RateLimitComparator}
use Rattle.common.specs.declared.units.RateLimit.{RateLimit}
use Rattle.ring.specs.declared.Bucket.{Bucket}
use Rattle.ring.specs.Ring.{bucket}
use Rattle.rules.specs.Buckets.{joined}
use Rattle.rules.specs.Held.{Held, nothing, has_any}
use Rattle.rules.specs.Both.{limit_in, live_of, looked_of, overdue_in}
use Rattle.rules.specs.Absolute.{whole_limit, tested, allowed, found_for}
use Rattle.rules.specs.Suppressed.{asking, usable, limit_for, outcome, admits, declined_by, stays}
use Rattle.rules.specs.Sets.{reset_to, still_for}
use Rattle.rules.specs.Stale.{series_stays, factor_stays}
use Rattle.parties.specs.Parties.{Sent}
use Rattle.rules.specs.declared.RoomKind.{RoomKind}
use Rattle.rules.specs.declared.RoomKind.TheVariants.{Absolute}
use Rattle.judge.specs.Held.{held_by}
use Rattle.suppressed_edits.specs.Edits.{factor_after, time_after}
use Rattle.steps.specs.Ops.{Op, inc, is_allowed, get, draws, snapshot, get_factor, set_rate, set, delete, cleanup, cleanup_both, clear}
use Rattle.steps.specs.Ops.{Touch, slot_of, stale_by, whole, touches}
use Rattle.suppression.specs.declared.CachedFactor.{CachedFactor}

-- a series, and no cached factor
abbrev pub plainly : ℕ → List Bucket → Held
plainly limit xs = held_by true false limit xs 0 0

-- whether a factor is cached afterwards; is says whether the one before stays
abbrev pub cached_by : Option CachedFactor → Bool → Bool
cached_by None is = is
cached_by (Some k) is = true

-- a series with what is cached then
abbrev pub caching : Option CachedFactor → Bool → ℕ → List Bucket → Held → Held
caching k is limit xs h = held_by true (cached_by k is) limit xs (factor_after k h.factor) (time_after k h.since)

-- the absolute increment
abbrev pub counted : Settings → ℕ → ℕ → RateLimit → ℕ → Held → Held
counted s r t rate c h =
    cond h.known
    (cond (allowed s t h) (plainly h.limit (joined (join_ticks s) t c 0 (found_for s r t c h))) (plainly h.limit (looked_of s t h)))
    (plainly (limit_in Absolute s rate) (bucket c 0 t ∷ []))

-- the suppressed one
abbrev pub drawn : Settings → ℕ → RateLimit → ℕ → ℕ → Held → Held
drawn s t rate c draw h =
    let o = outcome s t (limit_for s rate h) c draw h in
    caching o.caching (stays s t (overdue_in s t h) h) (limit_for s rate h) (joined (join_ticks s) t c (declined_by (admits o.decision) c) (looked_of s t h)) h

-- `get_suppression_factor`
abbrev pub factored : Settings → ℕ → Held → Held
factored s t h =
    let out = overdue_in s t h in
    cond h.known (caching (asking s t out h).caching (stays s t out h) h.limit (looked_of s t h) h)
    (cond (usable s t out h) h (held_by false true 0 [] 0 t))

-- setting a rate: "a new limit, forgets the cached factor"
abbrev pub limited : ℕ → Held → Held
limited limit h = cond h.known (held_by true (eqb limit h.limit && h.cached) limit h.buckets h.factor h.since) h

-- a set
abbrev pub set_to : RoomKind → Settings → ℕ → RateLimit → RateLimitComparator → ℕ → HistoryUpdateMode → Held → Held
set_to kind s t rate comparator count mode h =
    cond (still_for kind s t rate comparator count mode h) h
    (cond (eqb count 0) nothing
    (plainly (limit_in kind s rate) (cond h.known (reset_to (window_ticks s) t mode count h.buckets) (bucket count 0 t ∷ []))))

-- a cleanup, of any key
abbrev pub cleaned_to : Settings → ℕ → ℕ → Held → Held
cleaned_to s t stale h =
    held_by (h.known && series_stays h.buckets t (ticks_in s) stale) (h.cached && factor_stays h.since t (ticks_in s) stale) h.limit h.buckets
    h.factor
    h.since

-- of its own key; a cleanup and a clear have none
abbrev pub left_by : (kind : RoomKind) → Settings → ℕ → ℕ → Op kind → Held → Held
left_by kind s r t (inc key rate c) h = counted s r t rate c h
left_by kind s r t (is_allowed key) h = cond h.known (plainly h.limit (tested s t (whole_limit h) h.buckets)) h
left_by kind s r t (get key) h = cond h.known (plainly h.limit (live_of s t h)) h
left_by kind s r t (draws key rate c draw) h = drawn s t rate c draw h
left_by kind s r t (snapshot key) h = cond h.known (caching (asking s t true h).caching (stays s t true h) h.limit (live_of s t h) h) h
left_by kind s r t (get_factor key) h = factored s t h
left_by kind s r t (set_rate key rate) h = limited (limit_in kind s rate) h
left_by kind s r t (set key rate comparator count mode) h = set_to kind s t rate comparator count mode h
left_by kind s r t (delete key) h = cond (has_any h) nothing h
left_by kind s r t (cleanup who stale) h = h
left_by kind s r t (cleanup_both who other whose stale) h = h
left_by kind s r t (clear who) h = h

-- ---- the key that a call names

-- a call without a key: nobody's
abbrev pub no_key : Sent
no_key = record { caller = record { party = 0; first = 0; second = 0 }; bytes = [] }

abbrev pub named_by : Touch → Sent
named_by (slot_of key) = key
named_by (stale_by stale) = no_key
named_by (whole m) = no_key

abbrev pub is_named : Touch → Bool
is_named (slot_of key) = true
is_named (stale_by stale) = false
is_named (whole m) = false

abbrev pub key_in : {kind : RoomKind} → Op kind → Sent
key_in op = named_by (touches op)

abbrev pub Named : {kind : RoomKind} → Op kind → Type 0
Named op = is_named (touches op) ≡ true
