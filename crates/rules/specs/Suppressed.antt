-- The suppressed limiter's rules, in document 01's words and order. h is the key, xs its buckets once it has evicted, S and H the soft and the hard limit as
-- whole numbers, W the window in seconds, n the number of ticks in a millisecond, t the reading, c the count, r the ring. out says whether the call evicts:
-- `get` does at once, an increment and `get_suppression_factor` by a first look.
-- Assumes nothing.
use Rattle.std.specs.Prelude.{Bool, true, false, ◌&&◌, cond, List, [], ◌∷◌, ℕ, ◌+◌, ◌-◌, leb, ltb, eqb, Float, length, Option, Some, None}
use Rattle.std.specs.Float.{binary64}
use Rattle.std.specs.Float.Ieee.{of_bits}
use Rattle.suppression.specs.Factor.{fresh_factor, admitted}
use Rattle.answers.specs.HistoryMode.{no_snapshot}
use Rattle.common.specs.Limits.{cut_word, soft_word}
use Rattle.common.specs.Ranges.{nil, one}
use Rattle.settings.specs.Settings.{window_in, factor_in, cache_in}
use Rattle.settings.specs.Clock.{age_in_milliseconds, ticks_in, window_ticks, join_ticks}
use Rattle.settings.specs.declared.Settings.{Settings}
use Rattle.answers.specs.declared.RateLimitDecision.{RateLimitDecision}
use Rattle.answers.specs.declared.RateLimitDecision.TheVariants.{Allowed, Rejected, Suppressed, Refused}
use Rattle.suppression.specs.declared.CachedFactor.{CachedFactor}
use Rattle.answers.specs.declared.SuppressedRateLimitSnapshot.{SuppressedRateLimitSnapshot}
use Rattle.common.specs.declared.units.RateLimit.{RateLimit}
use Rattle.rules.specs.Buckets.{gone_if, out_if, last_second}
use Rattle.ring.specs.declared.Bucket.{Bucket}
use Rattle.ring.specs.Ring.{counts, declineds}
use Rattle.rules.specs.declared.Asked.{Asked}
use Rattle.rules.specs.declared.FactorRule.{FactorRule}
use Rattle.rules.specs.declared.FactorRule.TheVariants.{Nil, One, Worked}
use Rattle.rules.specs.declared.Outcome.{Outcome}
use Rattle.rules.specs.declared.Reach.{Reach}
use Rattle.rules.specs.declared.Reach.TheVariants.{Hard, Soft, Over, Between}
use Rattle.rules.specs.declared.RoomKind.TheVariants as kind
use Rattle.rules.specs.Held.{Held, lacks_slot}
use Rattle.rules.specs.Both.{limit_in, live_of, overdue_in, looked_of, unrated, passes, ring_full}

-- ---- the limit: "H = hard cut, and the soft limit is S = hard / F cut"; a series has its own

abbrev pub limit_for : Settings → RateLimit → Held → ℕ
limit_for s rate h = cond h.known h.limit (limit_in kind.Suppressed s rate)

-- ---- the cached factor

-- "Evict if the oldest is expired, and then forget the cached factor"
unfoldable pub stays : Settings → ℕ → Bool → Held → Bool
stays s t out h = h.cached && eqb (gone_if out (window_ticks s) t h.buckets) 0

-- "the cached factor at age below C", cut to milliseconds
abbrev pub usable : Settings → ℕ → Bool → Held → Bool
usable s t out h = stays s t out h && ltb (age_in_milliseconds (ticks_in s) t h.since) (cache_in s)

abbrev pub cached_at : Float → ℕ → CachedFactor
cached_at f t = record { suppression_factor = f; time = t }

-- ---- the fresh factor

-- "no series or no bucket 0; total at least H gives 1; accepted below S gives 0; accepted = S = H gives 1; else" it is worked out; accepted is total - declined
abbrev pub clauses : ℕ → ℕ → Bool → ℕ → ℕ → FactorRule
clauses S H none total declined =
    cond none Nil
    (cond (leb H total) One
    (cond (ltb (total - declined) S) Nil
    (cond (eqb (total - declined) S && eqb S H) One
    Worked)))

-- "else 1 - (S / W / perceived)", and 0 at a zero perceived rate (document 02, ticket 2); last are the counts at age at most 1000 ms
abbrev pub fresh_by : FactorRule → ℕ → ℕ → ℕ → ℕ → Float
fresh_by Nil S total W last = nil
fresh_by One S total W last = one
fresh_by Worked S total W last = fresh_factor S total W last

-- "Fresh factor, cached with the reading"
abbrev pub freshly : FactorRule → ℕ → ℕ → ℕ → ℕ → ℕ → Asked
freshly by S W t total last = record {
  factor = fresh_by by S total W last;
  caching = Some (cached_at (fresh_by by S total W last) t);
}

abbrev pub rule_on : ℕ → ℕ → List Bucket → FactorRule
rule_on S H xs = clauses S H (eqb (length xs) 0) (counts xs) (declineds xs)

-- the cached factor that is left as it is
abbrev pub as_cached : ℕ → Asked
as_cached factor = record { factor = of_bits binary64 factor; caching = None }

-- of the buckets
abbrev pub fresh_on : ℕ → ℕ → ℕ → ℕ → ℕ → List Bucket → Asked
fresh_on S H W n t xs = freshly (rule_on S H xs) S W t (counts xs) (last_second n t xs)

-- "the cached factor at age below C, else a fresh one", at this limit
unfoldable pub asked : Settings → ℕ → Bool → ℕ → Held → Asked
asked s t out limit h =
    cond (usable s t out h) (as_cached h.factor)
    (fresh_on (soft_word (factor_in s) limit) (cut_word limit) (window_in s) (ticks_in s) t (out_if out (window_ticks s) t h.buckets))

-- ---- an increment

-- "Forecast = total - declined + count"
abbrev pub forecast : List Bucket → ℕ → ℕ
forecast xs c = counts xs - declineds xs + c

-- where it stands: "equal to H", even when it is also at most S; "At most S"; "Over H"; "Between"
unfoldable pub reach_of : ℕ → ℕ → ℕ → Reach
reach_of n S H = cond (eqb n H) Hard (cond (leb n S) Soft (cond (ltb H n) Over Between))

-- "cache 1"
abbrev pub full_at : ℕ → Option CachedFactor
full_at t = Some (cached_at one t)

-- "Count, and declined if not admitted, go to totals and bucket"
abbrev pub declined_by : Bool → ℕ → ℕ
declined_by is c = cond is 0 c

-- the factor decides with the draw: "Suppressed with its factor and yes or no"
unfoldable pub drawn : Asked → ℕ → ℕ → Outcome
drawn a c draw = record {
  decision = Suppressed a.factor (admitted a.factor draw);
  declined = declined_by (admitted a.factor draw) c;
  caching = a.caching;
}

-- "At most S, or equal to H: Allowed. Equal to H caches factor 1 .. Over H: cache 1, not admitted. Between: the .. factor"
abbrev pub outcome_of : Reach → Asked → ℕ → ℕ → ℕ → Outcome
outcome_of Hard a t c draw = record { decision = Allowed; declined = 0; caching = full_at t }
outcome_of Soft a t c draw = record { decision = Allowed; declined = 0; caching = None }
outcome_of Over a t c draw = record { decision = Suppressed one false; declined = c; caching = full_at t }
outcome_of Between a t c draw = drawn a c draw

-- the outcome of a count at this limit
unfoldable pub outcome : Settings → ℕ → ℕ → ℕ → ℕ → Held → Outcome
outcome s t limit c draw h =
    outcome_of (reach_of (forecast (looked_of s t h) c) (soft_word (factor_in s) limit) (cut_word limit)) (asked s t (overdue_in s t h) limit h) t c draw

-- whether a decision admits its count
abbrev pub admits : RateLimitDecision → Bool
admits Allowed = true
admits (Rejected window wait rest) = false
admits (Suppressed f is) = is
admits (Refused n) = false

-- 9: "draw over 2^53 - 1 (suppressed increment only)"
abbrev pub most_draw : ℕ
most_draw = 9007199254740991

-- 8 to 12; 10 and 12 are judged on the buckets that the first look leaves. full says that the party holds its promised number
abbrev pub inc_turns : Settings → ℕ → Bool → ℕ → RateLimit → ℕ → ℕ → Held → List (ℕ × Bool)
inc_turns s r full t rate c draw h =
    (8, unrated rate) ∷
    (9, ltb most_draw draw) ∷
    (10, passes c (counts (looked_of s t h))) ∷
    (11, lacks_slot full h) ∷
    (12, ring_full r (join_ticks s) t (looked_of s t h)) ∷ []

-- ---- `get` and `get_suppression_factor`

-- "`get` on an unknown key gives zeros"; else live total, live declined and the factor
abbrev pub snapshot_of : Settings → ℕ → Held → Float → SuppressedRateLimitSnapshot
snapshot_of s t h f =
    cond h.known
    (record { total = counts (live_of s t h); total_declined = declineds (live_of s t h); suppression_factor = f })
    no_snapshot

-- the factor that they ask for: at the limit that is stored
abbrev pub asking : Settings → ℕ → Bool → Held → Asked
asking s t out h = asked s t out h.limit h

-- 11, of `get_suppression_factor`; `get` has none of its own
abbrev pub factor_turns : Bool → Held → List (ℕ × Bool)
factor_turns full h = (11, lacks_slot full h) ∷ []
