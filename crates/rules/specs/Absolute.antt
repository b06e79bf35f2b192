-- The absolute limiter's rules, in document 01's words and order. h is the key, n its limit cut to a whole number, xs its buckets; b is the longest age that
-- joins, t the reading, c the count, r the ring.
-- Assumes nothing.
use Rattle.std.specs.Prelude.{Bool, true, false, not, ◌&&◌, ◌||◌, List, [], ◌∷◌, ℕ, ◌-◌, ltb}
use Rattle.common.specs.Limits.{cut_word}
use Rattle.settings.specs.Clock.{age_in_milliseconds, ticks_in, window_in_milliseconds, window_ticks, join_ticks}
use Rattle.settings.specs.declared.Settings.{Settings}
use Rattle.answers.specs.declared.RateLimitDecision.{RateLimitDecision}
use Rattle.answers.specs.declared.RateLimitDecision.TheVariants.{Allowed, Rejected}
use Rattle.common.specs.declared.units.RateLimit.{RateLimit}
use Rattle.common.specs.declared.units.WindowSize.{WindowSize}
use Rattle.rules.specs.Buckets.{out_if}
use Rattle.ring.specs.declared.Bucket.{Bucket}
use Rattle.ring.specs.Ring.{counts}
use Rattle.rules.specs.Held.{Held, lacks_slot}
use Rattle.rules.specs.Both.{overdue, looked_of, unrated, passes, ring_full}

-- ---- who is allowed

-- "Stored total below the cut limit: Allowed, however large the count. Otherwise, if the oldest bucket is expired, evict and test again"
unfoldable pub below : ℕ → ℕ → Bool
below n total = ltb total n

-- whether it tests again: where the oldest is expired then, by a first look, the expired buckets are out
abbrev pub tests_again : ℕ → List Bucket → Bool
tests_again n xs = not (below n (counts xs))

-- the buckets that the last test is made on
unfoldable pub tested : Settings → ℕ → ℕ → List Bucket → List Bucket
tested s t n xs = out_if (tests_again n xs && overdue s t xs) (window_ticks s) t xs

abbrev pub allowed_by : Settings → ℕ → ℕ → List Bucket → Bool
allowed_by s t n xs = below n (counts (tested s t n xs))

-- the key's limit, cut
abbrev pub whole_limit : Held → ℕ
whole_limit h = cut_word h.limit

-- "Unknown key: Allowed"
unfoldable pub allowed : Settings → ℕ → Held → Bool
allowed s t h = not h.known || allowed_by s t (whole_limit h) h.buckets

-- ---- the decision

abbrev pub pick_decision : Bool → RateLimitDecision → RateLimitDecision → RateLimitDecision
pick_decision true a b = a
pick_decision false a b = b

-- "Rejected carries 1000 W less the oldest bucket's age and that bucket's count, or 0 and 0 with none", of the buckets that the first look leaves; k is the
-- number of ticks in a millisecond
abbrev pub rejection : ℕ → WindowSize → ℕ → List Bucket → RateLimitDecision
rejection k window t [] = Rejected window 0 0
rejection k window t (x ∷ xs) = Rejected window (window_in_milliseconds window.0 - age_in_milliseconds k t x.time) x.count

unfoldable pub decided : Settings → ℕ → Held → RateLimitDecision
decided s t h = pick_decision (allowed s t h) Allowed (rejection (ticks_in s) s.window_size t (looked_of s t h))

-- ---- an increment

-- it would meet 10 or 12
abbrev pub would_meet : ℕ → ℕ → ℕ → ℕ → List Bucket → Bool
would_meet r b t c xs = passes c (counts xs) || ring_full r b t xs

-- "If an allowed increment would meet 10 or 12, expired buckets are taken out first", in full precision; the test has taken them out already where it was
-- made again, since by a first look that leaves all of them it does not allow
unfoldable pub takes_out : ℕ → ℕ → ℕ → ℕ → ℕ → List Bucket → Bool
takes_out r b t c n xs = tests_again n xs || would_meet r b t c xs

-- the same of a key
abbrev pub out_for : Settings → ℕ → ℕ → ℕ → Held → Bool
out_for s r t c h = takes_out r (join_ticks s) t c (whole_limit h) h.buckets

-- the buckets that an allowed increment finds
abbrev pub found_for : Settings → ℕ → ℕ → ℕ → Held → List Bucket
found_for s r t c h = out_if (out_for s r t c h) (window_ticks s) t h.buckets

-- 8, 10, 11, 12: "An absolute rejection goes before 10 to 12"; full says that the party holds its promised number
abbrev pub inc_turns : Settings → ℕ → Bool → ℕ → RateLimit → ℕ → Held → List (ℕ × Bool)
inc_turns s r full t rate c h =
    (8, unrated rate) ∷
    (10, allowed s t h && passes c (counts (found_for s r t c h))) ∷
    (11, lacks_slot full h) ∷
    (12, allowed s t h && ring_full r (join_ticks s) t (found_for s r t c h)) ∷ []
