-- Small rooms and short calls on them, for promises that are told by an example: one slot with a ring of three, W = 10, b = C = 100.
-- Assumes nothing.
use Rattle.std.specs.Prelude.{false, List, [], ◌∷◌, ℕ, ◌+◌, ◌*◌, pos, negsuc, Float, Result}
use Rattle.std.specs.Float.{fin, binary64}
use Rattle.std.specs.Float.Ieee.{div, of_int}
use Rattle.common.specs.Ranges.{one}
use Rattle.settings.specs.Settings.{ten_seconds, with_factor, with_clock}
use Rattle.settings.specs.declared.ClockMode.TheVariants.{Nanoseconds}
use Rattle.answers.specs.declared.RateLimitDecision.{RateLimitDecision}
use Rattle.common.specs.declared.comparator.RateLimitComparator.TheVariants as comparator
use Rattle.answers.specs.declared.HistoryPreservation.TheVariants.{PreserveNewest}
use Rattle.answers.specs.declared.HistoryUpdateMode.TheVariants as mode
use Rattle.settings.specs.declared.Settings.{Settings}
use Rattle.common.specs.declared.units.RateLimit.{RateLimit}
use Rattle.ring.specs.declared.Bucket.{Bucket}
use Rattle.ring.specs.Ring.{buckets}
use Rattle.room.specs.Room.{ring_of, body_of, empty}
use Rattle.parties.specs.declared.Caller.{Caller}
use Rattle.parties.specs.Parties.{Sent, sent}
use Rattle.rules.specs.declared.RoomKind.{RoomKind}
use Rattle.rules.specs.declared.RoomKind.TheVariants as kind
use Rattle.judge.specs.Verdict.{Verdict}
use Rattle.clearing.specs.Clear as Clear
use Rattle.calls.specs.Set as Sets
use Rattle.cleanup.specs.Cleanup as Cleanup
use Rattle.absolute_verdicts.specs.Calls as Absolute
use Rattle.suppressed_verdicts.specs.Calls as Suppressed
use Rattle.promises.specs.Rules.{Inc, inc_of}
use Rattle.common.specs.declared.refusal.Refusal.{Refusal}
use Rattle.answers.specs.declared.ConditionalSetOutcome.{ConditionalSetOutcome}
use Rattle.answers.specs.declared.SuppressedRateLimitSnapshot.{SuppressedRateLimitSnapshot}

-- ---- settings, rates, the room, the caller and the key

-- a quotient of two whole numbers, as a double
abbrev pub whole : ℕ → Float
whole n = of_int binary64 (pos n)

abbrev pub ratio : ℕ → ℕ → Float
ratio m n = div binary64 (whole m) (whole n)

abbrev pub half : Float
half = fin false 1 (negsuc 0)

-- W = 10 and b = C = 100, with hard limit factor n
abbrev pub hard_by : ℕ → Settings
hard_by n = with_factor ten_seconds (whole n)

abbrev pub per_second : Float → RateLimit
per_second x = record { 0 = x }

abbrev pub room : List ℕ
room = empty 1 3

-- party 1, promised the slot
abbrev pub who : Caller
who = record { party = 1; first = 1; second = 0 }

abbrev pub key : Sent
key = sent who (97 ∷ [])

-- ---- the absolute limiter at rate 1: the limit is 10

abbrev pub ainc : ℕ → ℕ → List ℕ → Verdict RateLimitDecision
ainc t count w = Absolute.inc ten_seconds w t key (per_second one) count

abbrev pub aget : ℕ → List ℕ → Verdict (Result ℕ Refusal)
aget t w = Absolute.get ten_seconds w t key

-- 10 at reading 0
abbrev pub ten : List ℕ
ten = (ainc 0 10 room).words

-- ---- the suppressed limiter at rate 1 and F = 2: H = 20, S = 10

abbrev pub sinc : ℕ → ℕ → ℕ → List ℕ → Verdict RateLimitDecision
sinc t count draw w = Suppressed.inc (hard_by 2) w t key (per_second one) count draw

abbrev pub factor_at : ℕ → List ℕ → Verdict (Result Float Refusal)
factor_at t w = Suppressed.get_factor (hard_by 2) w t key

abbrev pub sget : ℕ → List ℕ → Verdict (Result SuppressedRateLimitSnapshot Refusal)
sget t w = Suppressed.get (hard_by 2) w t key

-- 8 at reading 0 and 2 at 1500: while the 2 are in the last second the fresh factor is 0.5, and later 0
abbrev pub eight_and_two : List ℕ
eight_and_two = (sinc 1500 2 0 (sinc 0 8 0 room).words).words

-- 20 at reading 0: equal to H, so that factor 1 is cached at 0
abbrev pub twenty : List ℕ
twenty = (sinc 0 20 0 room).words

abbrev pub clean : ℕ → ℕ → List ℕ → Verdict (Result (Unit {0}) Refusal)
clean t stale w = Cleanup.cleanup kind.Suppressed (hard_by 2) w t who stale

-- ---- either limiter at rate 1, and any function in its place, by words, reading and count

abbrev pub settings_for : RoomKind → Settings
settings_for kind.Absolute = ten_seconds
settings_for kind.Suppressed = hard_by 2

abbrev pub ask_at : RoomKind → Inc → List ℕ → ℕ → ℕ → Verdict RateLimitDecision
ask_at kind f w t count = f (settings_for kind) w t key (per_second one) count 0

abbrev pub inc_at : RoomKind → List ℕ → ℕ → ℕ → Verdict RateLimitDecision
inc_at kind w t count = ask_at kind (inc_of kind) w t count

-- as many as fill an empty room at once, and the room then: `ten`, `twenty`
abbrev pub most : RoomKind → ℕ
most kind.Absolute = 10
most kind.Suppressed = 20

abbrev pub full : RoomKind → List ℕ
full kind = (inc_at kind room 0 (most kind)).words

-- 1 at reading 0
abbrev pub single : RoomKind → List ℕ
single kind = (inc_at kind room 0 1).words

-- the buckets of the only slot, whatever its key and use
abbrev pub in_slot : List ℕ → List Bucket
in_slot w = buckets (ring_of w) (body_of w 0)

-- ---- the suppressed limiter at rate 1/4 and F = 1: H = S = 2, so that 2 are admitted and 5 more declined

abbrev pub quarter : ℕ → List ℕ → Verdict RateLimitDecision
quarter count w = Suppressed.inc ten_seconds w 0 key (per_second (ratio 1 4)) count 0

abbrev pub seven_five : List ℕ
seven_five = (quarter 5 (quarter 2 room).words).words

-- a set that makes the total n and preserves the newest
abbrev pub preserve : ℕ → List ℕ → Verdict (Result ConditionalSetOutcome Refusal)
preserve n w = Sets.set kind.Suppressed ten_seconds w 0 key (per_second (ratio 1 4)) comparator.Always n (mode.Preserve PreserveNewest)

-- ---- the suppressed limiter at rate 1/20 and F = 4: H = 2, S = 0

-- by the greatest draw, which a factor other than 0 seldom lets through
abbrev pub twentieth : ℕ → ℕ → List ℕ → Verdict RateLimitDecision
twentieth t count w = Suppressed.inc (hard_by 4) w t key (per_second (ratio 1 20)) count 9007199254740991

-- a link test of count 0 at reading 0
abbrev pub link_tested : List ℕ
link_tested = (twentieth 0 0 room).words

-- ---- the same rooms with readings in nanoseconds

-- m milliseconds and n nanoseconds
abbrev pub at : ℕ → ℕ → ℕ
at m n = 1000000 * m + n

abbrev pub nano : Settings → Settings
nano s = with_clock s Nanoseconds

abbrev pub ninc : ℕ → ℕ → List ℕ → Verdict RateLimitDecision
ninc t count w = Absolute.inc (nano ten_seconds) w t key (per_second one) count

abbrev pub nask : ℕ → List ℕ → Verdict RateLimitDecision
nask t w = Absolute.is_allowed (nano ten_seconds) w t key

abbrev pub nget : ℕ → List ℕ → Verdict (Result ℕ Refusal)
nget t w = Absolute.get (nano ten_seconds) w t key

abbrev pub ndraws : ℕ → ℕ → List ℕ → Verdict RateLimitDecision
ndraws t count w = Suppressed.inc (nano (hard_by 2)) w t key (per_second one) count 0

abbrev pub nfactor : ℕ → List ℕ → Verdict (Result Float Refusal)
nfactor t w = Suppressed.get_factor (nano (hard_by 2)) w t key

abbrev pub nsnapshot : ℕ → List ℕ → Verdict (Result SuppressedRateLimitSnapshot Refusal)
nsnapshot t w = Suppressed.get (nano (hard_by 2)) w t key

abbrev pub nclean : ℕ → ℕ → List ℕ → Verdict (Result (Unit {0}) Refusal)
nclean t stale w = Cleanup.cleanup kind.Suppressed (nano (hard_by 2)) w t who stale

-- 3 and 10 of the absolute limiter, and 20 of the suppressed one, at reading 0
abbrev pub nthree : List ℕ
nthree = (ninc 0 3 room).words

abbrev pub nten : List ℕ
nten = (ninc 0 10 room).words

abbrev pub ntwenty : List ℕ
ntwenty = (ndraws 0 20 room).words

-- 8 at reading 0 and 2 at 1500 ms
abbrev pub neight : List ℕ
neight = (ndraws (at 1500 0) 2 (ndraws 0 8 room).words).words

-- ---- two parties in a room of two slots, at the absolute limiter's rate 1 and reading 0

abbrev pub pair : List ℕ
pair = empty 2 3

-- a party and both promises, and the key's only byte
abbrev pub sent_by : ℕ → ℕ → ℕ → ℕ → Sent
sent_by party first second byte = sent (record { party = party; first = first; second = second }) (byte ∷ [])

abbrev pub pinc : Sent → ℕ → List ℕ → Verdict RateLimitDecision
pinc k count w = Absolute.inc ten_seconds w 0 k (per_second one) count

-- a clear by a party with promises of one slot each
abbrev pub pclear : ℕ → List ℕ → Verdict (Result (Unit {0}) Refusal)
pclear party w = Clear.clear ten_seconds w 0 (record { party = party; first = 1; second = 1 })

-- 3 of party 1, and 5 of party 2 under the same byte
abbrev pub of_one : List ℕ
of_one = (pinc (sent_by 1 1 1 97) 3 pair).words

abbrev pub of_both : List ℕ
of_both = (pinc (sent_by 2 1 1 97) 5 of_one).words
