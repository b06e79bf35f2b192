-- Document 01's boundary values, its lines marked P, in a single table. Every line is computed by the checker from the definitions that the contracts
-- name; a line that speaks of calls is computed by the calls, one after the other, on the words of an empty room (`Cases.antt`).
-- Assumes nothing.
use Rattle.std.specs.Prelude.{◌≡◌, true, false, [], ◌∷◌, ◌≢◌, ℕ, ◌^◌, ◌+◌, set, replicate, Ok}
use Rattle.common.specs.Ranges.{nil, one}
use Rattle.common.specs.Refusals.{first, refuse}
use Rattle.settings.specs.Settings.{defaults, ten_seconds, with_window}
use Rattle.answers.specs.declared.RateLimitDecision.TheVariants.{Allowed, Rejected, Suppressed, Refused}
use Rattle.answers.specs.HistoryMode.{no_snapshot}
use Rattle.ring.specs.Ring.{bucket}
use Rattle.room.specs.Room.{holder_of, used_at, vacant}
use Rattle.parties.specs.Parties.{sent}
use Rattle.judge.specs.Judge.{looked_in}
use Rattle.opened.specs.Sound.{addressed}
use Rattle.rules.specs.declared.RoomKind.{RoomKind}
use Rattle.rules.specs.declared.RoomKind.TheVariants as kind
use Rattle.rules.specs.Absolute as AbsoluteRules
use Rattle.judge.specs.Held.{held_in}
use Rattle.plan.specs.Plan.{place_of}
use Rattle.suppressed_verdicts.specs.Calls as SuppressedCalls
use Rattle.demand3.specs.History.{hard_of, soft_of}
use Rattle.finding.specs.Finding.{buckets_of}
use Rattle.promises.specs.Rules.{inc_table}
use Rattle.promises.specs.Cases.{half, hard_by, per_second, key, room, ainc, aget, ten, sinc, factor_at, sget, eight_and_two, twenty, clean}
use Rattle.promises.specs.Cases.{at, ninc, nask, nget, ndraws, nfactor, nsnapshot, nclean, nthree, nten, ntwenty, neight}
use Rattle.promises.specs.Cases.{sent_by, pinc, pclear, pair, of_one, of_both}
use Rattle.promises.specs.Cases.{inc_at, most, full, single, in_slot, seven_five, preserve, twentieth, link_tested}

pub record Boundary : Type 0 where
  -- "age 10,000 live; 10,001 expired"
  pub live-10000 : (aget 10000 ten).answer ≡ Ok 10
  pub expired-10001 : (aget 10001 ten).answer ≡ Ok 0
  -- "age 100 joins; 101 adds"
  pub joins-100 : buckets_of (ainc 100 2 (ainc 0 3 room).words).words key ≡ bucket 5 0 0 ∷ []
  pub adds-101 : buckets_of (ainc 101 2 (ainc 0 3 room).words).words key ≡ bucket 3 0 0 ∷ bucket 2 0 101 ∷ []
  -- "cached age 99 used; 100 worked out afresh": 0.5 is cached at 2450, a fresh one is 0
  pub cached-2450 : (factor_at 2450 eight_and_two).answer ≡ Ok half
  pub used-99 : (factor_at 2549 (factor_at 2450 eight_and_two).words).answer ≡ Ok half
  pub afresh-100 : (factor_at 2550 (factor_at 2450 eight_and_two).words).answer ≡ Ok nil
  -- "age 1,000 in the last second; 1,001 not": of the 2 at 1500
  pub second-1000 : (factor_at 2500 eight_and_two).answer ≡ Ok half
  pub second-1001 : (factor_at 2501 eight_and_two).answer ≡ Ok nil
  -- "H = 20, S = 10: forecast 20 Allowed, 21 not admitted, 19 asks the factor", which is 0 for a new key
  pub forecast-20 : (sinc 0 20 0 room).answer ≡ Allowed
  pub forecast-21 : (sinc 0 21 0 room).answer ≡ Suppressed one false
  pub forecast-19 : (sinc 0 19 0 room).answer ≡ Suppressed nil true
  -- "7 counted, 5 declined, 4 taken: 3 and 2 stay"
  pub seven-five : buckets_of seven_five key ≡ bucket 7 5 0 ∷ []
  pub three-two : buckets_of (preserve 3 seven_five).words key ≡ bucket 3 2 0 ∷ []
  -- "absolute limit 10, total 9, count 100: Allowed, total 109"
  pub nine-allowed : (ainc 1 100 (ainc 0 9 room).words).answer ≡ Allowed
  pub nine-total : (aget 1 (ainc 1 100 (ainc 0 9 room).words).words).answer ≡ Ok 109
  -- "absolute limit 10, 10 at reading 0: at 50 Rejected 9950, 10; at 10,000 Rejected 0, 10; at 10,001 Allowed"
  pub rejected-50 : (ainc 50 1 ten).answer ≡ Rejected (record { 0 = 10 }) 9950 10
  pub rejected-10000 : (ainc 10000 1 ten).answer ≡ Rejected (record { 0 = 10 }) 0 10
  pub allowed-10001 : (ainc 10001 1 ten).answer ≡ Allowed
  -- "rate 0.05, F = 4: counts 0 then 1 at readings 0 and 1 give Allowed", then "Suppressed with factor 0 and yes" (document 02, ticket 2)
  pub empty-allowed : (twentieth 0 0 room).answer ≡ Allowed
  pub shot-admitted : (twentieth 1 1 link_tested).answer ≡ Suppressed nil true
  -- "factor 0.5: draw 4503599627370495 admits, 4503599627370496 does not"
  pub draw-admits : (sinc 1700 5 4503599627370495 eight_and_two).answer ≡ Suppressed half true
  pub draw-declines : (sinc 1700 5 4503599627370496 eight_and_two).answer ≡ Suppressed half false
  -- "total 2^53 taken; 2^53 + 1 gives 10"
  pub most-taken : (aget 1 (ainc 1 (2 ^ 53) (ainc 0 0 room).words).words).answer ≡ Ok (2 ^ 53)
  pub most-passed : (ainc 1 (2 ^ 53 + 1) (ainc 0 0 room).words).answer ≡ Refused 10
  -- "cleanup 500: newest bucket and cached factor both aged 500: series stays, factor goes": the slot's use, 3 for both and 1 for a series
  pub both-before : used_at twenty 0 ≡ 3
  pub series-after : used_at (clean 500 500 twenty).words 0 ≡ 1

-- the boundary values with readings in nanoseconds (document 02, ticket 8): `at m n` is m milliseconds and n nanoseconds
pub record NanoBoundary : Type 0 where
  -- at 10,000 ms a bucket is live for all, and none takes it out
  pub live-get : (nget (at 10000 0) nten).answer ≡ Ok 10
  pub live-left : buckets_of (nget (at 10000 0) nten).words key ≡ bucket 10 0 0 ∷ []
  pub live-rejected : (ninc (at 10000 0) 1 nten).answer ≡ Rejected (record { 0 = 10 }) 0 10
  -- at 10,000 ms and 1 ns it is gone for `get`
  pub gone-get : (nget (at 10000 1) nten).answer ≡ Ok 0
  pub gone-left : buckets_of (nget (at 10000 1) nten).words key ≡ []
  pub gone-snapshot : (nsnapshot (at 10000 1) ntwenty).answer ≡ Ok no_snapshot
  pub gone-after : buckets_of (nsnapshot (at 10000 1) ntwenty).words key ≡ []
  -- and left by an increment, by `is_allowed` and by `get_suppression_factor`, up to 10,000 ms and 999,999 ns
  pub left-inc : buckets_of (ninc (at 10000 1) 2 nthree).words key ≡ bucket 3 0 0 ∷ bucket 2 0 (at 10000 1) ∷ []
  pub left-rejected : (ninc (at 10000 999999) 1 nten).answer ≡ Rejected (record { 0 = 10 }) 0 10
  pub left-asked : buckets_of (nask (at 10000 999999) nten).words key ≡ bucket 10 0 0 ∷ []
  pub left-draws : buckets_of (ndraws (at 10000 999999) 1 ntwenty).words key ≡ bucket 20 0 0 ∷ bucket 1 1 (at 10000 999999) ∷ []
  pub left-factor : buckets_of (nfactor (at 10000 1) ntwenty).words key ≡ bucket 20 0 0 ∷ []
  -- at 10,001 ms it is gone for all that evict, of the absolute limiter at its limit
  pub evicts-inc : buckets_of (ninc (at 10001 0) 1 nten).words key ≡ bucket 1 0 (at 10001 0) ∷ []
  pub evicts-asked : (nask (at 10001 0) nten).answer ≡ Allowed
  pub evicts-left : buckets_of (nask (at 10001 0) nten).words key ≡ []
  pub evicts-draws : buckets_of (ndraws (at 10001 0) 1 ntwenty).words key ≡ bucket 1 0 (at 10001 0) ∷ []
  pub evicts-factor : buckets_of (nfactor (at 10001 0) ntwenty).words key ≡ []
  -- an increment joins at 100 ms and 999,999 ns, and adds at 101 ms
  pub joins-100 : buckets_of (ninc (at 100 999999) 2 nthree).words key ≡ bucket 5 0 0 ∷ []
  pub adds-101 : buckets_of (ninc (at 101 0) 2 nthree).words key ≡ bucket 3 0 0 ∷ bucket 2 0 (at 101 0) ∷ []
  -- a factor that is cached at 2450 ms is used a nanosecond before 100 ms, and not at 100 ms
  pub cached-2450 : (nfactor (at 2450 0) neight).answer ≡ Ok half
  pub used-99 : (nfactor (at 2549 999999) (nfactor (at 2450 0) neight).words).answer ≡ Ok half
  pub afresh-100 : (nfactor (at 2550 0) (nfactor (at 2450 0) neight).words).answer ≡ Ok nil
  -- 1,000 ms and 999,999 ns are in the last second, 1,001 ms are not
  pub second-1000 : (nfactor (at 2500 999999) neight).answer ≡ Ok half
  pub second-1001 : (nfactor (at 2501 0) neight).answer ≡ Ok nil
  -- a rejection's wait is in milliseconds
  pub waits-50 : (ninc (at 50 999999) 1 nten).answer ≡ Rejected (record { 0 = 10 }) 9950 10
  -- 6 compares nanoseconds
  pub back-1 : (nget 0 (ninc 1 3 room).words).answer ≡ refuse 6
  -- cleanup 500: both stay a nanosecond before 500 ms, the series up to 500 ms and 999,999 ns
  pub both-499 : used_at (nclean (at 499 999999) 500 ntwenty).words 0 ≡ 3
  pub series-500 : used_at (nclean (at 500 999999) 500 ntwenty).words 0 ≡ 1
  pub none-501 : holder_of (nclean (at 501 0) 500 ntwenty).words 0 ≡ 0

-- what two parties in one room meet (document 02, ticket 6): `sent_by` names a party, the promises of both and the key's byte
pub record PartyBoundary : Type 0 where
  -- "the same bytes under the other party are another key"
  pub first-own : buckets_of of_both (sent_by 1 1 1 97) ≡ bucket 3 0 0 ∷ []
  pub second-own : buckets_of of_both (sent_by 2 1 1 97) ≡ bucket 5 0 0 ∷ []
  -- 11 "when a slot is needed and the party already holds its promised number", though one is free; the other party takes it
  pub one_free : vacant of_one ≡ 1
  pub none-left : (pinc (sent_by 1 1 1 98) 1 of_one).answer ≡ Refused 11
  pub one_left : (pinc (sent_by 2 1 1 98) 1 of_one).answer ≡ Allowed
  pub none_needed : (pinc (sent_by 1 1 1 97) 1 of_one).answer ≡ Allowed
  -- "15 for a party other than 1 and 2"
  pub party-0 : (pinc (sent_by 0 1 1 97) 1 pair).answer ≡ Refused 15
  pub party-3 : (pinc (sent_by 3 1 1 97) 1 pair).answer ≡ Refused 15
  -- "16 for promises that together pass the room's slots", by any number, "or where either party holds more than its own"
  pub promised-2 : (pinc (sent_by 1 2 0 97) 1 pair).answer ≡ Allowed
  pub promised-3 : (pinc (sent_by 1 1 2 97) 1 pair).answer ≡ Refused 16
  pub promised-most : (pinc (sent_by 1 (2 ^ 63) (2 ^ 63 + 2) 97) 1 pair).answer ≡ Refused 16
  pub holds_more : (pinc (sent_by 2 0 2 98) 1 of_one).answer ≡ Refused 16
  -- "judged after 7 in that order"
  pub long-first : (pinc (sent (sent_by 3 1 1 97).caller (replicate 33 97)) 1 pair).answer ≡ Refused 7
  pub party-first : (pinc (sent_by 3 1 2 97) 1 pair).answer ≡ Refused 15
  pub promise-first : (pinc (sent_by 1 1 2 97) (2 ^ 53 + 1) pair).answer ≡ Refused 16
  -- 5 "where a slot in use is neither party's", "by clear too": slot 0 has its bit in both words, 3 and 4
  pub stray : (pinc (sent_by 1 1 1 97) 1 (set (set pair 3 1) 4 1)).answer ≡ Refused 5
  pub stray-clear : (pclear 1 (set (set pair 3 1) 4 1)).answer ≡ refuse 5
  -- "Clear removes the caller's keys only"
  pub clear-frees : holder_of (pclear 1 of_both).words 0 ≡ 0
  pub clear-leaves : buckets_of (pclear 1 of_both).words (sent_by 2 1 1 97) ≡ bucket 5 0 0 ∷ []

-- further cases that other promises are told by, computed beside these

-- of one limiter, from an empty room on
pub record Fills (kind : RoomKind) : Type 0 where
  -- 1 is the first number: a window of 0
  pub faulty : first (inc_table kind (with_window defaults (record { 0 = 0 })) room 0 key (per_second one) 1 0) ≡ 1
  -- it is filled at once
  pub fills : (inc_at kind room 0 (most kind)).answer ≡ Allowed
  pub filled : in_slot (full kind) ≡ bucket (most kind) 0 0 ∷ []
  -- or 1 is counted, and 9 more join
  pub single-allowed : (inc_at kind room 0 1).answer ≡ Allowed
  pub single-buckets : buckets_of (single kind) key ≡ bucket 1 0 0 ∷ []
  pub single-slot : in_slot (single kind) ≡ bucket 1 0 0 ∷ []
  pub more-allowed : (inc_at kind (single kind) 0 9).answer ≡ Allowed
  pub more-slot : in_slot (inc_at kind (single kind) 0 9).words ≡ bucket 10 0 0 ∷ []

pub record Further : Type 0 where
  -- an empty room has no buckets
  pub empty-slot : in_slot room ≡ []
  pub empty-buckets : buckets_of room key ≡ []
  -- either limiter; the slot that its rules speak of is the only one
  pub absolute : Fills kind.Absolute
  pub absolute-unknown : (held_in room key).known ≡ false
  pub absolute-first : vacant room ≡ 0
  pub absolute-known : (held_in (single kind.Absolute) key).known ≡ true
  pub absolute-below : AbsoluteRules.allowed ten_seconds 0 (held_in (single kind.Absolute) key) ≡ true
  pub absolute-same : addressed (single kind.Absolute) key ≡ 0
  pub suppressed : Fills kind.Suppressed
  pub suppressed-first : place_of room (looked_in (hard_by 2) room 0 key) ≡ 0
  pub suppressed-same : place_of (single kind.Suppressed) (looked_in (hard_by 2) (single kind.Suppressed) 0 key) ≡ 0
  -- the suppressed limiter's limits, and that 1 more than 20 is not admitted
  pub hard-20 : hard_of (hard_by 2) (per_second one) ≡ 20
  pub soft-10 : soft_of (hard_by 2) (per_second one) ≡ 10
  pub twenty-full : (sinc 50 1 0 twenty).answer ≡ Suppressed one false
  -- the factor after the link test, by the two calls that give it
  pub link-factor : (SuppressedCalls.get_factor (hard_by 4) link_tested 1 key).answer ≡ Ok nil
  pub link-snapshot : (SuppressedCalls.get (hard_by 4) link_tested 1 key).answer ≡ Ok no_snapshot
  -- the totals that `get` gives; and a total, word 12 of the room, that is not the sum, which is unsound
  pub twenty-known : (held_in twenty key).known ≡ true
  pub twenty-given : (sget 0 twenty).answer ≡ Ok (record { total = 20; total_declined = 0; suppression_factor = one })
  pub made_up : (n : ℕ) → n ≢ 20 → (sget 0 (set twenty 12 n)).answer ≡ refuse 5
  pub absolute-made-up : (n : ℕ) → n ≢ 10 → (aget 0 (set ten 12 n)).answer ≡ refuse 5

pub record Computed : Type 0 where
  pub table : Boundary
  pub nano-table : NanoBoundary
  pub party-table : PartyBoundary
  pub further : Further
