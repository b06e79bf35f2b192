-- The rules tried on small keys, computed. Settings: a window of 10 s, buckets of 100 ms, a cache period of 100 ms; readings in milliseconds, and then
-- in nanoseconds.
-- Assumes nothing.
use Rattle.std.specs.Prelude.{◌≡◌, refl, true, false, List, [], ◌∷◌, Ok, Some}
use Rattle.std.specs.Float.Ieee as Ieee
use Rattle.answers.specs.declared.HistoryPreservation.TheVariants.{PreserveNewest, PreserveOldest}
use Rattle.answers.specs.declared.HistoryUpdateMode.TheVariants as mode
use Rattle.common.specs.declared.comparator.RateLimitComparator.TheVariants as comparator
use Rattle.answers.specs.declared.RateLimitDecision.TheVariants.{Rejected}
use Rattle.settings.specs.Settings.{ten_seconds, with_clock}
use Rattle.settings.specs.Clock.{join_ticks}
use Rattle.settings.specs.declared.ClockMode.TheVariants.{Nanoseconds}
use Rattle.settings.specs.declared.Settings.{Settings}
use Rattle.common.specs.Ranges.{nil, one}
use Rattle.share.specs.Share.{mul_div}
use Rattle.suppression.specs.Factor.{fresh_factor}
use Rattle.ring.specs.declared.Bucket.{Bucket}
use Rattle.ring.specs.Ring.{bucket, sum_of}
use Rattle.rules.specs.declared.Reach.TheVariants.{Hard}
use Rattle.rules.specs.declared.RoomKind.TheVariants.{Absolute}
use Rattle.rules.specs.Buckets.{older, recent, ahead, last_second, joins, joined, raised, partial, cut_oldest, cut_newest, preserved}
use Rattle.rules.specs.Held.{Held, nothing}
use Rattle.rules.specs.Both.{live_of, overdue, overdue_in, looked_of, ring_full}
use Rattle.rules.specs.Absolute.{rejection}
use Rattle.rules.proofs.Laws.{condition}
use Rattle.rules.specs.Sets as sets
use Rattle.rules.specs.Stale.{series_stays, factor_stays}
use Rattle.rules.specs.Suppressed.{stays, usable, fresh_on, reach_of}

-- 3 counted at 0, 2 of them declined, and 4 at 200, with limit word 7 and a factor cached at 200
abbrev two : List Bucket
two = bucket 3 2 0 ∷ bucket 4 0 200 ∷ []

abbrev held : Held
held = record { known = true; limit = 7; buckets = two; cached = true; factor = 0; since = 200 }

-- the same in nanoseconds: 3 at 0 and 4 at 200 ms, with a factor cached at 200 ms
abbrev nano : Settings
nano = with_clock ten_seconds Nanoseconds

abbrev nano_two : List Bucket
nano_two = bucket 3 2 0 ∷ bucket 4 0 200000000 ∷ []

abbrev nano_held : Held
nano_held = record { known = true; limit = 7; buckets = nano_two; cached = true; factor = 0; since = 200000000 }

pub record Cases : Type 0 where
  -- an age of one window is live, one more is expired
  pub live-10000 : live_of ten_seconds 10000 held ≡ two
  pub gone-10001 : live_of ten_seconds 10001 held ≡ bucket 4 0 200 ∷ []
  -- an age of b joins, one more adds
  pub joins-300 : joined 100 300 1 0 two ≡ bucket 3 2 0 ∷ bucket 5 0 200 ∷ []
  pub adds-301 : joined 100 301 1 0 two ≡ bucket 3 2 0 ∷ bucket 4 0 200 ∷ bucket 1 0 301 ∷ []
  -- a ring of two is full for what adds
  pub full-301 : ring_full 2 100 301 two ≡ true
  pub free-300 : ring_full 2 100 300 two ≡ false
  -- a shortage comes from the other end: the last, partial bucket keeps floor(declined * retained / count)
  pub newest-kept : preserved PreserveNewest 300 5 two ≡ bucket 1 0 0 ∷ bucket 4 0 200 ∷ []
  pub oldest-kept : preserved PreserveOldest 300 5 two ≡ bucket 3 2 0 ∷ bucket 2 0 200 ∷ []
  -- the cached factor is used at an age below the period, and forgotten where a bucket is expired
  pub used-99 : usable ten_seconds 299 true held ≡ true
  pub fresh-100 : usable ten_seconds 300 true held ≡ false
  pub forgotten : stays ten_seconds 10001 true held ≡ false
  -- the fresh factor of a slow key, S = 0 and H = 2: 0 where an empty call is all that counted; 1 where something did, though not in the last second
  pub empty-call : (fresh_on 0 2 10 1 1 (bucket 0 0 0 ∷ [])).factor ≡ nil
  pub quiet-second : (fresh_on 0 2 10 1 1001 (bucket 1 0 0 ∷ [])).factor ≡ one
  -- a forecast equal to H is allowed, even when it is also at most S
  pub at-hard : reach_of 10 10 10 ≡ Hard
  -- delete gives what is live less what is declined of it
  pub deletes : sets.deleted ten_seconds 300 held ≡ Some 5
  -- a set that finds what it asks for changes nothing; with an expired bucket it does
  pub still : sets.idle ten_seconds 300 7 comparator.Always 7 (mode.Preserve PreserveNewest) held ≡ true
  pub stirs : sets.idle ten_seconds 10001 7 comparator.Always 4 (mode.Preserve PreserveNewest) held ≡ false
  -- a set that changes nothing needs no slot: an unknown key, set to 0, in a room where none is free
  pub needs-none : condition 11 (sets.set_turns Absolute ten_seconds true 0 (record { 0 = one }) comparator.Always 0 mode.Replace nothing) ≡ false
  -- cleanup at an age equal to the stale time: the series stays, the factor goes
  pub series-500 : series_stays two 700 1 500 ≡ true
  pub factor-500 : factor_stays 200 700 1 500 ≡ false
  -- in nanoseconds a tick past the window is expired, and a first look sees it when a millisecond is past
  pub nano-live : live_of nano 10000000000 nano_held ≡ nano_two
  pub nano-gone : live_of nano 10000000001 nano_held ≡ bucket 4 0 200000000 ∷ []
  pub nano-looked : looked_of nano 10000999999 nano_held ≡ nano_two
  pub nano-overdue : looked_of nano 10001000000 nano_held ≡ bucket 4 0 200000000 ∷ []
  -- so the cached factor is forgotten by a call that evicts at once, and not yet by one that looks first
  pub nano-forgotten : stays nano 10000000001 true nano_held ≡ false
  pub nano-stays : stays nano 10000000001 (overdue_in nano 10000000001 nano_held) nano_held ≡ true
  -- a tick less than 101 ms joins; the cached factor is used up to a tick less than 100 ms
  pub nano-joins : joins (join_ticks nano) 300999999 nano_two ≡ true
  pub nano-adds : joins (join_ticks nano) 301000000 nano_two ≡ false
  pub nano-used : usable nano 299999999 true nano_held ≡ true
  pub nano-fresh : usable nano 300000000 true nano_held ≡ false
  -- 1,000 ms and 999,999 ns are in the last second, of what is left alone
  pub nano-second : last_second 1000000 1200999999 nano_two ≡ 4
  pub nano-older : last_second 1000000 1201000000 nano_two ≡ 0
  -- a rejection's wait is in milliseconds
  pub nano-waits : rejection 1000000 (record { 0 = 10 }) 50999999 nano_two ≡ Rejected (record { 0 = 10 }) 9950 3
  -- cleanup: a tick less than 501 ms is not over 500 ms, a tick less than 500 ms is below it
  pub nano-series : series_stays nano_two 700999999 1000000 500 ≡ true
  pub nano-stale : series_stays nano_two 701000000 1000000 500 ≡ false
  pub nano-factor : factor_stays 200000000 699999999 1000000 500 ≡ true

pub cases : Cases
unfolding fresh_factor Ieee.sub Ieee.div Ieee.lt Ieee.eq Ieee.of_int Ieee.round older recent ahead joins joined raised partial cut_oldest cut_newest preserved
    overdue ring_full stays reach_of
    sets.deleted sets.already sets.idle series_stays factor_stays sum_of mul_div
cases = record {
  live-10000 = refl;
  gone-10001 = refl;
  joins-300 = refl;
  adds-301 = refl;
  full-301 = refl;
  free-300 = refl;
  newest-kept = refl;
  oldest-kept = refl;
  used-99 = refl;
  fresh-100 = refl;
  forgotten = refl;
  empty-call = refl;
  quiet-second = refl;
  at-hard = refl;
  deletes = refl;
  still = refl;
  stirs = refl;
  needs-none = refl;
  series-500 = refl;
  factor-500 = refl;
  nano-live = refl;
  nano-gone = refl;
  nano-looked = refl;
  nano-overdue = refl;
  nano-forgotten = refl;
  nano-stays = refl;
  nano-joins = refl;
  nano-adds = refl;
  nano-used = refl;
  nano-fresh = refl;
  nano-second = refl;
  nano-older = refl;
  nano-waits = refl;
  nano-series = refl;
  nano-stale = refl;
  nano-factor = refl;
}
