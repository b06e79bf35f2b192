-- Short histories of one key on a room of one slot and a ring of two buckets, and what each admits, computed by the calls themselves. Party 1 is promised the
-- slot. Window 10 s, bucket 100 ms, factor 1, readings in milliseconds, and 1 per second, so that H = S = 10, unless something else is said.
-- Newest first.
-- Assumes nothing.
use Rattle.std.specs.Prelude.{◌≡◌, true, false, cond, List, [], ◌∷◌, ℕ, ◌-◌, eqb, pos}
use Rattle.std.specs.Float.Ieee as Ieee
use Rattle.layout.specs.Layout as Layout
use Rattle.answers.specs.Rows as Answers
use Rattle.answers.specs.declared.HistoryUpdateMode.TheVariants.{Replace}
use Rattle.answers.specs.declared.RateLimitDecision.{RateLimitDecision}
use Rattle.answers.specs.declared.RateLimitDecision.TheVariants as decided
use Rattle.common.specs.Ranges as Ranges
use Rattle.common.specs.declared.comparator.RateLimitComparator.TheVariants.{Always}
use Rattle.settings.specs.Settings as Settings
use Rattle.settings.specs.declared.ClockMode.TheVariants.{Nanoseconds}
use Rattle.settings.specs.declared.Settings as settings
use Rattle.common.specs.declared.units.RateLimit.{RateLimit}
use Rattle.room.specs.Room as Room
use Rattle.parties.specs.Parties as Parties
use Rattle.parties.specs.Parties.{Sent, sent}
use Rattle.parties.specs.declared.Caller.{Caller}
use Rattle.rules.specs.declared.RoomKind.TheVariants as kind
use Rattle.suppressed_verdicts.specs.Calls as Calls
use Rattle.calls.specs.Set as Set
use Rattle.admissions.specs.Log.{in_span, aged}
use Rattle.steps.specs.Ops.{Op, draws, snapshot, get_factor, set_rate, set, delete, cleanup, cleanup_both, clear, verdict_of, Call, words}
use Rattle.apart.specs.Apart.{Limiter, told_by}
use Rattle.demand3.specs.History.{admitted, hard_of, soft_of}

abbrev pub one : RateLimit
one = record { 0 = Ranges.one }

abbrev pub two : RateLimit
two = record { 0 = Ieee.of_int Ieee.binary64 (pos 2) }

-- with hard limit factor 2: H = 20, S = 10
abbrev pub doubled : settings.Settings
doubled = Settings.with_factor Settings.ten_seconds two.0

-- with readings in nanoseconds
abbrev pub nano : settings.Settings
nano = Settings.with_clock Settings.ten_seconds Nanoseconds

abbrev pub room : List ℕ
room = Room.empty 1 2

abbrev pub caller : Caller
caller = record { party = 1; first = 1; second = 0 }

-- the key, of no bytes
abbrev pub key : Sent
key = sent caller []

abbrev pub call : ℕ → Op kind.Suppressed → Call kind.Suppressed
call t op = record { reading = t; op = op }

-- n counted at reading t
abbrev pub counted : ℕ → ℕ → Call kind.Suppressed
counted t n = call t (draws key one n 0)

-- ---- the histories

-- 10 counted at 0
abbrev pub ten_once : List (Call kind.Suppressed)
ten_once = counted 0 10 ∷ []

-- 0 counted at 0 begins a bucket, 10 at 100 join it, and at 10,001 it is expired: 10 more
abbrev pub joined_late : List (Call kind.Suppressed)
joined_late = counted 100 10 ∷ counted 0 0 ∷ []

abbrev pub expired : List (Call kind.Suppressed)
expired = counted 10001 10 ∷ joined_late

-- a cleanup at 10,000 with a stale time of window less 1 takes that bucket, one millisecond before it expires
abbrev pub cleaned : List (Call kind.Suppressed)
cleaned = counted 10000 10 ∷ call 10000 (cleanup caller 9999) ∷ joined_late

-- in nanoseconds: 0 counted at 0 begins a bucket, 10 at 100 ms and 999,999 ns join it, and a tick after its window `get` takes it out: 10 more
abbrev pub nano_expired : List (Call kind.Suppressed)
nano_expired = counted 10000000001 10 ∷ call 10000000001 (snapshot key) ∷ counted 100999999 10 ∷ counted 0 0 ∷ []

-- 10 counted, a call, and n more
abbrev pub around : Op kind.Suppressed → ℕ → List (Call kind.Suppressed)
around op n = counted 0 n ∷ call 0 op ∷ ten_once

-- a set that lowers the total from 10 to 9
abbrev pub lowers : Op kind.Suppressed
lowers = set key one Always 9 Replace

-- 20 counted at 2 per second, which the key begins with
abbrev pub begun : List (Call kind.Suppressed)
begun = call 0 (draws key two 20 0) ∷ []

-- ---- two parties in a room of two slots, one promised to each; each counts the same bytes

abbrev pub shared_room : List ℕ
shared_room = Room.empty 2 2

abbrev pub ours : Sent
ours = sent (record { party = 1; first = 1; second = 1 }) []

abbrev pub theirs : Sent
theirs = sent (record { party = 2; first = 1; second = 1 }) []

-- 10 counted by each, a clear of party 2, and 10 more by each
abbrev pub cleared_by_other : List (Call kind.Suppressed)
cleared_by_other =
    call 0 (draws ours one 10 0) ∷ call 0 (draws theirs one 10 0) ∷ call 0 (clear theirs.caller) ∷ call 0 (draws theirs one 10 0) ∷
    call 0 (draws ours one 10 0) ∷ []

-- ---- what one party is told, whatever the other does: party 1's calls are the same in both of a pair

abbrev pub single : Sent → Call kind.Suppressed
single k = call 0 (draws k one 1 0)

-- another key of party 1's, and two of party 2's that come with a promise of every slot
abbrev pub ours_again : Sent
ours_again = sent ours.caller (1 ∷ [])

abbrev pub greedy : List ℕ → Sent
greedy bytes = sent (record { party = 2; first = 0; second = 2 }) bytes

-- a key of party 1's is counted, in an empty room and after party 2 was given both slots
abbrev pub quiet : List (Call kind.Suppressed)
quiet = single ours ∷ []

abbrev pub overrun : List (Call kind.Suppressed)
overrun = single ours ∷ single (greedy (1 ∷ [])) ∷ single (greedy []) ∷ []

-- two keys of party 1's are counted, without a key of party 2's and with one
abbrev pub twice : List (Call kind.Suppressed)
twice = single ours_again ∷ single ours ∷ []

abbrev pub twice_among : List (Call kind.Suppressed)
twice_among = single ours_again ∷ single theirs ∷ single ours ∷ []

-- a limiter that gives 11 by free slots alone: whoever calls is promised every slot that the other party does not hold
abbrev sharing : List ℕ → Sent → Sent
sharing w k =
    let a = Parties.slots_held w Layout.first_mark in
    let b = Parties.slots_held w Layout.second_mark in
    cond (eqb k.caller.party 1) (sent (record { party = 1; first = Room.slots_of w - b; second = b }) k.bytes)
    (sent (record { party = k.caller.party; first = a; second = Room.slots_of w - a }) k.bytes)

abbrev pub by_free : Limiter kind.Suppressed
by_free w t (draws k rate n draw) = Calls.inc Settings.ten_seconds w t (sharing w k) rate n draw
by_free w t (snapshot k) = verdict_of kind.Suppressed Settings.ten_seconds w t (snapshot k)
by_free w t (get_factor k) = Calls.get_factor Settings.ten_seconds w t (sharing w k)
by_free w t (set_rate k rate) = verdict_of kind.Suppressed Settings.ten_seconds w t (set_rate k rate)
by_free w t (set k rate comparator n mode) = Set.set kind.Suppressed Settings.ten_seconds w t (sharing w k) rate comparator n mode
by_free w t (delete k) = verdict_of kind.Suppressed Settings.ten_seconds w t (delete k)
by_free w t (cleanup who stale) = verdict_of kind.Suppressed Settings.ten_seconds w t (cleanup who stale)
by_free w t (cleanup_both who other whose stale) = verdict_of kind.Suppressed Settings.ten_seconds w t (cleanup_both who other whose stale)
by_free w t (clear who) = verdict_of kind.Suppressed Settings.ten_seconds w t (clear who)

-- the numbers that party 1 is told, newest first
abbrev pub numbers : List (List ℕ) → List ℕ
numbers [] = []
numbers (row ∷ more) = Answers.number_of row ∷ numbers more

abbrev pub told_first : Limiter kind.Suppressed → List (Call kind.Suppressed) → List ℕ
told_first l calls = numbers (told_by l 1 shared_room calls)

-- ---- what they admit, and what follows them

-- what the key was admitted from one reading to another, both included
abbrev pub spent : settings.Settings → ℕ → ℕ → List (Call kind.Suppressed) → ℕ
spent s from to calls = in_span from to (admitted s key room calls)

-- of the room of two slots, from 0 to 9,900
abbrev pub shared_spent : Sent → List (Call kind.Suppressed) → ℕ
shared_spent k calls = in_span 0 9900 (admitted Settings.ten_seconds k shared_room calls)

-- what n counted at reading t after the calls are answered
abbrev pub answer_to : settings.Settings → List (Call kind.Suppressed) → ℕ → ℕ → RateLimitDecision
answer_to s calls t n = (Calls.inc s (words kind.Suppressed s room calls) t key one n 0).answer

pub record Computed : Type 0 where
  pub hard : hard_of Settings.ten_seconds one ≡ 10
  pub reaches : spent Settings.ten_seconds 0 9900 ten_once ≡ 10
  pub expires : spent Settings.ten_seconds 100 10001 expired ≡ 20
  pub nano-hard : hard_of nano one ≡ 10
  pub nano-expires : spent nano 100999999 10000000001 nano_expired ≡ 20
  pub cleans : spent Settings.ten_seconds 100 10000 cleaned ≡ 20
  pub sets : spent Settings.ten_seconds 0 9900 (around lowers 1) ≡ 11
  pub deletes : spent Settings.ten_seconds 0 9900 (around (delete key) 10) ≡ 20
  pub clears : spent Settings.ten_seconds 0 9900 (around (clear caller) 10) ≡ 20
  pub rates : spent Settings.ten_seconds 0 9900 (around (set_rate key two) 10) ≡ 20
  pub begins : spent Settings.ten_seconds 0 9900 begun ≡ 20
  -- the clear of party 2 lets party 2's 10 more in, and not party 1's
  pub other-clears : shared_spent ours cleared_by_other ≡ 10
  pub own-clears : shared_spent theirs cleared_by_other ≡ 20
  -- party 1 is told another number where the promises given change, and where 11 is given by free slots alone; else the same
  pub quiet_told : told_first (verdict_of kind.Suppressed Settings.ten_seconds) quiet ≡ 0 ∷ []
  pub overrun-told : told_first (verdict_of kind.Suppressed Settings.ten_seconds) overrun ≡ 16 ∷ []
  pub twice-told : told_first (verdict_of kind.Suppressed Settings.ten_seconds) twice ≡ 11 ∷ 0 ∷ []
  pub among-told : told_first (verdict_of kind.Suppressed Settings.ten_seconds) twice_among ≡ 11 ∷ 0 ∷ []
  pub twice-by-free : told_first by_free twice ≡ 0 ∷ 0 ∷ []
  pub among-by-free : told_first by_free twice_among ≡ 11 ∷ 0 ∷ []
  -- 1 more at 10,000, when the 10 are as old as the window, is over H
  pub soft : soft_of Settings.ten_seconds one ≡ 10
  pub past : aged 9999 10000 (admitted Settings.ten_seconds key room ten_once) ≡ 0
  pub over : answer_to Settings.ten_seconds ten_once 10000 1 ≡ decided.Suppressed Ranges.one false
  -- in nanoseconds 1 more at 10,000 ms and 999,999 ns is, when the 10 are as old as a first look takes for the window
  pub nano-soft : soft_of nano one ≡ 10
  pub nano-past : aged 10000999998 10000999999 (admitted nano key room ten_once) ≡ 0
  pub nano-over : answer_to nano ten_once 10000999999 1 ≡ decided.Suppressed Ranges.one false
  -- 11 on an empty room lie between S and H: admitted, by the factor
  pub soft-doubled : soft_of doubled one ≡ 10
  pub between : answer_to doubled [] 0 11 ≡ decided.Suppressed Ranges.nil true
