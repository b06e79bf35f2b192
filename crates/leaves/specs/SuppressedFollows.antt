-- The suppressed limiter's own calls, whole: for every input the call is refused and every word is as it was, or answer and room are what the rules make
-- of what the key holds. What an increment admits does not pass the hard limit, and what stays within the soft one is allowed. x is the key's slot,
-- whose words are told.
-- Assumes nothing.
use Rattle.std.specs.Prelude.{◌≡◌, true, false, ℕ, Result, Ok, Float}
use mathlib.Core.List.{List, []}
use Rattle.answers.specs.HistoryMode.{no_snapshot}
use Rattle.common.specs.Ranges.{nil}
use Rattle.common.specs.Refusals.{first}
use Rattle.settings.specs.Settings.{Proper}
use Rattle.settings.specs.Clock.{join_ticks}
use Rattle.answers.specs.declared.RateLimitDecision.{RateLimitDecision}
use Rattle.settings.specs.declared.Settings.{Settings}
use Rattle.common.specs.declared.units.RateLimit.{RateLimit}
use Rattle.rules.specs.Buckets.{joined}
use Rattle.ring.specs.declared.Bucket.{Bucket}
use Rattle.ring.specs.Ring.{counts, declineds}
use Rattle.rules.specs.declared.Asked.{Asked}
use Rattle.rules.specs.declared.Outcome.{Outcome}
use Rattle.rules.specs.declared.RoomKind.TheVariants as kind
use Rattle.rules.specs.Both.{live_of, overdue_in, looked_of}
use Rattle.rules.specs.Suppressed.{usable, asking, declined_by, admits, inc_turns, factor_turns}
use Rattle.room.specs.Room.{ring_of, with_reading}
use Rattle.parties.specs.Parties.{Sent, key_for, none_left}
use Rattle.opened.specs.declared.Slot.{Slot}
use Rattle.judge.specs.Held.{held_in}
use Rattle.judge.specs.Judge.{refusals, slot_in, looked_in}
use Rattle.judge.specs.Verdict.{Verdict}
use Rattle.plan.specs.Plan.{place_of}
use Rattle.suppressed_edits.specs.Edits.{factor_after, time_after, use_after}
use Rattle.leaves.specs.Calls.{Stands}
use Rattle.leaves.specs.Unit.{SnapshotOk, FactorOk, DecisionOk}
use Rattle.common.specs.declared.refusal.Refusal.{Refusal}
use Rattle.answers.specs.declared.SuppressedRateLimitSnapshot.{SuppressedRateLimitSnapshot}

-- the number of a refusal, 0 where there is none
abbrev pub get_number : Settings → List ℕ → ℕ → Sent → ℕ
get_number s w t key = first (refusals kind.Suppressed s w t key [])

abbrev pub factor_number : Settings → List ℕ → ℕ → Sent → ℕ
factor_number s w t key = first (refusals kind.Suppressed s w t key (factor_turns (none_left w key.caller) (held_in w key)))

abbrev pub inc_number : Settings → List ℕ → ℕ → Sent → RateLimit → ℕ → ℕ → ℕ
inc_number s w t key rate c draw = first (refusals kind.Suppressed s w t key (inc_turns s (ring_of w) (none_left w key.caller) t rate c draw (held_in w key)))

-- the slot x of a known key, which is left with buckets ys, once factor a was asked for
abbrev pub Evicted : Settings → List ℕ → List ℕ → ℕ → Sent → Slot → Asked → List Bucket → Type 0
Evicted s w v t key x a ys =
    Stands kind.Suppressed s w v x.at t (key_for key) x.limit (factor_after a.caching x.factor) (time_after a.caching x.factor_time)
    (use_after a.caching x) ys

-- `get`: a known key's live totals and factor; "on an unknown key gives zeros and takes no slot"
pub record Gets (s : Settings) (w : List ℕ) (t : ℕ) (key : Sent) (v : Verdict (Result SuppressedRateLimitSnapshot Refusal)) : Type 0 where
  pub known-answer : (held_in w key).known ≡ true → v.answer ≡ Ok (record {
    total = counts (live_of s t (held_in w key));
    total_declined = declineds (live_of s t (held_in w key));
    suppression_factor = (asking s t true (held_in w key)).factor;
  })
  pub known : (held_in w key).known ≡ true → Evicted s w v.words t key (slot_in s w t key) (asking s t true (held_in w key)) (live_of s t (held_in w key))
  pub unknown-answer : (held_in w key).known ≡ false → v.answer ≡ Ok no_snapshot
  pub unit : SnapshotOk v.answer
  pub unknown : (held_in w key).known ≡ false → v.words ≡ with_reading w t

-- `get_suppression_factor`: "gives a lone cached factor at age below C"; without one it "does take" a slot "and caches 0"
pub record GivesFactor (s : Settings) (w : List ℕ) (t : ℕ) (key : Sent) (v : Verdict (Result Float Refusal)) : Type 0 where
  pub answer : v.answer ≡ Ok (asking s t (overdue_in s t (held_in w key)) (held_in w key)).factor
  pub unit : FactorOk v.answer
  pub known : (held_in w key).known ≡ true → Evicted s w v.words t key (looked_in s w t key) (asking s t (overdue_in s t (held_in w key)) (held_in w key))
      (looked_of s t (held_in w key))
  pub kept : (held_in w key).known ≡ false → usable s t (overdue_in s t (held_in w key)) (held_in w key) ≡ true → v.words ≡ with_reading w t
  pub anew : (held_in w key).known ≡ false → usable s t (overdue_in s t (held_in w key)) (held_in w key) ≡ false →
      Stands kind.Suppressed s w v.words (place_of w (looked_in s w t key)) t (key_for key) 0 0 t 2 []
  pub anew-zero : (held_in w key).known ≡ false → usable s t (overdue_in s t (held_in w key)) (held_in w key) ≡ false →
      (asking s t (overdue_in s t (held_in w key)) (held_in w key)).factor ≡ nil

-- `inc`: "Count, and declined if not admitted, go to totals and bucket", of a known key, in the slot of a lone cached factor, or in the lowest free one
pub record Counts (s : Settings) (w : List ℕ) (t : ℕ) (key : Sent) (limit c : ℕ) (x : Slot) (o : Outcome) (v : Verdict RateLimitDecision) : Type 0 where
  pub settings : Proper s
  pub answer : v.answer ≡ o.decision
  pub unit : DecisionOk o.decision
  pub stands :
      Stands kind.Suppressed s w v.words (place_of w x) t (key_for key) limit (factor_after o.caching x.factor)
      (time_after o.caching x.factor_time) (use_after o.caching x)
      (joined (join_ticks s) t c (declined_by (admits v.answer) c) (looked_of s t (held_in w key)))
