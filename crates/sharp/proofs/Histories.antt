-- Short histories of one key on a room of one slot and a ring of two buckets, and what each admits, computed by the calls themselves. Party 1 is promised the
-- slot. Window 10 s, bucket 100 ms, factor 1, readings in milliseconds, and 1 per second, so that H = S = 10, unless something else is said.
-- Newest first.
-- Assumes nothing.
use Rattle.std.specs.Prelude.{refl}
use Rattle.std.proofs.Math.Decide as Decide
use Rattle.std.specs.Float.Ieee as Ieee
use Rattle.base.specs.Seek as Seek
use Rattle.base.specs.Splice as Splice
use Rattle.base.specs.Tab as Tab
use Rattle.answers.specs.Rows as Answers
use Rattle.suppression.specs.Factor as Factor
use Rattle.common.specs.Limits as Limits
use Rattle.common.specs.Ranges as Ranges
use Rattle.common.specs.Refusals as Refusals
use Rattle.settings.specs.Settings as Settings
use Rattle.rules.specs.Buckets as Rules
use Rattle.sweep.specs.Sweep as Sweep
use Rattle.history.specs.Words as HistoryWords
use Rattle.ring.specs.Order as Order
use Rattle.ring.specs.Ring as Ring
use Rattle.ring.specs.Sound as RingSound
use Rattle.room.specs.Room as Room
use Rattle.keys.specs.Keys as Keys
use Rattle.parties.specs.Parties as Parties
use Rattle.parties.specs.Parties.{Sent, sent}
use Rattle.judge.specs.Judge as Judge
use Rattle.opened.specs.Slot as Slot
use Rattle.opened.specs.Sound as Sound
use Rattle.judge.specs.Verdict as Verdicts
use Rattle.change.specs.Words as Words
use Rattle.edit.specs.Bodies as Bodies
use Rattle.suppressed_verdicts.specs.Calls as Calls
use Rattle.suppressed_edits.specs.Edits as Edits
use Rattle.factor_opened.specs.Opened as Slots
use Rattle.plan.specs.Plan as Plan
use Rattle.rules.specs.Both as Both
use Rattle.rules.specs.Stale as Stale
use Rattle.rules.specs.Sets as SetRules
use Rattle.rules.specs.Suppressed as Suppressed
use Rattle.judge.specs.Held as Held
use Rattle.stale.specs.Uses as Uses
use Rattle.cleanup.specs.Cleanup as Cleanup
use Rattle.base.specs.Every as Every
use Rattle.base.specs.Bits as Bits
use Rattle.clearing.specs.Clear as Clear
use Rattle.calls.specs.Delete as Delete
use Rattle.calls.specs.Rate as Rate
use Rattle.calls.specs.Set as Set
use Rattle.shared_opened.specs.Opened as Shared
use Rattle.sets_opened.specs.Sets as SetsOpened
use Rattle.sharp.specs.Histories.{Computed}

-- ---- what they admit, and what follows them

pub computed : Computed
unfolding Decide.dec_le Seek.seek Splice.splice Tab.tab Answers.decision_row Factor.factor_word_ok Factor.admitted Limits.hard_word
    Limits.cut_word Limits.soft_word Limits.limit_ok Ranges.rate_ok Ranges.factor_ok Refusals.first Settings.faults Order.fine Ring.sum_of Ring.wrap
    Ring.bucket_at Ring.buckets Ring.shaped Ring.pushed Ring.rewritten Ring.without RingSound.sound_buckets Rules.older Rules.recent Rules.ahead
    Rules.joins Sweep.pass_of HistoryWords.incremented HistoryWords.replaced_words Room.fits Room.empty Keys.key_of Keys.same_key Keys.unused_zero
    Keys.key_fits Bits.bit_at Bits.with_bit
    Room.holder_of Room.held Room.key_at Room.free Room.has Room.body_from Room.entered Room.with_use Room.released Room.released_own Room.with_reading Room.freed
    Parties.ours
    Parties.many Parties.slots_held Parties.overdrawn Parties.turns Parties.none_left Judge.misfits Slot.opened
    Slot.slot_of Slot.first_look Sound.right_use Sound.sound_series Sound.sound_cached Sound.sound_slot Sound.addressed Sound.sound_at Verdicts.unless_refused
    Bodies.begun
    Bodies.started Bodies.acted Bodies.fixed Bodies.edited Words.with_edit Words.updated Words.taken Words.carried Words.applied Every.every
    Uses.use_after Uses.settled Uses.swept Uses.cleaned Cleanup.slot_passes Cleanup.misfits Cleanup.cleanup Clear.unclear Delete.delete Rate.set_rate_limit Set.set
    Shared.deleting Shared.used_with Shared.limiting SetsOpened.stored SetsOpened.setting Calls.inc Calls.get Edits.get_change Edits.recached Edits.inc_edit
    Edits.inc_change
    Ieee.le Ieee.lt Ieee.eq Ieee.mul Ieee.div Ieee.sub Ieee.add Ieee.of_int Ieee.of_bits Ieee.of_fields Ieee.to_bits Ieee.to_unsigned Ieee.fits Held.held_in
    Plan.place_of Slots.stays_at Both.overdue Both.passes Both.ring_full SetRules.already SetRules.idle SetRules.rate_turns Stale.series_stays Stale.factor_stays
    Suppressed.stays Suppressed.asked Suppressed.reach_of Suppressed.drawn Suppressed.outcome
computed = record {
  hard = refl;
  reaches = refl;
  expires = refl;
  nano-hard = refl;
  nano-expires = refl;
  cleans = refl;
  sets = refl;
  deletes = refl;
  clears = refl;
  rates = refl;
  begins = refl;
  other-clears = refl;
  own-clears = refl;
  quiet_told = refl;
  overrun-told = refl;
  twice-told = refl;
  among-told = refl;
  twice-by-free = refl;
  among-by-free = refl;
  soft = refl;
  past = refl;
  over = refl;
  nano-soft = refl;
  nano-past = refl;
  nano-over = refl;
  soft-doubled = refl;
  between = refl;
}
