-- Short seasons, of the gateway and of wrong ones, and what each answers, computed by the calls themselves: window 10 s, bucket 100 ms, factor 1
-- and 1 per second, so that H = 10, on a room of one slot, promised to party 1, and a ring of one. Newest first.
-- Assumes nothing.
use Rattle.std.specs.Prelude.{refl}
use Rattle.std.proofs.Math.Decide as Decide
use Rattle.std.specs.Float.Ieee as Ieee
use Rattle.base.specs.Seek as Seek
use Rattle.base.specs.Splice as Splice
use Rattle.base.specs.Tab as Tab
use Rattle.suppression.specs.Factor as Factor
use Rattle.common.specs.Limits as Limits
use Rattle.common.specs.Ranges as Ranges
use Rattle.common.specs.Refusals as Refusals
use Rattle.settings.specs.Settings as Settings
use Rattle.rules.specs.Buckets as Rules
use Rattle.sweep.specs.Sweep as Sweep
use Rattle.history.specs.Words as HistoryWords
use Rattle.ring.specs.Order as Order
use Rattle.ring.specs.Ring as Ring
use Rattle.ring.specs.Sound as RingSound
use Rattle.room.specs.Room as Room
use Rattle.keys.specs.Keys as Keys
use Rattle.parties.specs.Parties as Parties
use Rattle.parties.specs.Parties.{sent}
use Rattle.base.specs.Every as Every
use Rattle.base.specs.Bits as Bits
use Rattle.judge.specs.Judge as Judge
use Rattle.opened.specs.Slot as Slot
use Rattle.opened.specs.Sound as Sound
use Rattle.judge.specs.Verdict as Verdicts
use Rattle.change.specs.Words as Words
use Rattle.edit.specs.Bodies as Bodies
use Rattle.suppressed_verdicts.specs.Calls as Calls
use Rattle.suppressed_edits.specs.Edits as Edits
use Rattle.factor_opened.specs.Opened as Slots
use Rattle.plan.specs.Plan as Plan
use Rattle.rules.specs.Both as Both
use Rattle.rules.specs.Suppressed as Suppressed
use Rattle.judge.specs.Held as Held
use Rattle.table.specs.Table as Table
use Rattle.gateway.specs.Gateway as Gate
use Rattle.table.specs.Table.{known_of, empty_table}
use Rattle.season.specs.Histories.{Computed}

-- ---- what is answered, and how often a pair is in the log

pub computed : Computed
unfolding Decide.dec_le Seek.seek Splice.splice Tab.tab Factor.factor_word_ok Factor.admitted Limits.hard_word Limits.cut_word
    Limits.soft_word Limits.limit_ok Ranges.rate_ok Ranges.factor_ok Refusals.first Settings.faults Order.fine Ring.sum_of Ring.wrap Ring.bucket_at
    Ring.buckets Ring.shaped Ring.pushed Ring.rewritten Ring.without RingSound.sound_buckets Rules.older Rules.recent Rules.ahead Rules.joins
    Sweep.pass_of HistoryWords.incremented Room.fits Room.empty Keys.key_of Keys.same_key Keys.unused_zero Keys.key_fits Bits.bit_at Bits.with_bit
    Room.holder_of Room.held Room.key_at Room.free Room.has
    Room.body_from Room.entered Room.with_use Room.with_reading Every.every Parties.ours Parties.many Parties.slots_held Parties.overdrawn Parties.turns
    Parties.none_left Judge.misfits Slot.opened Slot.slot_of Slot.first_look Sound.right_use Sound.sound_series
    Sound.sound_cached
    Sound.sound_slot Sound.addressed Sound.sound_at Verdicts.unless_refused Bodies.begun Bodies.started Bodies.acted Bodies.fixed Bodies.edited
    Words.with_edit Words.updated Words.taken Words.carried Words.applied Calls.inc Edits.recached Edits.inc_edit Edits.inc_change Ieee.le Ieee.lt
    Ieee.eq Ieee.mul Ieee.div Ieee.sub Ieee.add Ieee.of_int Ieee.of_bits Ieee.of_fields Ieee.to_bits Ieee.to_unsigned Ieee.fits Held.held_in Plan.place_of
    Slots.stays_at Both.overdue Both.passes Both.ring_full Suppressed.stays Suppressed.asked Suppressed.reach_of Suppressed.drawn Suppressed.outcome Table.is_table
    Table.empty_table Table.numbered Table.names Table.entry_for Table.is_known Table.once Table.sound_entry Table.sound_for Table.last_number Table.remembered
    Gate.is_held Gate.gate_turns Gate.unless_refused Gate.shot Gate.new_season
computed = record {
  allows = λ n. refl;
  allows-any = λ k n. refl;
  declines = λ n. refl;
  lost = refl;
  lost-times = refl;
  again = refl;
  again-by-other = refl;
  next-by-other = refl;
  again-highest = refl;
  older = refl;
  older-times = refl;
  sent-again = refl;
  next-season = refl;
  none-refused = refl;
  most-taken = refl;
  over-refused = refl;
  eager-holds = refl;
  eager-log = refl;
  eager-declines = refl;
  eager-knows = refl;
  at-most-holds = refl;
  at-most-times = refl;
  forgetful-times = refl;
  lax-times = refl;
  alone-times = refl;
}
