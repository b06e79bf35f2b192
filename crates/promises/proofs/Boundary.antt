-- Document 01's boundary values, its lines marked P, in a single table. Every line is computed by the checker from the definitions that the contracts
-- name; a line that speaks of calls is computed by the calls, one after the other, on the words of an empty room (`Cases.antt`).
-- Assumes nothing.
use Rattle.std.specs.Prelude.{refl}
use Rattle.std.specs.Float.Ieee as Ieee
use Rattle.std.proofs.Common.{ne_eqb}
use Rattle.base.specs.Seek as Seek
use Rattle.base.specs.Splice as Splice
use Rattle.base.specs.Tab as Tab
use Rattle.suppression.specs.Factor as Factor
use Rattle.common.specs.Limits as Limits
use Rattle.common.specs.Ranges as Ranges
use Rattle.common.specs.Ranges.{nil, one}
use Rattle.common.specs.Refusals as Refusals
use Rattle.common.specs.Refusals.{first}
use Rattle.settings.specs.Settings as Settings
use Rattle.settings.specs.Settings.{defaults, ten_seconds, with_window}
use Rattle.share.specs.Share as Share
use Rattle.ring.specs.Order as Order
use Rattle.ring.specs.Ring as Ring
use Rattle.ring.specs.Ring.{bucket}
use Rattle.ring.specs.Sound as RingSound
use Rattle.rules.specs.Buckets as Rules
use Rattle.sweep.specs.Sweep as Sweep
use Rattle.history.specs.Words as HistoryWords
use Rattle.preserve.specs.Preserving as Preserving
use Rattle.room.specs.Room as Room
use Rattle.keys.specs.Keys as Keys
use Rattle.room.specs.Room.{holder_of, used_at, vacant}
use Rattle.parties.specs.Parties as Parties
use Rattle.parties.specs.Parties.{sent}
use Rattle.judge.specs.Judge as Judge
use Rattle.judge.specs.Judge.{looked_in}
use Rattle.opened.specs.Slot as Slot
use Rattle.opened.specs.Sound as Sound
use Rattle.opened.specs.Sound.{addressed}
use Rattle.judge.specs.Verdict as Verdicts
use Rattle.change.specs.Words as Words
use Rattle.edit.specs.Bodies as Bodies
use Rattle.clearing.specs.Clear as Clear
use Rattle.calls.specs.Set as Sets
use Rattle.cleanup.specs.Cleanup as Cleanup
use Rattle.stale.specs.Uses as Uses
use Rattle.base.specs.Every as Every
use Rattle.base.specs.Bits as Bits
use Rattle.absolute_verdicts.specs.Calls as Absolute
use Rattle.absolute_opened.specs.Opened as AbsoluteEdits
use Rattle.rules.specs.Both as Both
use Rattle.rules.specs.Absolute as AbsoluteRules
use Rattle.rules.specs.Suppressed as SuppressedRules
use Rattle.rules.specs.Sets as SetRules
use Rattle.rules.specs.Stale as Stale
use Rattle.judge.specs.Held as Held
use Rattle.judge.specs.Held.{held_in}
use Rattle.plan.specs.Plan as Plan
use Rattle.plan.specs.Plan.{place_of}
use Rattle.sets_opened.specs.Sets as SetsOpened
use Rattle.suppressed_verdicts.specs.Calls as SuppressedCalls
use Rattle.suppressed_edits.specs.Edits as Edits
use Rattle.factor_opened.specs.Opened as SuppressedSlots
use Rattle.finding.specs.Finding as Finding
use Rattle.finding.specs.Finding.{buckets_of}
use Rattle.promises.specs.Boundary.{Boundary, NanoBoundary, PartyBoundary, Further, Computed}

pub computed : Computed
unfolding Seek.seek Splice.splice Tab.tab Factor.fresh_factor Factor.factor_word_ok Factor.admitted Limits.absolute_word Limits.hard_word Limits.cut_word
    Limits.soft_word Limits.limit_ok Ranges.rate_ok Ranges.factor_ok Refusals.first Settings.faults Share.mul_div Order.fine Ring.sum_of Ring.wrap Ring.bucket_at
    Ring.buckets Ring.shaped Ring.pushed Ring.rewritten Ring.without RingSound.sound_buckets Rules.older Rules.recent Rules.ahead Rules.joins Rules.partial
    Sweep.pass_of HistoryWords.incremented Preserving.wholes Preserving.part_words Preserving.shrunk_words Preserving.preserved_words Room.fits Room.empty
    Keys.key_of Keys.same_key Keys.unused_zero Keys.key_fits Bits.bit_at Bits.with_bit
    Room.holder_of Room.held Room.key_at Room.free Room.has Room.body_from Room.entered Room.with_use Room.with_reading
    Room.released Room.released_own Room.freed Parties.ours Parties.many Parties.slots_held Parties.overdrawn Parties.turns Parties.none_left Judge.misfits
    Slot.opened Slot.slot_of Slot.first_look Sound.right_use Sound.sound_series Sound.sound_cached Sound.sound_slot Sound.addressed Sound.sound_at
    Verdicts.unless_refused Bodies.begun Bodies.started Bodies.acted Bodies.fixed Bodies.edited Words.with_edit Words.updated Words.taken Words.carried
    Words.applied Every.every Uses.use_after Uses.settled Uses.swept Uses.cleaned Cleanup.slot_passes Cleanup.misfits Cleanup.cleanup Clear.unclear
    Absolute.get Absolute.is_allowed Absolute.inc Edits.recached Edits.get_change Edits.factor_change Edits.inc_edit Edits.inc_change Finding.buckets_of Ieee.le
    Ieee.lt Ieee.eq Ieee.mul Ieee.div Ieee.sub Ieee.add Ieee.of_int Ieee.of_bits Ieee.of_fields Ieee.to_bits Ieee.to_unsigned Ieee.fits SuppressedCalls.get
    SuppressedCalls.get_factor SuppressedCalls.inc Sets.set Held.held_in Plan.place_of Both.overdue Both.passes Both.ring_full AbsoluteRules.below
    AbsoluteRules.tested AbsoluteRules.allowed AbsoluteRules.decided AbsoluteRules.takes_out AbsoluteEdits.get_change AbsoluteEdits.inc_change
    SuppressedRules.stays SuppressedRules.asked SuppressedRules.reach_of SuppressedRules.drawn SuppressedRules.outcome SuppressedSlots.stays_at
    SetRules.already SetRules.idle SetRules.outcome SetsOpened.stored SetsOpened.setting Stale.series_stays Stale.factor_stays
computed = record {
  table = record {
    live-10000 = refl;
    expired-10001 = refl;
    joins-100 = refl;
    adds-101 = refl;
    cached-2450 = refl;
    used-99 = refl;
    afresh-100 = refl;
    second-1000 = refl;
    second-1001 = refl;
    forecast-20 = refl;
    forecast-21 = refl;
    forecast-19 = refl;
    seven-five = refl;
    three-two = refl;
    nine-allowed = refl;
    nine-total = refl;
    rejected-50 = refl;
    rejected-10000 = refl;
    allowed-10001 = refl;
    empty-allowed = refl;
    shot-admitted = refl;
    draw-admits = refl;
    draw-declines = refl;
    most-taken = refl;
    most-passed = refl;
    both-before = refl;
    series-after = refl;
  };
  nano-table = record {
    live-get = refl;
    live-left = refl;
    live-rejected = refl;
    gone-get = refl;
    gone-left = refl;
    gone-snapshot = refl;
    gone-after = refl;
    left-inc = refl;
    left-rejected = refl;
    left-asked = refl;
    left-draws = refl;
    left-factor = refl;
    evicts-inc = refl;
    evicts-asked = refl;
    evicts-left = refl;
    evicts-draws = refl;
    evicts-factor = refl;
    joins-100 = refl;
    adds-101 = refl;
    cached-2450 = refl;
    used-99 = refl;
    afresh-100 = refl;
    second-1000 = refl;
    second-1001 = refl;
    waits-50 = refl;
    back-1 = refl;
    both-499 = refl;
    series-500 = refl;
    none-501 = refl;
  };
  party-table = record {
    first-own = refl;
    second-own = refl;
    one_free = refl;
    none-left = refl;
    one_left = refl;
    none_needed = refl;
    party-0 = refl;
    party-3 = refl;
    promised-2 = refl;
    promised-3 = refl;
    promised-most = refl;
    holds_more = refl;
    long-first = refl;
    party-first = refl;
    promise-first = refl;
    stray = refl;
    stray-clear = refl;
    clear-frees = refl;
    clear-leaves = refl;
  };
  further = record {
    empty-slot = refl;
    empty-buckets = refl;
    absolute = record {
      faulty = refl;
      fills = refl;
      filled = refl;
      single-allowed = refl;
      single-buckets = refl;
      single-slot = refl;
      more-allowed = refl;
      more-slot = refl;
    };
    absolute-unknown = refl;
    absolute-first = refl;
    absolute-known = refl;
    absolute-below = refl;
    absolute-same = refl;
    suppressed = record {
      faulty = refl;
      fills = refl;
      filled = refl;
      single-allowed = refl;
      single-buckets = refl;
      single-slot = refl;
      more-allowed = refl;
      more-slot = refl;
    };
    suppressed-first = refl;
    suppressed-same = refl;
    hard-20 = refl;
    soft-10 = refl;
    twenty-full = refl;
    link-factor = refl;
    link-snapshot = refl;
    twenty-known = refl;
    twenty-given = refl;
    made_up = λ n h. rw (ne_eqb n 20 h);
    absolute-made-up = λ n h. rw (ne_eqb n 10 h);
  };
}

pub further : Further
further = computed.further

pub boundary : Boundary
boundary = computed.table

pub nano-boundary : NanoBoundary
nano-boundary = computed.nano-table

pub party-boundary : PartyBoundary
party-boundary = computed.party-table
