-- The calls of both limiters as one type, over the room's kind; what each is to answer and to leave, by the verdicts that the calls' contracts name;
-- and histories of them, newest first.
-- Assumes nothing.
use Rattle.std.specs.Prelude.{List, [], ◌∷◌, ℕ, Result, Option, Float}
use Rattle.answers.specs.Rows.{decision_row, total_row, snapshot_row, factor_row, old_rate_row, delete_row, set_row, done_row, number_of}
use Rattle.answers.specs.declared.RateLimitDecision.{RateLimitDecision}
use Rattle.common.specs.declared.comparator.RateLimitComparator.{RateLimitComparator}
use Rattle.answers.specs.declared.HistoryUpdateMode.{HistoryUpdateMode}
use Rattle.settings.specs.declared.Settings.{Settings}
use Rattle.common.specs.declared.units.RateLimit.{RateLimit}
use Rattle.frame.specs.Keys.{Bytes}
use Rattle.parties.specs.declared.Caller.{Caller}
use Rattle.parties.specs.Parties.{Sent, mark_of}
use Rattle.rules.specs.declared.RoomKind.{RoomKind}
use Rattle.rules.specs.declared.RoomKind.TheVariants.{Absolute, Suppressed}
use Rattle.judge.specs.Verdict.{Verdict, verdict}
use Rattle.clearing.specs.Clear as Clear
use Rattle.calls.specs.Delete as Delete
use Rattle.calls.specs.Rate as Rate
use Rattle.calls.specs.Set as Set
use Rattle.cleanup.specs.Cleanup as Cleanup
use Rattle.absolute_verdicts.specs.Calls as OnAbsolute
use Rattle.suppressed_verdicts.specs.Calls as OnSuppressed
use Rattle.provider.specs.Provider as Provider
use Rattle.common.specs.declared.refusal.Refusal.{Refusal}
use Rattle.answers.specs.declared.ConditionalSetOutcome.{ConditionalSetOutcome}
use Rattle.answers.specs.declared.SuppressedRateLimitSnapshot.{SuppressedRateLimitSnapshot}

pub data Op : RoomKind → Type 0 where
  -- key, rate, count
  inc : Sent → RateLimit → ℕ → Op Absolute
  is_allowed : Sent → Op Absolute
  get : Sent → Op Absolute
  -- key, rate, count, draw
  draws : Sent → RateLimit → ℕ → ℕ → Op Suppressed
  snapshot : Sent → Op Suppressed
  get_factor : Sent → Op Suppressed
  -- of either kind
  set_rate : {kind : RoomKind} → Sent → RateLimit → Op kind
  set : {kind : RoomKind} → Sent → RateLimit → RateLimitComparator → ℕ → HistoryUpdateMode → Op kind
  delete : {kind : RoomKind} → Sent → Op kind
  -- the caller and the stale time; and the provider's cleanup, which the words of the other room and that room's caller come with
  cleanup : {kind : RoomKind} → Caller → ℕ → Op kind
  cleanup_both : {kind : RoomKind} → Caller → List ℕ → Caller → ℕ → Op kind
  clear : {kind : RoomKind} → Caller → Op kind

-- ---- the answer, and its row of five numbers: the first is the refusal's number, or 0

abbrev pub Answer : {kind : RoomKind} → Op kind → Type 0
Answer (inc key rate count) = RateLimitDecision
Answer (is_allowed key) = RateLimitDecision
Answer (get key) = Result ℕ Refusal
Answer (draws key rate count draw) = RateLimitDecision
Answer (snapshot key) = Result SuppressedRateLimitSnapshot Refusal
Answer (get_factor key) = Result Float Refusal
Answer (set_rate key rate) = Result (Option RateLimit) Refusal
Answer (set key rate comparator count mode) = Result ConditionalSetOutcome Refusal
Answer (delete key) = Result (Option ℕ) Refusal
Answer (cleanup who stale) = Result (Unit {0}) Refusal
Answer (cleanup_both who other whose stale) = Result (Unit {0}) Refusal
Answer (clear who) = Result (Unit {0}) Refusal

abbrev pub row_of : {kind : RoomKind} → (op : Op kind) → Answer op → List ℕ
row_of (inc key rate count) = decision_row
row_of (is_allowed key) = decision_row
row_of (get key) = total_row
row_of (draws key rate count draw) = decision_row
row_of (snapshot key) = snapshot_row
row_of (get_factor key) = factor_row
row_of (set_rate key rate) = old_rate_row
row_of (set key rate comparator count mode) = set_row
row_of (delete key) = delete_row
row_of (cleanup who stale) = done_row
row_of (cleanup_both who other whose stale) = done_row
row_of (clear who) = done_row

-- ---- the verdict that the call's contract names

-- the provider's cleanup, as a room of this kind sees it
abbrev pub cleaned_both : RoomKind → Settings → List ℕ → Caller → List ℕ → Caller → ℕ → ℕ → Verdict (Result (Unit {0}) Refusal)
cleaned_both Absolute s w who other whose t stale = let v = Provider.cleanup s w other t who whose stale in verdict v.answer v.absolute
cleaned_both Suppressed s w who other whose t stale = let v = Provider.cleanup s other w t whose who stale in verdict v.answer v.suppressed

abbrev pub verdict_of : (kind : RoomKind) → Settings → List ℕ → ℕ → (op : Op kind) → Verdict (Answer op)
verdict_of kind s w t (inc key rate count) = OnAbsolute.inc s w t key rate count
verdict_of kind s w t (is_allowed key) = OnAbsolute.is_allowed s w t key
verdict_of kind s w t (get key) = OnAbsolute.get s w t key
verdict_of kind s w t (draws key rate count draw) = OnSuppressed.inc s w t key rate count draw
verdict_of kind s w t (snapshot key) = OnSuppressed.get s w t key
verdict_of kind s w t (get_factor key) = OnSuppressed.get_factor s w t key
verdict_of kind s w t (set_rate key rate) = Rate.set_rate_limit kind s w t key rate
verdict_of kind s w t (set key rate comparator count mode) = Set.set kind s w t key rate comparator count mode
verdict_of kind s w t (delete key) = Delete.delete kind s w t key
verdict_of kind s w t (cleanup who stale) = Cleanup.cleanup kind s w t who stale
verdict_of kind s w t (cleanup_both who other whose stale) = cleaned_both kind s w who other whose t stale
verdict_of kind s w t (clear who) = Clear.clear s w t who

abbrev pub after : (kind : RoomKind) → Settings → List ℕ → ℕ → Op kind → List ℕ
after kind s w t op = (verdict_of kind s w t op).words

abbrev pub answer_row : (kind : RoomKind) → Settings → List ℕ → ℕ → Op kind → List ℕ
answer_row kind s w t op = row_of op (verdict_of kind s w t op).answer

abbrev pub answer_number : (kind : RoomKind) → Settings → List ℕ → ℕ → Op kind → ℕ
answer_number kind s w t op = number_of (answer_row kind s w t op)

-- ---- a key that may enter the room is one of bytes, of any number

abbrev pub Keyed : {kind : RoomKind} → Op kind → Type 0
Keyed (inc key rate count) = Bytes key.bytes
Keyed (is_allowed key) = Unit {0}
Keyed (get key) = Unit {0}
Keyed (draws key rate count draw) = Bytes key.bytes
Keyed (snapshot key) = Unit {0}
Keyed (get_factor key) = Bytes key.bytes
Keyed (set_rate key rate) = Unit {0}
Keyed (set key rate comparator count mode) = Bytes key.bytes
Keyed (delete key) = Unit {0}
Keyed (cleanup who stale) = Unit {0}
Keyed (cleanup_both who other whose stale) = Unit {0}
Keyed (clear who) = Unit {0}

-- ---- what a call may touch: the slot of the key that it names, what is stale, or all slots with the mark of its party

pub data Touch : Type 0 where
  slot_of : Sent → Touch
  stale_by : ℕ → Touch
  whole : ℕ → Touch

abbrev pub touches : {kind : RoomKind} → Op kind → Touch
touches (inc key rate count) = slot_of key
touches (is_allowed key) = slot_of key
touches (get key) = slot_of key
touches (draws key rate count draw) = slot_of key
touches (snapshot key) = slot_of key
touches (get_factor key) = slot_of key
touches (set_rate key rate) = slot_of key
touches (set key rate comparator count mode) = slot_of key
touches (delete key) = slot_of key
touches (cleanup who stale) = stale_by stale
touches (cleanup_both who other whose stale) = stale_by stale
touches (clear who) = whole (mark_of who.party)

-- ---- histories

pub record Call (kind : RoomKind) : Type 0 where
  pub reading : ℕ
  pub op : Op kind

-- the words after a history, from the words w
abbrev pub words : (kind : RoomKind) → Settings → List ℕ → List (Call kind) → List ℕ
words kind s w [] = w
words kind s w (c ∷ cs) = after kind s (words kind s w cs) c.reading c.op

-- the rows that it was answered
abbrev pub rows : (kind : RoomKind) → Settings → List ℕ → List (Call kind) → List (List ℕ)
rows kind s w [] = []
rows kind s w (c ∷ cs) = answer_row kind s (words kind s w cs) c.reading c.op ∷ rows kind s w cs

abbrev pub AllKeyed : {kind : RoomKind} → List (Call kind) → Type 0
AllKeyed [] = Unit {0}
AllKeyed (c ∷ cs) = Keyed c.op × AllKeyed cs
