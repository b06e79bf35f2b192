-- Demand 2, on the side of the proofs: what each call that is not turned away answers and leaves is what document 01's rules make of what it finds. A
-- field for each call; what the rules are stands in the records that the fields name. Of increments and of `get` it is said of any function with their
-- inputs and results, and the limiters' own are such functions. (On the other side the original Rust is run beside the calls: docs/DIFFERENCES.md.)
-- Assumes nothing.
use Rattle.std.specs.Prelude.{◌≡◌, Bool, List, ℕ, Result, Ok}
use Rattle.common.specs.Refusals.{first}
use Rattle.answers.specs.declared.RateLimitDecision.{RateLimitDecision}
use Rattle.common.specs.declared.comparator.RateLimitComparator.{RateLimitComparator}
use Rattle.answers.specs.declared.HistoryUpdateMode.{HistoryUpdateMode}
use Rattle.settings.specs.declared.Settings.{Settings}
use Rattle.common.specs.declared.units.RateLimit.{RateLimit}
use Rattle.ring.specs.declared.Bucket.{Bucket}
use Rattle.frame.specs.Keys.{Bytes}
use Rattle.parties.specs.declared.Caller.{Caller}
use Rattle.parties.specs.Parties.{Sent, mark_of}
use Rattle.rules.specs.declared.RoomKind.{RoomKind}
use Rattle.rules.specs.declared.RoomKind.TheVariants as kind
use Rattle.judge.specs.Judge.{slot_in, looked_in}
use Rattle.judge.specs.Verdict.{Verdict}
use Rattle.clearing.specs.Clear as Clear
use Rattle.calls.specs.Delete as Delete
use Rattle.calls.specs.Rate as Rate
use Rattle.calls.specs.Set as Sets
use Rattle.cleanup.specs.Cleanup as Cleanup
use Rattle.absolute_verdicts.specs.Calls as Absolute
use Rattle.suppressed_verdicts.specs.Calls as Suppressed
use Rattle.leaves.specs.AbsoluteLeaves.{GetLaw, AskLaw, IncLaw}
use Rattle.leaves.specs.SuppressedFollows.{Gets, GivesFactor, Counts}
use Rattle.rules.specs.Sets.{still_for}
use Rattle.rules.specs.Suppressed.{limit_for, outcome}
use Rattle.judge.specs.Held.{held_in}
use Rattle.provider.specs.Provider as Provider
use Rattle.readout.specs.ReadOut as ReadOut
use Rattle.readout.specs.Rule.{ReadsOut}
use Rattle.steps.specs.Ops.{Op, answer_row}
use Rattle.steps.specs.Table.{table_of, absolute_inc, plain, suppressed_inc, suppressed_factor, set_rate, sets, clears, cleans, cleans_both}
use Rattle.promises.specs.Answers.{rule_row}
use Rattle.promises.specs.Refusals.{reads}
use Rattle.leaves.specs.Shared.{RateRule, DeleteRule, SetRule, ClearRule, CleanRule}
use Rattle.common.specs.declared.refusal.Refusal.{Refusal}
use Rattle.answers.specs.declared.SuppressedRateLimitSnapshot.{SuppressedRateLimitSnapshot}

-- cleanup of one room
pub record CleansRoom (kind : RoomKind) (s : Settings) (w : List ℕ) (t : ℕ) (who : Caller) (stale : ℕ) : Type 0 where
  pub answer : (Cleanup.cleanup kind s w t who stale).answer ≡ Ok tt
  pub room : CleanRule kind s w (Cleanup.cleanup kind s w t who stale).words t stale

-- "The provider's cleanup cleans both rooms or neither"
pub record CleansBoth (s : Settings) (a b : List ℕ) (t : ℕ) (c d : Caller) (stale : ℕ) : Type 0 where
  pub answer : (Provider.cleanup s a b t c d stale).answer ≡ Ok tt
  pub absolute : CleanRule kind.Absolute s a (Provider.cleanup s a b t c d stale).absolute t stale
  pub suppressed : CleanRule kind.Suppressed s b (Provider.cleanup s a b t c d stale).suppressed t stale

-- ---- an increment, whatever function makes it

-- what it answers and what it leaves, by settings, words, reading, key, rate, count and draw
abbrev pub Inc : Type 0
Inc = Settings → List ℕ → ℕ → Sent → RateLimit → ℕ → ℕ → Verdict RateLimitDecision

-- the limiters' own; an absolute increment has no draw
abbrev pub inc_of : RoomKind → Inc
inc_of kind.Absolute s w t key rate count draw = Absolute.inc s w t key rate count
inc_of kind.Suppressed s w t key rate count draw = Suppressed.inc s w t key rate count draw

abbrev pub inc_table : RoomKind → Settings → List ℕ → ℕ → Sent → RateLimit → ℕ → ℕ → List (ℕ × Bool)
inc_table kind.Absolute s w t key rate count draw = absolute_inc s w t key rate count
inc_table kind.Suppressed s w t key rate count draw = suppressed_inc s w t key rate count draw

-- answer and room by the rules: of the suppressed limiter `outcome` is what they decide
abbrev pub IncRule : RoomKind → Settings → List ℕ → ℕ → Sent → RateLimit → ℕ → ℕ → Verdict RateLimitDecision → Type 0
IncRule kind.Absolute s w t key rate count draw v = IncLaw s w t key rate count v
IncRule kind.Suppressed s w t key rate count draw v =
    Counts s w t key (limit_for s rate (held_in w key)) count (looked_in s w t key) (outcome s t (limit_for s rate (held_in w key)) count draw (held_in w key)) v

-- of a key of bytes, where it is not turned away
abbrev pub IncByRules : RoomKind → Inc → Type 0
IncByRules kind f =
    (s : Settings) (w : List ℕ) (t : ℕ) (key : Sent) (rate : RateLimit) (count draw : ℕ) → Bytes key.bytes →
    first (inc_table kind s w t key rate count draw) ≡ 0 → IncRule kind s w t key rate count draw (f s w t key rate count draw)

-- ---- `get`, whatever function makes it: the absolute limiter's, and the suppressed one's

abbrev pub TotalByRules : (Settings → List ℕ → ℕ → Sent → Verdict (Result ℕ Refusal)) → Type 0
TotalByRules f = (s : Settings) (w : List ℕ) (t : ℕ) (key : Sent) → first (plain kind.Absolute s w t key) ≡ 0 → GetLaw s w t key (f s w t key)

abbrev pub SnapshotByRules : (Settings → List ℕ → ℕ → Sent → Verdict (Result SuppressedRateLimitSnapshot Refusal)) → Type 0
SnapshotByRules f =
    (s : Settings) (w : List ℕ) (t : ℕ) (key : Sent) → Bytes key.bytes → first (plain kind.Suppressed s w t key) ≡ 0 → Gets s w t key (f s w t key)

-- ---- the promise

pub record Demand2 : Type 0 where
  -- what every call of either limiter answers, in document 01's numbers and values; of the provider's cleanup, each room
  pub answers : (kind : RoomKind) (s : Settings) (w : List ℕ) (t : ℕ) (op : Op kind) → first (table_of kind s w t op) ≡ 0 →
      answer_row kind s w t op ≡ rule_row kind s w t op
  -- the absolute limiter
  pub absolute-inc : IncByRules kind.Absolute (inc_of kind.Absolute)
  pub absolute-is-allowed : (s : Settings) (w : List ℕ) (t : ℕ) (key : Sent) → first (plain kind.Absolute s w t key) ≡ 0 →
      AskLaw s w t key (Absolute.is_allowed s w t key)
  pub absolute-get : TotalByRules Absolute.get
  -- the suppressed limiter
  pub suppressed-inc : IncByRules kind.Suppressed (inc_of kind.Suppressed)
  pub suppressed-get : SnapshotByRules Suppressed.get
  pub suppressed-factor : (s : Settings) (w : List ℕ) (t : ℕ) (key : Sent) → Bytes key.bytes → first (suppressed_factor s w t key) ≡ 0 →
      GivesFactor s w t key (Suppressed.get_factor s w t key)
  -- the calls that both limiters have; `set_if` has mode Replace, `set_if_preserve_history` Preserve
  pub set-rate-limit : (kind : RoomKind) (s : Settings) (w : List ℕ) (t : ℕ) (key : Sent) (rate : RateLimit) → first (set_rate kind s w t key rate) ≡ 0 →
      RateRule kind s w t key rate (slot_in s w t key) (Rate.set_rate_limit kind s w t key rate)
  pub delete : (kind : RoomKind) (s : Settings) (w : List ℕ) (t : ℕ) (key : Sent) → first (plain kind s w t key) ≡ 0 →
      DeleteRule s w t key (slot_in s w t key) (Delete.delete kind s w t key)
  pub set_if : (kind : RoomKind) (s : Settings) (w : List ℕ) (t : ℕ) (key : Sent) (rate : RateLimit) (comparator : RateLimitComparator) (count : ℕ)
      (mode : HistoryUpdateMode) → Bytes key.bytes → first (sets kind s w t key rate comparator count mode) ≡ 0 →
      SetRule kind s w t key rate comparator count mode (still_for kind s t rate comparator count mode (held_in w key)) (slot_in s w t key)
      (Sets.set kind s w t key rate comparator count mode)
  pub clear : (s : Settings) (w : List ℕ) (t : ℕ) (who : Caller) → first (clears s w t who) ≡ 0 → ClearRule w (mark_of who.party) t (Clear.clear s w t who)
  pub cleanup : (kind : RoomKind) (s : Settings) (w : List ℕ) (t : ℕ) (who : Caller) (stale : ℕ) → first (cleans kind s w t who) ≡ 0 →
      CleansRoom kind s w t who stale
  pub provider-cleanup : (s : Settings) (a b : List ℕ) (t : ℕ) (c d : Caller) (stale : ℕ) → first (cleans_both s a b t c d) ≡ 0 → CleansBoth s a b t c d stale
  pub read_out : (kind : RoomKind) (s : Settings) (w : List ℕ) (key : Sent) (cells : List Bucket) → first (reads kind s w key) ≡ 0 →
      ReadsOut w key cells (ReadOut.read_out kind s w key cells)
