-- Demand 1: every call answers every input; what it turns away it turns away by its table, with the first number in the order of judging whose condition
-- holds, exactly then, and leaves every word as it was. That there is an answer for every input is what each function's own proof says: none of these functions
-- has a `requires`, and each is proved to end without fault and with the verdict below. Here the verdicts are held against the table.
-- Assumes nothing.
use Rattle.std.specs.Prelude.{Bool, Option, Some, None, not, ◌&&◌, List, [], ◌∷◌, ◌++◌, ℕ, ltb, length}
use Rattle.answers.specs.Rows.{done_row, read_out_row, ring_row}
use Rattle.settings.specs.Settings.{faults}
use Rattle.settings.specs.declared.Settings.{Settings}
use Rattle.common.specs.declared.units.RateLimit.{RateLimit}
use Rattle.ring_length.specs.RingLength.{ring_for}
use Rattle.ring.specs.declared.Bucket.{Bucket}
use Rattle.room.specs.Room.{sized}
use Rattle.parties.specs.declared.Caller.{Caller}
use Rattle.parties.specs.Parties.{Sent, is_party, ours}
use Rattle.rules.specs.declared.RoomKind.{RoomKind}
use Rattle.opened.specs.Sound.{addressed, sound_at}
use Rattle.provider.specs.Provider as Provider
use Rattle.readout.specs.ReadOut as ReadOut
use Rattle.common.specs.declared.comparator.RateLimitComparator.{RateLimitComparator}
use Rattle.answers.specs.declared.HistoryUpdateMode.{HistoryUpdateMode}
use Rattle.unnamed_set.specs.Unnamed.{unnamed}
use Rattle.abi.specs.Faces.{shown_set}
use Rattle.steps.specs.Order.{TurnedBy}
use Rattle.steps.specs.Ops.{Op, after, answer_row}
use Rattle.steps.specs.Table.{table_of, sets, cleans_both}
use Rattle.promises.specs.Shots.{TurnsShots}
use Rattle.promises.specs.Units.{Makes}

-- ---- the read_out's table: the calls' stand with the steps (`table_of`)

-- 1 to 5, 7 and 15; of a caller the party alone
abbrev pub reads : RoomKind → Settings → List ℕ → Sent → List (ℕ × Bool)
reads kind s w key =
    let unsound = not (sized w && (ours w && sound_at kind s w (addressed w key))) in
    faults s ++ ((5, unsound) ∷ (7, ltb 32 (length key.bytes)) ∷ (15, not (is_party key.caller.party)) ∷ [])

-- ---- the table of a set over a face for C or Rust

-- as of any set; where comparator or mode is not named, all of it that can be judged without them, and else 14
abbrev pub sets_shown : RoomKind → Settings → List ℕ → ℕ → Sent → RateLimit → Option RateLimitComparator → ℕ → Option HistoryUpdateMode → List (ℕ × Bool)
sets_shown kind s w t key rate (Some c) count (Some m) = sets kind s w t key rate c count m
sets_shown kind s w t key rate (Some c) count None = unnamed kind s w t key rate count
sets_shown kind s w t key rate None count m = unnamed kind s w t key rate count

-- ---- the promise

pub record Demand1 : Type 0 where
  -- every call of either limiter; of the provider's cleanup, each room
  pub calls : (kind : RoomKind) (s : Settings) (w : List ℕ) (t : ℕ) (op : Op kind) →
      TurnedBy (table_of kind s w t op) (answer_row kind s w t op) w (after kind s w t op)
  -- both rooms stay
  pub provider-cleanup : (s : Settings) (a b : List ℕ) (t : ℕ) (c d : Caller) (stale : ℕ) →
      TurnedBy {B = List ℕ × List ℕ} (cleans_both s a b t c d) (done_row (Provider.cleanup s a b t c d stale).answer) (a, b)
      ((Provider.cleanup s a b t c d stale).absolute, (Provider.cleanup s a b t c d stale).suppressed)
  -- the row stays
  pub read_out : (kind : RoomKind) (s : Settings) (w : List ℕ) (key : Sent) (cells : List Bucket) →
      TurnedBy (reads kind s w key) (read_out_row (ReadOut.read_out kind s w key cells).answer) cells (ReadOut.read_out kind s w key cells).row
  -- how long a ring must be: 1 to 4; nothing is lent
  pub sufficient-ring : (s : Settings) → TurnedBy {B = Unit {0}} (faults s) (ring_row (ring_for s)) tt tt
  -- the constructors of units: 1, 2, 3 and 8
  pub units : Makes
  -- the sets over a face
  pub set-shown : (kind : RoomKind) (s : Settings) (w : List ℕ) (t : ℕ) (key : Sent) (rate : RateLimit) (comparison : Option RateLimitComparator)
      (count : ℕ) (mode : Option HistoryUpdateMode) →
      TurnedBy (sets_shown kind s w t key rate comparison count mode) (shown_set kind s w t key rate comparison count mode).row w
      (shown_set kind s w t key rate comparison count mode).words
  -- a gateway's shots, and its new season
  pub gateway : TurnsShots
