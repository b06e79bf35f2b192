-- Refusal 13 never occurs (document 02, ticket 2): no call of either limiter, the provider, the read_out, the gateway and the faces answers it, and `desk` and
-- `shots` print it in no line, on any arguments, any lent memory and any input. What is proved is more: a number that has no place in the order of judging is
-- given by none of them.
-- Assumes nothing.
use Rattle.std.specs.Prelude.{◌≡◌, Bool, Option, ◌≢◌, ℕ, length, Err}
use mathlib.Core.List.{List}
use Rattle.answers.specs.Rows.{done_row, read_out_row, ring_row, shot_row, number_of}
use Rattle.common.specs.Refusals.{refusal}
use Rattle.common.specs.declared.units.RateLimit.{RateLimit}
use Rattle.settings.specs.declared.Settings.{Settings}
use Rattle.ring_length.specs.RingLength.{ring_for}
use Rattle.ring.specs.declared.Bucket.{Bucket}
use Rattle.parties.specs.declared.Caller.{Caller}
use Rattle.parties.specs.Parties.{Sent}
use Rattle.rules.specs.declared.RoomKind.{RoomKind}
use Rattle.provider.specs.Provider as Provider
use Rattle.readout.specs.ReadOut as ReadOut
use Rattle.gateway.specs.Gateway.{shot, new_season}
use Rattle.common.specs.declared.comparator.RateLimitComparator.{RateLimitComparator}
use Rattle.answers.specs.declared.HistoryUpdateMode.{HistoryUpdateMode}
use Rattle.rows.specs.Plain.{Given}
use Rattle.abi.specs.Faces.{Faced, shown, shown_both, shown_gateway, shown_set, make_number}
use Rattle.abi.specs.ReadOut.{bucket_row}
use Rattle.rows.specs.Lines.{LineGiven}
use Rattle.told.specs.Range.{Reads}
use Rattle.desk_turn.specs.declared.Program.{Program}
use Rattle.desk_laws.specs.Whole.{printed}
use Rattle.steps.specs.Ops.{Op, row_of, verdict_of, answer_number}
use Rattle.desk_laws.specs.Lines.{Without}

-- ---- the statement

-- a face for C or Rust returned m and left the row a: neither tells n
abbrev pub NotTold : ℕ → ℕ → List ℕ → Type 0
NotTold n m a = (m ≢ n) × (number_of a ≢ n)

pub record NeverGiven (n : ℕ) : Type 0 where
  -- every call of both limiters, and of the provider
  pub calls : (kind : RoomKind) (s : Settings) (w : List ℕ) (t : ℕ) (op : Op kind) → answer_number kind s w t op ≢ n
  pub provider-cleanup : (s : Settings) (a b : List ℕ) (t : ℕ) (c d : Caller) (stale : ℕ) → number_of (done_row (Provider.cleanup s a b t c d stale).answer) ≢ n
  pub read_out : (kind : RoomKind) (s : Settings) (w : List ℕ) (key : Sent) (cells : List Bucket) →
      number_of (read_out_row (ReadOut.read_out kind s w key cells).answer) ≢ n
  -- how long a ring must be
  pub sufficient-ring : (s : Settings) → number_of (ring_row (ring_for s)) ≢ n
  -- the gateway
  pub shots : (s : Settings) (w r : List ℕ) (t : ℕ) (key : Sent) (number : ℕ) (rate : RateLimit) (draw : ℕ) →
      number_of (shot_row (shot s w r t key number rate draw).answer) ≢ n
  pub new-season : (w : List ℕ) → number_of (done_row (new_season w).answer) ≢ n
  -- the faces for C and Rust, by what their contracts name
  pub face-calls : (kind : RoomKind) (s : Settings) (w : List ℕ) (t : ℕ) (op : Op kind) (m : ℕ) (a v : List ℕ) →
      Faced (shown (row_of op) (verdict_of kind s w t op)) m a v → NotTold n m a
  pub face-sets : (kind : RoomKind) (s : Settings) (w : List ℕ) (t : ℕ) (key : Sent) (rate : RateLimit) (c : Option RateLimitComparator)
      (count : ℕ) (mode : Option HistoryUpdateMode)
      (m : ℕ) (a v : List ℕ) → Faced (shown_set kind s w t key rate c count mode) m a v → NotTold n m a
  pub face-both : (s : Settings) (a b : List ℕ) (t : ℕ) (c d : Caller) (stale m : ℕ) (r : List ℕ) (v : List ℕ × List ℕ) →
      Faced (shown_both (Provider.cleanup s a b t c d stale)) m r v → NotTold n m r
  pub face-shot : (s : Settings) (w r : List ℕ) (t : ℕ) (key : Sent) (number : ℕ) (rate : RateLimit) (draw m : ℕ) (a : List ℕ) (v : List ℕ × List ℕ) →
      Faced (shown_gateway (shot s w r t key number rate draw)) m a v → NotTold n m a
  pub face-season : (w : List ℕ) (m : ℕ) (a v : List ℕ) → Faced (shown done_row (new_season w)) m a v → NotTold n m a
  pub face-bucket : (kind : RoomKind) (s : Settings) (w : List ℕ) (key : Sent) (i m : ℕ) (a : List ℕ) → Given (bucket_row kind s w key i) m a → NotTold n m a
  pub face-ring : (s : Settings) (m : ℕ) (a : List ℕ) → Given (ring_row (ring_for s)) m a → NotTold n m a
  -- a line that is read back: the line may tell any number, the reader none but 14
  pub read-line : (line : List ℕ) (m : ℕ) → Reads line (Err (refusal m)) → m ≢ n
  pub face-line : (line : List ℕ) (m : ℕ) (a : List ℕ) → LineGiven line m a → NotTold n m a
  -- making a room or a table
  pub face-make : (made : Bool) → make_number made ≢ n
  -- all that the programs print, for any input
  pub lines : (g : Program) (h xs : List ℕ) → length h ≡ 200 → Without n (printed g h xs)

-- ---- n is no number of the order, and it is not 0

-- "its number is not used again"
abbrev pub unused : ℕ
unused = 13
