-- Each public contract leaves one result: whatever two results it allows, answers and everything lent, are equal. Demand 1 says what a refusal is, and
-- this that there is nothing else a caller could be told, refusals included.
-- Assumes nothing.
use Rattle.std.specs.Prelude.{◌≡◌, Bool, List, ℕ, Float, Result}
use Rattle.base.specs.Decides.{Decides}
use Rattle.common.specs.Limits.{rate_back}
use Rattle.settings.specs.declared.Settings.{Settings}
use Rattle.common.specs.declared.units.RateLimit.{RateLimit}
use Rattle.ring.specs.declared.Bucket.{Bucket}
use Rattle.ring.specs.Ring.{Shape}
use Rattle.room.specs.Room.{Room, Made, Starts}
use Rattle.parties.specs.declared.Caller.{Caller}
use Rattle.parties.specs.Parties.{Sent}
use Rattle.rules.specs.declared.RoomKind.{RoomKind}
use Rattle.judge.specs.Verdict.{Verdict, Told}
use Rattle.provider.specs.Provider as Provider
use Rattle.table.specs.Table.{TableMade}
use Rattle.gateway.specs.Gateway as Gateway
use Rattle.readout.specs.ReadOut as ReadOut
use Rattle.rows.specs.Plain.{Given}
use Rattle.rows.specs.Lines.{LineGiven}
use Rattle.common.specs.declared.refusal.Refusal.{Refusal}
use Rattle.told.specs.declared.ToldLine.{ToldLine}
use Rattle.told.specs.Range.{Reads}
use Rattle.abi.specs.Faces.{Face, Faced}
use Rattle.desk_lines.specs.Step.{Step, Answered}
use Rattle.desk_feed.specs.declared.Progress.{Progress}
use Rattle.desk_turn.specs.declared.Program.{Program}
use Rattle.desk_turn.specs.declared.Turn.{Turn}
use Rattle.desk_feed.specs.Feed.{Whole}
use Rattle.desk_turn.specs.Lines.{Effect}
use Rattle.desk_feed.specs.Clauses.{Feeding, BothMade}
use Rattle.desk_turn.specs.Taking.{Took}
use Rattle.printing.specs.Printing.{Printed}
use Rattle.printing.specs.declared.AnswerLine.{AnswerLine}
use Rattle.steps.specs.Ops.{Op, verdict_of}

-- what a contract C allows is one result
abbrev pub Once : {R : Type 0} → (R → Type 0) → Type 0
Once {R} C = (x y : R) → C x → C y → x ≡ y

-- a call on one room allows one answer with one room
abbrev pub TellsOne : {A : Type 0} → Verdict A → Type 0
TellsOne {A} v = Once {R = Verdict A} (λ x. Told v x.answer x.words)

-- ---- by function

pub record Determined : Type 1 where
  -- every call of either limiter; of the provider's cleanup, each room
  pub calls : (kind : RoomKind) (s : Settings) (w : List ℕ) (t : ℕ) (op : Op kind) → TellsOne (verdict_of kind s w t op)
  -- both rooms
  pub provider-cleanup : (s : Settings) (a b : List ℕ) (t : ℕ) (c d : Caller) (stale : ℕ) →
      Once {R = Provider.Verdict} (λ x. Provider.Told (Provider.cleanup s a b t c d stale) x.answer x.absolute x.suppressed)
  -- the row
  pub read_out : (kind : RoomKind) (s : Settings) (w : List ℕ) (key : Sent) (row : List Bucket) →
      Once {R = ReadOut.Filled} (λ x. ReadOut.Shown (ReadOut.read_out kind s w key row) x.answer x.row)
  -- making a room: done or refused, and the words
  pub make : (slots ring : ℕ) (w : List ℕ) → Once {R = Result (Unit {0}) Refusal × List ℕ} (λ x. Made slots ring w x.0 x.1)
  -- a gateway's shot: table and room; its new season; making a table
  pub shot : (s : Settings) (w r : List ℕ) (t : ℕ) (key : Sent) (number : ℕ) (rate : RateLimit) (draw : ℕ) →
      Once {R = Gateway.Verdict} (λ x. Gateway.Told (Gateway.shot s w r t key number rate draw) x.answer x.table x.room)
  pub new-season : (w : List ℕ) → TellsOne (Gateway.new_season w)
  pub make-table : (w : List ℕ) → Once {R = Result (Unit {0}) Refusal × List ℕ} (λ x. TableMade w x.0 x.1)
  -- the faces for C and Rust: the number, the answer row and the words of the room, or of both; and a row that is handed over
  pub faces : {W : Type 0} (f : Face W) → Once {R = ℕ × Face W} (λ x. Faced f x.0 x.1.row x.1.words)
  pub give : (row : List ℕ) → Once {R = ℕ × List ℕ} (λ x. Given row x.0 x.1)
  -- the bytes of `desk` and of `shots`: both memories made; a block taken, of which as much goes in as there is room to print for; the last line; each
  -- with what is printed and kept
  pub desk-memories : (g : Program) (a b : List ℕ) → Once {R = Result (Unit {0}) Refusal × List ℕ × List ℕ}
      (λ x. BothMade g a b x.0 x.1 x.2)
  pub desk-feed : (w : Whole) (block out : List ℕ) → Once {R = Progress × List ℕ × List ℕ × List ℕ × List ℕ}
      (λ x. Feeding w block out x.0 x.1 x.2 x.3 x.4)
  pub desk-finish : (v : Effect) (out : List ℕ) (at : ℕ) → Once {R = Turn × List ℕ × List ℕ × List ℕ} (λ x. Took v out at x.0 x.1 x.2 x.3)
  -- a line of `desk` or of `shots`: the line to print, and both memories
  pub step : (v : Step) → Once {R = Step} (λ x. Answered v x.answer x.first x.second)
  -- printing an answer: how long, and the bytes
  pub print : (line : AnswerLine) (out : List ℕ) → Once {R = ℕ × List ℕ} (λ x. Printed line out x.1 x.0)
  -- reading a line back, and its face's number and row
  pub read-line : (line : List ℕ) → Once {R = Result ToldLine Refusal} (λ x. Reads line x)
  pub face-line : (line : List ℕ) → Once {R = ℕ × List ℕ} (λ x. LineGiven line x.0 x.1)
  -- whether words are a room's, and a body a ring's; where a body starts
  pub sized : (w : List ℕ) → Once {R = Bool} (λ x. Decides x (Room w))
  pub fit : (r : ℕ) (b : List ℕ) → Once {R = Bool} (λ x. Decides x (Shape r b))
  pub start : (w : List ℕ) (s : ℕ) → Once {R = ℕ} (λ x. Starts w s x)
  -- a rate that is told by its number
  pub from-stored-window-limit : (W : ℕ) (F : Float) (limit : ℕ) → Once {R = RateLimit} (λ r. r.0 ≡ rate_back W F limit)
  -- every other public function says `r ≡ ..`, or `exit ≡ ..` where it answers nothing
  pub others : {A : Type 0} (v : A) → Once {R = A} (λ r. r ≡ v)
