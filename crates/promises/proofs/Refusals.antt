-- Demand 1: every call answers every input; what it turns away it turns away by its table, with the first number in the order of judging whose condition
-- holds, exactly then, and leaves every word as it was. That there is an answer for every input is what each function's own proof says: none of these functions
-- has a `requires`, and each is proved to end without fault and with the verdict below. Here the verdicts are held against the table.
-- Assumes nothing.
use Rattle.std.specs.Prelude.{◌≡◌, refl, Option, Some, None, List, ℕ}
use Rattle.std.proofs.Common.{arith, eq-eqb, ne_eqb}
use Rattle.answers.specs.Rows.{refused_row, read_out_row, ring_row}
use Rattle.common.specs.Refusals.{first}
use Rattle.settings.specs.Settings.{faults}
use Rattle.settings.specs.declared.Settings.{Settings}
use Rattle.common.specs.declared.units.RateLimit.{RateLimit}
use Rattle.ring_length.specs.RingLength.{ring_for}
use Rattle.ring.specs.declared.Bucket.{Bucket}
use Rattle.parties.specs.Parties.{Sent, turns}
use Rattle.rules.specs.declared.RoomKind.{RoomKind}
use Rattle.judge.specs.Judge.{misfits}
use Rattle.readout.specs.ReadOut as ReadOut
use Rattle.finding.specs.Finding as Finding
use Rattle.common.specs.declared.comparator.RateLimitComparator.{RateLimitComparator}
use Rattle.answers.specs.declared.HistoryUpdateMode.{HistoryUpdateMode}
use Rattle.unnamed_set.specs.Unnamed as Unnamed
use Rattle.unnamed_set.specs.Unnamed.{unnamed}
use Rattle.abi.specs.Faces.{shown_set}
use Rattle.steps.specs.Order.{TurnedBy}
use Rattle.steps.proofs.Order.{turned_by}
use Rattle.steps.specs.Ops as Ops
use Rattle.steps.specs.Ops.{Op, after, answer_row}
use Rattle.steps.proofs.Table.{turned, both-turned}
use Rattle.promises.proofs.Shots.{turns-shots}
use Rattle.promises.proofs.Units.{makes}
use Rattle.promises.specs.Refusals.{reads, sets_shown, Demand1}

-- ---- the promise

pub reads-number : (kind : RoomKind) (s : Settings) (w : List ℕ) (key : Sent) → Finding.refusal kind s w key ≡ first (reads kind s w key)
unfolding Finding.refusal
reads-number kind s w key = refl

read-turned : (kind : RoomKind) (s : Settings) (w : List ℕ) (key : Sent) (cells : List Bucket) →
    TurnedBy (reads kind s w key) (read_out_row (ReadOut.read_out kind s w key cells).answer) cells (ReadOut.read_out kind s w key cells).row
unfolding ReadOut.read_out read_out_row faults
read-turned kind s w key cells =
    let e = reads-number kind s w key in
    turned_by (reads kind s w key) _ _ _ (omega arith)
    (λ z. rw (e, ne_eqb (first (reads kind s w key)) 0 z))
    (λ z. rw (e, eq-eqb (first (reads kind s w key)) 0 z))
    (λ z. rw (e, ne_eqb (first (reads kind s w key)) 0 z))

ring-turned : (s : Settings) → TurnedBy {B = Unit {0}} (faults s) (ring_row (ring_for s)) tt tt
unfolding ring_for ring_row faults
ring-turned s =
    turned_by (faults s) _ tt tt (omega arith)
    (λ z. rw (ne_eqb (first (faults s)) 0 z))
    (λ z. rw (eq-eqb (first (faults s)) 0 z))
    (λ z. refl)

-- a number is always given, and 14 where none is met before it
unnamed-turned : (kind : RoomKind) (s : Settings) (w : List ℕ) (t : ℕ) (key : Sent) (rate : RateLimit) (count : ℕ) →
    TurnedBy (unnamed kind s w t key rate count) (refused_row (Unnamed.refusal kind s w t key rate count)) w w
unfolding Unnamed.refusal faults misfits turns
unnamed-turned kind s w t key rate count = turned_by (unnamed kind s w t key rate count) _ w w (omega arith) (λ z. refl) (λ z. z) (λ z. refl)

set-turned : (kind : RoomKind) (s : Settings) (w : List ℕ) (t : ℕ) (key : Sent) (rate : RateLimit) (comparison : Option RateLimitComparator)
    (count : ℕ) (mode : Option HistoryUpdateMode) →
    TurnedBy (sets_shown kind s w t key rate comparison count mode) (shown_set kind s w t key rate comparison count mode).row w
    (shown_set kind s w t key rate comparison count mode).words
unfolding shown_set
set-turned kind s w t key rate (Some c) count (Some m) = turned kind s w t (Ops.set key rate c count m)
set-turned kind s w t key rate (Some c) count None = unnamed-turned kind s w t key rate count
set-turned kind s w t key rate None count m = unnamed-turned kind s w t key rate count

pub demand1 : Demand1
demand1 = record {
  calls = turned;
  provider-cleanup = both-turned;
  read_out = read-turned;
  sufficient-ring = ring-turned;
  units = makes;
  set-shown = set-turned;
  gateway = turns-shots;
}
