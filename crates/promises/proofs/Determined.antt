-- Each public contract leaves one result: whatever two results it allows, answers and everything lent, are equal. Demand 1 says what a refusal is, and
-- this that there is nothing else a caller could be told, refusals included.
-- Assumes nothing.
use Rattle.std.specs.Prelude.{◌≡◌, refl, Bool, true, false, List, ℕ, ◌+◌, length, take, Result}
use Rattle.std.proofs.Common.{sym, ap, subst, ◌∙◌}
use Rattle.base.specs.Decides.{Decides}
use Rattle.ring.specs.Ring.{Shape}
use Rattle.room.specs.Room.{Room}
use Rattle.judge.specs.Verdict.{Verdict, verdict, Told}
use Rattle.gateway.specs.Gateway as Gateway
use Rattle.rows.specs.Lines.{LineGiven}
use Rattle.common.specs.declared.refusal.Refusal.{Refusal}
use Rattle.told.specs.declared.ToldLine.{ToldLine}
use Rattle.told.specs.Rows.{line_row}
use Rattle.readback.specs.ReadBack.{one-meaning}
use Rattle.answers.specs.Rows.{number_of}
use Rattle.desk_feed.specs.declared.Progress.{Progress}
use Rattle.desk_feed.specs.Feed.{Whole, whole, feed}
use Rattle.desk_feed.specs.Clauses.{Feeding}
use Rattle.printing.specs.Printing.{pasted}
use Rattle.steps.specs.Ops.{verdict_of}
use Rattle.promises.specs.Determined.{Once, TellsOne, Determined}

-- ---- by the form of the contract

-- `Told v r exit`
pub told-one : {A : Type 0} (v : Verdict A) → TellsOne v
told-one v x y p q = λ i. record { answer = (p.answer ∙ sym q.answer) i; words = (p.words ∙ sym q.words) i }

-- `r ≡ v`, and `exit ≡ v`
pub same-one : {A : Type 0} (v : A) → Once {R = A} (λ r. r ≡ v)
same-one v x y p q = p ∙ sym q

-- `Decides r P`
pub decides-one : (P : Type 0) → Once {R = Bool} (λ r. Decides r P)
decides-one P true true p q = refl
decides-one P true false p q = absurd (q p)
decides-one P false true p q = absurd (p q)
decides-one P false false p q = refl

-- so what is promised of a verdict is promised of the answer that a caller gets and of the words that it finds
pub told-so : {A : Type 0} (v : Verdict A) (r : A) (exit : List ℕ) (P : Verdict A → Type 0) → Told v r exit → P v → P (verdict r exit)
told-so v r exit P o p = subst P (told-one v v (verdict r exit) (record { answer = refl; words = refl }) o) p

-- ---- by function

-- how much of a block is taken decides the rest
feeding-one : (w : Whole) (block out : List ℕ) → Once {R = Progress × List ℕ × List ℕ × List ℕ × List ℕ}
    (λ x. Feeding w block out x.0 x.1 x.2 x.3 x.4)
feeding-one w block out x y p q =
    let t : x.0.taken ≡ y.0.taken = p.taken ∙ sym q.taken in
    let after : whole x.0.desk x.1 x.2 x.3 ≡ whole y.0.desk y.1 y.2 y.3 =
    p.after ∙ ap (λ (n : ℕ). (feed w (take n block)).whole) t ∙ sym q.after in
    let prints : List ℕ → ℕ = λ (b : List ℕ). 0 + length b in
    let next : x.0.put ≡ y.0.put = p.put.past ∙ ap (λ (n : ℕ). prints (feed w (take n block)).prints) t ∙ sym q.put.past in
    let bytes : x.4 ≡ y.4 = p.put.is ∙ ap (λ (n : ℕ). pasted out 0 (feed w (take n block)).prints) t ∙ sym q.put.is in
    λ i. (record { desk = (after i).desk; taken = t i; put = next i }, (after i).first, (after i).second, (after i).hold, bytes i)

line-one : (line : List ℕ) → Once {R = ℕ × List ℕ} (λ x. LineGiven line x.0 x.1)
line-one line x y p q =
    let same : p.answer ≡ q.answer = one-meaning line p.answer q.answer p.reads q.reads in
    let number : x.0 ≡ y.0 = p.given.number ∙ ap (λ (r : Result ToldLine Refusal). number_of (line_row r)) same ∙ sym q.given.number in
    let row : x.1 ≡ y.1 = p.given.answer ∙ ap line_row same ∙ sym q.given.answer in
    λ i. (number i, row i)

pub determined : Determined
determined = record {
  calls = λ kind s w t op. told-one (verdict_of kind s w t op);
  provider-cleanup = λ s a b t c d stale x y p q i. record {
    answer = (p.answer ∙ sym q.answer) i;
    absolute = (p.absolute ∙ sym q.absolute) i;
    suppressed = (p.suppressed ∙ sym q.suppressed) i;
  };
  read_out = λ kind s w key row x y p q i. record { answer = (p.answer ∙ sym q.answer) i; row = (p.row ∙ sym q.row) i };
  make = λ slots ring w x y p q i. ((p.answer ∙ sym q.answer) i, (p.words ∙ sym q.words) i);
  shot = λ s w r t key number rate draw x y p q i. record {
    answer = (p.answer ∙ sym q.answer) i;
    table = (p.table ∙ sym q.table) i;
    room = (p.room ∙ sym q.room) i;
  };
  new-season = λ w. told-one (Gateway.new_season w);
  make-table = λ w x y p q i. ((p.answer ∙ sym q.answer) i, (p.words ∙ sym q.words) i);
  faces = λ f x y p q i. ((p.number ∙ sym q.number) i, record { row = (p.answer ∙ sym q.answer) i; words = (p.left ∙ sym q.left) i });
  give = λ row x y p q i. ((p.number ∙ sym q.number) i, (p.answer ∙ sym q.answer) i);
  desk-memories = λ g a b x y p q i. ((p.answer ∙ sym q.answer) i, (p.first ∙ sym q.first) i, (p.second ∙ sym q.second) i);
  desk-feed = feeding-one;
  desk-finish = λ v out at x y p q i. (
    record { phase = (p.phase ∙ sym q.phase) i; next = (p.put.past ∙ sym q.put.past) i },
    (p.first ∙ sym q.first) i,
    (p.second ∙ sym q.second) i,
    (p.put.is ∙ sym q.put.is) i,
  );
  step = λ v x y p q i. record {
    answer = (p.answer ∙ sym q.answer) i;
    first = (p.first ∙ sym q.first) i;
    second = (p.second ∙ sym q.second) i;
  };
  print = λ line out x y p q i. ((p.long ∙ sym q.long) i, (p.bytes ∙ sym q.bytes) i);
  read-line = one-meaning;
  face-line = line-one;
  sized = λ w. decides-one (Room w);
  fit = λ r b. decides-one (Shape r b);
  start = λ w s x y p q. p.at ∙ sym q.at;
  from-stored-window-limit = λ W F limit x y p q i. record { 0 = (p ∙ sym q) i };
  others = same-one;
}
