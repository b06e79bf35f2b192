-- Refusal 13 never occurs (document 02, ticket 2): no call of either limiter, the provider, the read_out, the gateway and the faces answers it, and `desk` and
-- `shots` print it in no line, on any arguments, any lent memory and any input. What is proved is more: a number that has no place in the order of judging is
-- given by none of them.
-- Assumes nothing.
use Rattle.std.specs.Prelude.{◌≡◌, Bool, cond, ◌≢◌, ℕ, ltb, length, get_or, Option, Some, None, Result, Ok, Err}
use Rattle.std.proofs.Math.Path.{refl}
use Rattle.std.proofs.Common.{sym, ap, subst, ◌∙◌, arith}
use Rattle.std.proofs.Math.Bool.{true, false}
use mathlib.Core.List.{List, []}
use borrow.Author.Tests.{eq-eqb, ne_eqb}
use Rattle.answers.specs.Rows.{row, refused_row, shot_row, number_of}
use Rattle.common.specs.Refusals.{first, refusal}
use Rattle.common.specs.declared.refusal.Refusal.{Refusal}
use Rattle.common.specs.declared.units.RateLimit.{RateLimit}
use Rattle.settings.specs.Settings.{faults}
use Rattle.settings.specs.declared.Settings.{Settings}
use Rattle.ring.specs.Ring.{no_bucket}
use Rattle.parties.specs.Parties.{Sent, sent}
use Rattle.rules.specs.declared.RoomKind.{RoomKind}
use Rattle.finding.specs.Finding.{buckets_of}
use Rattle.gateway.specs.Gateway.{shot}
use Rattle.abi.specs.Faces.{Face, Faced, make_number}
use Rattle.abi.specs.ReadOut.{cell_row, bucket_row}
use Rattle.lines.specs.Laws.{key_in}
use Rattle.lines.specs.Reading.{read_call}
use Rattle.lines.specs.declared.CallLine.{CallLine}
use Rattle.shot_lines.specs.Reading.{read_shot}
use Rattle.shot_lines.specs.declared.ShotLine.{ShotLine}
use Rattle.told.specs.Told.{bad_line}
use Rattle.told.specs.Range.{Reads}
use Rattle.told.specs.Rows.{told_row, line_row}
use Rattle.told.specs.declared.ToldLine.{ToldLine}
use Rattle.told.specs.declared.Told.{Told}
use Rattle.told.specs.declared.Told.TheVariants as told
use Rattle.desk_lines.specs.Lines.{alone, per_minute}
use Rattle.desk_step.specs.Desk as Calls
use Rattle.shots_step.specs.Shots as Shots
use Rattle.desk_turn.specs.declared.Program.{Program}
use Rattle.desk_turn.specs.declared.Program.TheVariants as program
use Rattle.desk_turn.specs.declared.Phase.TheVariants.{Waiting}
use Rattle.desk_turn.specs.Lines.{stepped_by}
use Rattle.desk_feed.specs.Clauses.{new_first, new_second}
use Rattle.desk_laws.specs.Whole.{input_lines, printed, program-prints}
use Rattle.steps.specs.Order.{Numbered, TurnedBy}
use Rattle.steps.proofs.Order.{turned_by, not-numbered}
use Rattle.steps.specs.Ops.{Op, answer_number}
use Rattle.promises.specs.Refusals.{reads}
use Rattle.promises.proofs.Refusals.{reads-number, demand1}
use Rattle.desk_laws.specs.Lines.{Without, Stand, shot-code, all_lines}
use Rattle.desk_laws.specs.Asks.{kind_of, room_of, op_of, call-code, turn-line}
use Rattle.retired.specs.Retired.{NotTold, NeverGiven, unused}

-- ---- n is no number of the order, and it is not 0

module _ (n : ℕ) (z : n ≢ 0) (h : Numbered n → ⊥) where
  from : {B : Type 0} (table : List (ℕ × Bool)) (row : List ℕ) (before after : B) → TurnedBy table row before after → number_of row ≢ n
  from table row before after t = not-numbered table row before after t n z h

  other : (m : ℕ) → Numbered m → m ≢ n
  other m k e = h (subst (λ j. Numbered j) e k)

  by-calls : (kind : RoomKind) (s : Settings) (w : List ℕ) (t : ℕ) (op : Op kind) → answer_number kind s w t op ≢ n
  by-calls kind s w t op = from _ _ _ _ (demand1.calls kind s w t op)

  by-shots : (s : Settings) (w r : List ℕ) (t : ℕ) (key : Sent) (number : ℕ) (rate : RateLimit) (draw : ℕ) →
      number_of (shot_row (shot s w r t key number rate draw).answer) ≢ n
  by-shots s w r t key number rate draw = from _ _ _ _ (demand1.gateway.shots s w r t key number rate draw)

  -- ---- the faces

  not-told : (row : List ℕ) (m : ℕ) (a : List ℕ) → number_of row ≢ n → m ≡ number_of row → a ≡ row → NotTold n m a
  not-told row m a k p q = (λ e. k (sym p ∙ e), λ e. k (sym (ap number_of q) ∙ e))

  faced : {W : Type 0} (f : Face W) (m : ℕ) (a : List ℕ) (v : W) → number_of f.row ≢ n → Faced f m a v → NotTold n m a
  faced f m a v k g = not-told f.row m a k g.number g.answer

  bucket-turned : (kind : RoomKind) (s : Settings) (w : List ℕ) (key : Sent) (i : ℕ) → TurnedBy (reads kind s w key) (bucket_row kind s w key i) w w
  unfolding bucket_row faults
  bucket-turned kind s w key i =
      let e = reads-number kind s w key in
      turned_by (reads kind s w key) _ w w (omega arith)
      (λ y. rw (e, ne_eqb (first (reads kind s w key)) 0 y))
      (λ y. rw (e, eq-eqb (first (reads kind s w key)) 0 y) (placed (ltb i (length (buckets_of w key)))))
      (λ y. refl)
    where
      placed : (b : Bool) → number_of (cond b (cell_row (get_or (buckets_of w key) i no_bucket)) (row 0 2 0 0 0)) ≡ 0
      placed true = refl
      placed false = refl

  make : (made : Bool) → make_number made ≢ n
  make true e = z (sym e)
  make false e = other 5 (omega arith) e

  -- ---- lines that are read back

  unread : (line : List ℕ) (m : ℕ) → Reads line (Err (refusal m)) → m ≢ n
  unread line m u e = other bad_line (omega arith) (sym u.number ∙ e)

  told-number : (t : ℕ) (x : Told) → number_of (told_row t x) ≡ 0
  unfolding told_row
  told-number t (told.Allowed x) = refl
  told-number t (told.Rejected wait left x) = refl
  told-number t (told.Suppressed factor admitted x) = refl
  told-number t (told.Value factor x) = refl
  told-number t (told.Refused m) = refl

  line-number : (line : List ℕ) (r : Result ToldLine Refusal) → Reads line r → number_of (line_row r) ≢ n
  unfolding line_row
  line-number line (Ok l) u = λ e. z (sym e ∙ told-number l.t l.told)
  line-number line (Err e) u = unread line e.0 u

  -- ---- the lines

  desk-step : (s : Settings) (a b line : List ℕ) (c : Option CallLine) → (Calls.step_of s a b line c).answer.code ≢ n
  desk-step s a b line None = other bad_line (omega arith)
  desk-step s a b line (Some l) = λ e.
      by-calls (kind_of l.op) s (room_of l.op a b) l.t (op_of l.op (room_of l.op a b) (key_in line l.start l.end) l.rate l.n l.draw)
      (sym (call-code s a b l.t l.op (key_in line l.start l.end) l.rate l.n l.draw) ∙ e)

  shot-step : (s : Settings) (w r line : List ℕ) (c : Option ShotLine) → (Shots.step_of s w r line c).answer.code ≢ n
  unfolding Shots.shot_of
  shot-step s w r line None = other bad_line (omega arith)
  shot-step s w r line (Some l) = λ e.
      by-shots s w r l.t (sent (alone r) (key_in line l.start l.end)) l.number (per_minute l.rate) l.draw (sym (shot-code l.t _ _) ∙ e)

  stepped : (g : Program) (s : Settings) (a b line : List ℕ) → (stepped_by g s a b line).answer.code ≢ n
  unfolding stepped_by Calls.stepped Shots.stepped
  stepped program.Desk s a b line = desk-step s a b line (read_call line)
  stepped program.Shots s a b line = shot-step s a b line (read_shot line)

  faulty : (s : Settings) → first (faults s) ≢ n
  unfolding faults
  faulty s =
      from (faults s) (refused_row (first (faults s))) [] [] (turned_by {B = List ℕ} (faults s) _ [] [] (omega arith) (λ k. refl) (λ k. k) (λ k. refl))

  abbrev Anywhere : Stand
  Anywhere p a b = Unit {0}

  input-lines : (g : Program) (h xs : List ℕ) → length h ≡ 200 → Without n (printed g h xs)
  input-lines g h xs e =
      subst (Without n) (sym (program-prints g h xs e))
      (all_lines n Anywhere (turn-line n (other bad_line (omega arith)) faulty Anywhere (λ g s a b line u. stepped g s a b line)) (λ p a b line u. u)
      (Waiting g) (new_first g) (new_second g) (input_lines [] xs) tt)

  pub unnumbered : NeverGiven n
  unnumbered = record {
    calls = by-calls;
    provider-cleanup = λ s a b t c d stale. from _ _ _ _ (demand1.provider-cleanup s a b t c d stale);
    read_out = λ kind s w key cells. from _ _ _ _ (demand1.read_out kind s w key cells);
    sufficient-ring = λ s. from _ _ _ _ (demand1.sufficient-ring s);
    shots = by-shots;
    new-season = λ w. from _ _ _ _ (demand1.gateway.new-season w);
    face-calls = λ kind s w t op m a v. faced _ m a v (by-calls kind s w t op);
    face-sets = λ kind s w t key rate c count mode m a v. faced _ m a v (from _ _ _ _ (demand1.set-shown kind s w t key rate c count mode));
    face-both = λ s a b t c d stale m r v. faced _ m r v (from _ _ _ _ (demand1.provider-cleanup s a b t c d stale));
    face-shot = λ s w r t key number rate draw m a v. faced _ m a v (by-shots s w r t key number rate draw);
    face-season = λ w m a v. faced _ m a v (from _ _ _ _ (demand1.gateway.new-season w));
    face-bucket = λ kind s w key i m a g. not-told _ m a (from _ _ _ _ (bucket-turned kind s w key i)) g.number g.answer;
    face-ring = λ s m a g. not-told _ m a (from _ _ _ _ (demand1.sufficient-ring s)) g.number g.answer;
    read-line = unread;
    face-line = λ line m a g. not-told _ m a (line-number line g.answer g.reads) g.given.number g.given.answer;
    face-make = make;
    lines = input-lines;
  }

pub never-13 : NeverGiven unused
never-13 = unnumbered unused (λ e. omega arith) (λ h. omega arith)

-- it is not said of a number that is given: 5 is, where words are too few for a room
pub five-given : NeverGiven 5 → ⊥
five-given g = g.face-make false refl
