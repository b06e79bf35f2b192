-- Demand 1 of a gateway: a shot is turned away by one table, 19 to 21 first and then the limiter's own, and then every word of table and room stays; a new
-- season by its own table.
-- Assumes nothing.
use Rattle.std.specs.Prelude.{◌≡◌, Bool, List, [], ◌∷◌, ◌++◌, ℕ}
use Rattle.std.proofs.Math.Path.{refl}
use Rattle.std.proofs.Common.{◌∙◌, eq-eqb, ne_eqb}
use Rattle.std.proofs.Math.Bool.{true, false}
use native.Mathlib.Omega.{arith}
use Rattle.parties.specs.Parties as Parties
use Rattle.parties.specs.Parties.{Sent}
use Rattle.answers.specs.Rows.{decision_row, shot_row, done_row, number_of}
use Rattle.common.specs.Refusals.{first, first-none, first-both, refuse}
use Rattle.common.specs.declared.units.RateLimit.{RateLimit}
use Rattle.settings.specs.Settings.{faults}
use Rattle.settings.specs.declared.Settings.{Settings}
use Rattle.rules.specs.declared.RoomKind.TheVariants as kind
use Rattle.judge.specs.Judge.{misfits}
use Rattle.suppressed_verdicts.specs.Calls.{inc}
use Rattle.gateway.specs.Gateway.{is_held, gate_turns, limiter_turns, unless_held, shot_turns, passed, unless_refused, shot, season_turns, new_season}
use Rattle.steps.specs.Ops as Ops
use Rattle.steps.specs.Order.{TurnedBy, InOrder}
use Rattle.steps.proofs.Order.{turned_by, judge-turned, not-refused}
use Rattle.steps.proofs.Table.{turned, in-order}
use Rattle.promises.specs.Shots.{TurnsShots}

-- ---- the order

module _ (s : Settings) (w r : List ℕ) (t : ℕ) (key : Sent) (number : ℕ) (rate : RateLimit) (draw : ℕ) where
  pub shot-in-order : (held : Bool) → InOrder 0 (gate_turns w key.bytes number ++ unless_held held (limiter_turns s w r t key rate draw))
  unfolding gate_turns faults misfits Parties.turns
  shot-in-order true = omega arith
  shot-in-order false = omega arith

  -- ---- what is not turned away is answered without a number

  -- the limiter's own list, without the table's 5
  asked-none : first (gate_turns w key.bytes number ++ limiter_turns s w r t key rate draw) ≡ 0 →
      number_of (decision_row (inc s r t key rate 1 draw).answer) ≡ 0
  unfolding gate_turns faults
  asked-none e =
      let a = (first-both (gate_turns w key.bytes number) (limiter_turns s w r t key rate draw) (omega arith) e).1 in
      let b = first-both (faults s) _ (omega arith) a in
      let c = (first-both ((5, _) ∷ []) _ (omega arith) b.1).1 in
      not-refused _ (in-order s r t key rate 1 draw) _ _ _ (turned kind.Suppressed s r t (Ops.draws key rate 1 draw))
      (first-none (faults s) _ (omega arith) b.0 ∙ c)

  passed_none : (held : Bool) → first (gate_turns w key.bytes number ++ unless_held held (limiter_turns s w r t key rate draw)) ≡ 0 →
      number_of (shot_row (passed held s w r t key number rate draw).answer) ≡ 0
  unfolding shot_row
  passed_none true e = refl
  passed_none false e = asked-none e

  shot-turned : TurnedBy {B = List ℕ × List ℕ} (shot_turns s w r t key number rate draw) (shot_row (shot s w r t key number rate draw).answer) (w, r)
      ((shot s w r t key number rate draw).table, (shot s w r t key number rate draw).room)
  unfolding shot unless_refused shot_row
  shot-turned =
      let turns = shot_turns s w r t key number rate draw in
      turned_by turns _ _ _ (shot-in-order (is_held w key.bytes number))
      (λ z. rw (ne_eqb (first turns) 0 z))
      (λ z. rw (eq-eqb (first turns) 0 z) (passed_none (is_held w key.bytes number) z))
      (λ z. rw (ne_eqb (first turns) 0 z))

season-turned : (w : List ℕ) → TurnedBy (season_turns w) (done_row (new_season w).answer) w (new_season w).words
unfolding new_season done_row
season-turned w = judge-turned done_row refuse (season_turns w) _ w _ refl (λ n. refl) (omega arith) refl

pub turns-shots : TurnsShots
turns-shots = record { shots = shot-turned; new-season = season-turned }
