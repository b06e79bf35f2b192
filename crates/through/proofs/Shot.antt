-- A shot as the limiter sees it: it is asked, for a count of 1, or it is not and its room stays.
-- Assumes nothing.
use Rattle.std.specs.Prelude.{◌≡◌, Bool, List, [], ◌∷◌, ◌++◌, ℕ}
use Rattle.std.proofs.Math.Path.{refl, ap}
use Rattle.std.proofs.Common.{sym, ◌∙◌, arith}
use Rattle.std.proofs.Math.Bool.{true, false, not, cond}
use Rattle.std.proofs.lemmas.Bool.{false≢true}
use Rattle.std.proofs.Math.Logic.{inl, inr}
use Rattle.std.proofs.Math.Dec.{eqb}
use borrow.Author.Tests.{eq-eqb, eqb-true, eqb-false}
use Rattle.base.specs.Decides.{and-true}
use Rattle.answers.specs.Rows.{decision_row, shot_row}
use Rattle.answers.specs.declared.RateLimitDecision.{RateLimitDecision}
use Rattle.answers.specs.declared.RateLimitDecision.TheVariants as decision
use Rattle.common.specs.Refusals.{first, first-both, refuse}
use Rattle.common.specs.declared.units.RateLimit.{RateLimit}
use Rattle.settings.specs.Settings.{faults}
use Rattle.settings.specs.declared.Settings.{Settings}
use Rattle.parties.specs.Parties.{Sent}
use Rattle.suppressed_verdicts.specs.Calls.{inc}
use Rattle.table.specs.Table.{sound_for}
use Rattle.gateway.specs.Gateway.{is_held, gate_turns, limiter_turns, unless_held, shot_turns, as_shot, Verdict, passed, unless_refused, shot}
use Rattle.gateway.specs.Steps.{asked}
use Rattle.gateway.proofs.Laws.{shot-asked}
use Rattle.through.specs.Shot.{asks, Quiet}

-- ---- the limiter's answer, handed on

pub as-shot-row : (d : RateLimitDecision) → shot_row (as_shot d) ≡ decision_row d
unfolding shot_row decision_row
as-shot-row decision.Allowed = refl
as-shot-row (decision.Rejected window wait rest) = refl
as-shot-row (decision.Suppressed f is) = refl
as-shot-row (decision.Refused n) = refl

-- ---- a shot that the limiter is not asked about

five-unmet : (sound : Bool) → first ((5, not sound) ∷ []) ≡ 0 → sound ≡ true
unfolding first
five-unmet true e = refl
five-unmet false e = absurd (omega arith)

module _ (s : Settings) (w r : List ℕ) (t : ℕ) (key : Sent) (number : ℕ) (rate : RateLimit) (draw : ℕ) where
  asks-then : sound_for w key.bytes ≡ true → first (gate_turns w key.bytes number) ≡ 0 → is_held w key.bytes number ≡ false →
      asks w key.bytes number ≡ true
  unfolding asks
  asks-then o g h = rw (o, eq-eqb (first (gate_turns w key.bytes number)) 0 g, h)

  -- where nothing refuses a shot that is not held, the table is sound and the limiter is asked
  then-asks : first (gate_turns w key.bytes number ++ limiter_turns s w r t key rate draw) ≡ 0 → is_held w key.bytes number ≡ false →
      asks w key.bytes number ≡ true
  unfolding gate_turns faults
  then-asks e h =
      let g = first-both (gate_turns w key.bytes number) (limiter_turns s w r t key rate draw) (omega arith) e in
      let f = first-both (faults s) _ (omega arith) g.1 in
      let o = first-both ((5, not (sound_for w key.bytes)) ∷ []) _ (omega arith) f.1 in
      asks-then (five-unmet (sound_for w key.bytes) o.0) g.0 h

  pub shot-quiet : asks w key.bytes number ≡ false → Quiet r (shot s w r t key number rate draw)
  unfolding shot unless_refused shot_row
  shot-quiet e = go (is_held w key.bytes number) refl (eqb (first (shot_turns s w r t key number rate draw)) 0) refl
    where
      go : (h : Bool) → is_held w key.bytes number ≡ h → (z : Bool) →
          let n = first (gate_turns w key.bytes number ++ unless_held h (limiter_turns s w r t key rate draw)) in
          let v = passed h s w r t key number rate draw in
          eqb n 0 ≡ z → Quiet r (record { answer = cond z v.answer (refuse n); table = cond z v.table w; room = cond z v.room r })
      go true p true q = record { room = refl; none = refl; said = inl refl }
      go true p false q = record { room = refl; none = refl; said = inr (eqb-false _ 0 q) }
      go false p true q = absurd (false≢true (sym e ∙ then-asks (eqb-true _ 0 q) p))
      go false p false q = record { room = refl; none = refl; said = inr (eqb-false _ 0 q) }

  -- ---- and one that it is

  pub shot-by-limiter : asks w key.bytes number ≡ true → asked s w r t key number rate draw ≡ shot s w r t key number rate draw
  unfolding asks
  shot-by-limiter e =
      let a = and-true (sound_for w key.bytes) _ e in
      let b = and-true (eqb (first (gate_turns w key.bytes number)) 0) _ a.1 in
      shot-asked s w r t key number rate draw a.0 (eqb-true _ 0 b.0) (unheld (is_held w key.bytes number) b.1)
    where
      unheld : (h : Bool) → not h ≡ true → h ≡ false
      unheld true q = absurd (false≢true q)
      unheld false q = refl

  pub limiter-answers : asks w key.bytes number ≡ true → (shot s w r t key number rate draw).answer ≡ as_shot (inc s r t key rate 1 draw).answer
  unfolding asked
  limiter-answers e = ap (λ (v : Verdict). v.answer) (sym (shot-by-limiter e))

  pub limiter-leaves : asks w key.bytes number ≡ true → (shot s w r t key number rate draw).room ≡ (inc s r t key rate 1 draw).words
  unfolding asked
  limiter-leaves e = ap (λ (v : Verdict). v.room) (sym (shot-by-limiter e))
