-- What an increment's decision says of its forecast n: what is admitted is at most H, and what is at most S is Allowed. S and H are the soft and the hard
-- limit.
-- Assumes nothing.
use Rattle.std.specs.Prelude.{◌≡◌, refl, Bool, true, false, ℕ, ◌≤◌}
use Rattle.std.proofs.Math.Path.{sym}
use Rattle.std.proofs.Common.{ap, ◌∙◌}
use Rattle.std.proofs.Math.Bool.{cond}
use Rattle.answers.specs.Rows.{decision_row, number_of}
use Rattle.common_laws.specs.LimitLaws.{soft-le-hard}
use Rattle.common.specs.Limits.{cut_word, soft_word}
use Rattle.common.specs.Ranges.{factor_ok}
use Rattle.settings.specs.Settings.{factor_in}
use Rattle.answers.specs.declared.RateLimitDecision.{RateLimitDecision}
use Rattle.answers.specs.declared.RateLimitDecision.TheVariants.{Allowed, Rejected, Suppressed, Refused}
use Rattle.settings.specs.declared.Settings.{Settings}
use Rattle.rules.specs.Held.{Held}
use Rattle.rules.specs.Both.{overdue_in, looked_of}
use Rattle.rules.specs.Suppressed.{admits, asked, forecast, reach_of, outcome}
use Rattle.rules.proofs.Laws.{reach-admits, reach-soft, declined-all}
use Rattle.demand3.specs.History.{admits_count}

-- ---- the rows of the decisions

-- a row says whether the decision admits
pub admits-is : (d : RateLimitDecision) → admits_count d ≡ admits d
unfolding decision_row
admits-is Allowed = refl
admits-is (Rejected window wait left) = refl
admits-is (Suppressed f true) = refl
admits-is (Suppressed f false) = refl
admits-is (Refused n) = refl

pub admits-refused : (n : ℕ) → admits_count (Refused n) ≡ false
admits-refused n = admits-is (Refused n)

pub number-refused : (n : ℕ) → number_of (decision_row (Refused n)) ≡ n
unfolding decision_row
number-refused n = refl

-- ---- the outcome of an increment, of a key that holds h

module _ (s : Settings) (t limit c draw : ℕ) (h : Held) where
  -- "Count, and declined if not admitted"
  pub declines : (outcome s t limit c draw h).declined ≡ cond (admits_count (outcome s t limit c draw h).decision) 0 c
  unfolding outcome
  declines =
      declined-all (reach_of (forecast (looked_of s t h) c) (soft_word (factor_in s) limit) (cut_word limit)) (asked s t (overdue_in s t h) limit h) t c draw ∙
      sym (ap (λ (is : Bool). cond is 0 c) (admits-is _))

  pub admits-hard : factor_ok (factor_in s) ≡ true → admits_count (outcome s t limit c draw h).decision ≡ true → forecast (looked_of s t h) c ≤ cut_word limit
  unfolding outcome
  admits-hard f y =
      reach-admits (forecast (looked_of s t h) c) (soft_word (factor_in s) limit) (cut_word limit) (asked s t (overdue_in s t h) limit h) t c draw
      (soft-le-hard (factor_in s) limit f)
      (sym (admits-is _) ∙ y)

  pub allows-soft : forecast (looked_of s t h) c ≤ soft_word (factor_in s) limit → (outcome s t limit c draw h).decision ≡ Allowed
  unfolding outcome
  allows-soft y = reach-soft (forecast (looked_of s t h) c) (soft_word (factor_in s) limit) (cut_word limit) (asked s t (overdue_in s t h) limit h) t c draw y
