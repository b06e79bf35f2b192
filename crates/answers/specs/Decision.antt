-- A refusal as a decision: it is one of its cases.
-- Assumes nothing.
use Rattle.std.specs.Prelude.{Result, Ok, Err}
use Rattle.common.specs.declared.refusal.Refusal.{Refusal}
use Rattle.answers.specs.declared.RateLimitDecision.{RateLimitDecision}
use Rattle.answers.specs.declared.RateLimitDecision.TheVariants.{Refused}

abbrev pub decision_of : Result RateLimitDecision Refusal → RateLimitDecision
decision_of (Ok d) = d
decision_of (Err r) = Refused r.0
