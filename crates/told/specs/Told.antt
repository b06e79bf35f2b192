-- What a line of `desk` tells of each answer, and its line, in 01's words: these are the definitions to hold beside the page.
-- t is the reading, x what is stored after the call.
-- Assumes nothing.
use Rattle.std.specs.Prelude.{Bool, true, false, List, ℕ, Result, Ok, Err, Option, Some, None}
use Rattle.std.specs.Float.{binary64}
use Rattle.std.specs.Float.Ieee.{to_bits}
use Rattle.common.specs.Ranges.{nil}
use Rattle.common.specs.declared.units.WindowSize.{WindowSize}
use Rattle.answers.specs.declared.RateLimitDecision.{RateLimitDecision}
use Rattle.answers.specs.declared.RateLimitDecision.TheVariants as decision
use Rattle.printing.specs.Answers.{show_answer}
use Rattle.printing.specs.declared.Answer.{Answer}
use Rattle.printing.specs.declared.Answer.TheVariants as answer
use Rattle.printing.specs.declared.AnswerLine.{AnswerLine}
use Rattle.told.specs.declared.Stored.{Stored}
use Rattle.told.specs.declared.Told.{Told}
use Rattle.told.specs.declared.Told.TheVariants.{Allowed, Rejected, Suppressed, Value, Refused}
use Rattle.told.specs.declared.ToldLine.{ToldLine}
use Rattle.common.specs.declared.refusal.Refusal.{Refusal}
use Rattle.answers.specs.declared.SuppressedRateLimitSnapshot.{SuppressedRateLimitSnapshot}

-- "14: a bad line"
abbrev pub bad_line : ℕ
bad_line = 14

-- no totals: of a key without a series, and of a refusal
abbrev pub no_stored : Stored
no_stored = record { total = 0; declined = 0 }

-- ---- what is told

-- "`wait` (when to ask again, taken as the Rust's retry_after in ms), `left` (oldest bucket's count)"
unfoldable pub decided : RateLimitDecision → Stored → Told
decided decision.Allowed x = Allowed x
decided (decision.Rejected window wait left) x = Rejected wait left x
decided (decision.Suppressed factor admitted) x = Suppressed factor admitted x
decided (decision.Refused n) x = Refused n

-- "live for aget": the live total that it answers; an absolute room declines nothing
unfoldable pub live : Result ℕ Refusal → Told
live (Ok n) = Value nil (record { total = n; declined = 0 })
live (Err r) = Refused r.0

unfoldable pub snapped : Result SuppressedRateLimitSnapshot Refusal → Stored → Told
snapped (Ok y) x = Value y.suppression_factor x
snapped (Err r) x = Refused r.0

-- the decision that is told, with this window in the place of a rejection's, which a line does not hold
unfoldable pub decision_of : Told → WindowSize → Option RateLimitDecision
decision_of (Allowed x) window = Some decision.Allowed
decision_of (Rejected wait left x) window = Some (decision.Rejected window wait left)
decision_of (Suppressed factor admitted x) window = Some (decision.Suppressed factor admitted)
decision_of (Value factor x) window = None
decision_of (Refused n) window = Some (decision.Refused n)

-- ---- its line

-- "Fields that do not apply, and on a refusal all after `answer`, are 0"
abbrev pub refused_line : ℕ → ℕ → AnswerLine
refused_line t n = record { t = t; code = n; answer = answer.Refused; factor = 0; wait = 0; left = 0; total = 0; declined = 0 }

abbrev pub said : ℕ → Answer → ℕ → ℕ → ℕ → Stored → AnswerLine
said t word factor wait left x = record { t = t; code = 0; answer = word; factor = factor; wait = wait; left = left; total = x.total; declined = x.declined }

abbrev pub yes_or_no : Bool → Answer
yes_or_no true = answer.Yes
yes_or_no false = answer.No

abbrev pub line_for : ℕ → Told → AnswerLine
line_for t (Allowed x) = said t answer.Allowed 0 0 0 x
line_for t (Rejected wait left x) = said t answer.Rejected 0 wait left x
line_for t (Suppressed factor admitted x) = said t (yes_or_no admitted) (to_bits binary64 factor) 0 0 x
line_for t (Value factor x) = said t answer.Value (to_bits binary64 factor) 0 0 x
line_for t (Refused n) = refused_line t n

unfoldable pub line_of : ToldLine → AnswerLine
line_of l = line_for l.t l.told

-- its bytes, without a newline
abbrev pub text_of : ToldLine → List ℕ
text_of l = show_answer (line_of l)
