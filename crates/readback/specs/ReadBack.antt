-- What a reader of `desk`'s lines promises, in the words of document 02, ticket 1. `Reads` (`told`) is all that its contract says.
-- Assumes nothing.
use Rattle.std.specs.Prelude.{◌≡◌, refl, true, false, List, ◌≢◌, ℕ, ◌≤◌, ◌<◌, Option, Some, None, Result, Ok, Err}
use Rattle.std.proofs.Common.{sym, ap, subst, ◌∙◌, arith}
use Rattle.common.specs.declared.refusal.Refusal.{Refusal}
use Rattle.common.specs.Refusals.{refusal}
use Rattle.common.specs.declared.units.WindowSize.{WindowSize}
use Rattle.answers.specs.declared.RateLimitDecision.{RateLimitDecision}
use Rattle.answers.specs.declared.RateLimitDecision.TheVariants as decision
use Rattle.printing.specs.Answers.{show_answer}
use Rattle.printing.specs.declared.Answer.TheVariants as word
use Rattle.printing.specs.declared.AnswerLine.{AnswerLine}
use Rattle.answer_lines.specs.Laws.{AnswerFits, answer-shown}
use Rattle.told.specs.Told.{bad_line, decided, decision_of, line_for, line_of, text_of}
use Rattle.told.specs.Range.{ToldFits, Fits, Reads}
use Rattle.told.specs.declared.Stored.{Stored}
use Rattle.told.specs.declared.Told.{Told}
use Rattle.told.specs.declared.Told.TheVariants.{Allowed, Rejected, Suppressed, Value, Refused}
use Rattle.told.specs.declared.ToldLine.{ToldLine}
use Rattle.readback.specs.Meaning.{read_back}
use Rattle.readback.specs.Laws.{printed-back, reads-back, meaning}

abbrev the_refused : ℕ → Result ToldLine Refusal
the_refused n = Err (refusal n)

-- "one meaning for each": a line reads in one way
pub one-meaning : (line : List ℕ) (r s : Result ToldLine Refusal) → Reads line r → Reads line s → r ≡ s
one-meaning line (Ok l) (Ok m) p q =
    sym (reads-back line l p.in-range p.prints) ∙ reads-back line m q.in-range q.prints
one-meaning line (Ok l) (Err n) p q = absurd (q.other l p.in-range p.prints)
one-meaning line (Err n) (Ok m) p q = absurd (p.other m q.in-range q.prints)
one-meaning line (Err n) (Err m) p q = ap (λ (k : ℕ). the_refused k) (p.number ∙ sym q.number)

-- so what a reader answers is what is found
pub reader-is : (line : List ℕ) (r : Result ToldLine Refusal) → Reads line r → r ≡ read_back line
reader-is line r p = one-meaning line r (read_back line) p (meaning line)

-- reading what is printed gives it back
pub printed-reads : (l : ToldLine) (r : Result ToldLine Refusal) → Fits l → Reads (text_of l) r → r ≡ Ok l
printed-reads l r f p = reader-is (text_of l) r p ∙ reads-back (text_of l) l f refl

-- "a line that reads well must print as the same bytes"
pub read-prints : (line : List ℕ) (l : ToldLine) → Reads line (Ok l) → text_of l ≡ line
read-prints line l p = sym p.prints

-- a decision, but for a Rejected's window
abbrev pub with_window : WindowSize → RateLimitDecision → RateLimitDecision
with_window window decision.Allowed = decision.Allowed
with_window window (decision.Rejected before wait left) = decision.Rejected window wait left
with_window window (decision.Suppressed factor admitted) = decision.Suppressed factor admitted
with_window window (decision.Refused n) = decision.Refused n

abbrev pub decision_told : ℕ → RateLimitDecision → Stored → ToldLine
decision_told t d x = record { t = t; told = decided d x }

decision-kept : (d : RateLimitDecision) (x : Stored) (window : WindowSize) → decision_of (decided d x) window ≡ Some (with_window window d)
unfolding decided decision_of
decision-kept decision.Allowed x window = refl
decision-kept (decision.Rejected before wait left) x window = refl
decision-kept (decision.Suppressed factor admitted) x window = refl
decision-kept (decision.Refused n) x window = refl

-- "Printing a decision and reading it must give it back, but for a Rejected's window"
pub decision-back : (t : ℕ) (d : RateLimitDecision) (x : Stored) (r : Result ToldLine Refusal) (window : WindowSize) → Fits (decision_told t d x) →
    Reads (text_of (decision_told t d x)) r →
    (r ≡ Ok (decision_told t d x)) × (decision_of (decided d x) window ≡ Some (with_window window d))
decision-back t d x r window f p = (printed-reads (decision_told t d x) r f p, decision-kept d x window)

-- ---- the lines of `shots` are not `desk`'s

told-code : (t : ℕ) (x : Told) → ToldFits t x → (line_for t x).code ≤ bad_line
told-code t (Allowed x) f = omega arith
told-code t (Rejected wait left x) f = omega arith
told-code t (Suppressed factor admitted x) f = omega arith
told-code t (Value factor x) f = omega arith
told-code t (Refused n) f = f.most

told-word : (t : ℕ) (x : Told) → (line_for t x).answer ≢ word.Held
told-word t (Allowed x) e = let z : ◌≡◌ {A = ℕ} 0 1 = cc in omega arith
told-word t (Rejected wait left x) e = let z : ◌≡◌ {A = ℕ} 0 1 = cc in omega arith
told-word t (Suppressed factor true x) e = let z : ◌≡◌ {A = ℕ} 0 1 = cc in omega arith
told-word t (Suppressed factor false x) e = let z : ◌≡◌ {A = ℕ} 0 1 = cc in omega arith
told-word t (Value factor x) e = let z : ◌≡◌ {A = ℕ} 0 1 = cc in omega arith
told-word t (Refused n) e = let z : ◌≡◌ {A = ℕ} 0 1 = cc in omega arith

-- what no line in range has, no line that reads has
unread-by : (P : AnswerLine → Type 0) → ((m : ToldLine) → Fits m → P (line_of m) → ⊥) → (l : AnswerLine) (r : Result ToldLine Refusal) → AnswerFits l → P l →
    Reads (show_answer l) r → r ≡ Err (refusal bad_line)
unread-by P none l (Err n) f p u = ap (λ (k : ℕ). the_refused k) u.number
unread-by P none l (Ok m) f p u =
    let shows : ◌≡◌ {A = Option AnswerLine} (Some l) (Some (line_of m)) =
    sym (answer-shown (show_answer l) l f refl) ∙ printed-back (show_answer l) m u.in-range u.prints in
    let same : l ≡ line_of m = cc in
    absurd (none m u.in-range (subst P same p))

-- `held` does not read
pub held-unread : (l : AnswerLine) (r : Result ToldLine Refusal) → AnswerFits l → l.answer ≡ word.Held → Reads (show_answer l) r → r ≡ Err (refusal bad_line)
unfolding line_of
held-unread = unread-by (λ l. l.answer ≡ word.Held) (λ m f e. told-word m.t m.told e)

-- nor does a number over 14
pub over-unread : (l : AnswerLine) (r : Result ToldLine Refusal) → AnswerFits l → bad_line < l.code → Reads (show_answer l) r → r ≡ Err (refusal bad_line)
unfolding line_of
over-unread = unread-by (λ l. bad_line < l.code) (λ m f h. omega (arith, h, told-code m.t m.told f.told))
