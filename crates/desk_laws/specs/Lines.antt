-- What `desk` and `shots` print is lines, each the text of an answer; which codes these have, and that the bytes tell it.
-- Assumes nothing.
use Rattle.std.specs.Prelude.{◌≡◌, refl, false, List, [], ◌∷◌, ◌++◌, ◌≢◌, ℕ, length, take, drop, Result, Ok, Err}
use Rattle.std.proofs.Common.{sym, ap, ap₂, ◌∙◌, append_assoc, append-nil}
use Rattle.std.proofs.Math.Seq.{take-append_seam, drop-append_seam}
use Rattle.fields.specs.Bytes.{counts}
use Rattle.fields.specs.Numbers.{show_number, show-digits, show-injective}
use Rattle.fields.specs.Parts.{run}
use Rattle.lines.specs.Laws.{spaced-stops}
use Rattle.lines.specs.ReadLaws.{Stops, run-shown}
use Rattle.lines.specs.Shown.{t_text, factor_text}
use Rattle.printing.specs.Answers.{code_text, answer_text, show_hex16, show_verdict, show_counts, show_answer}
use Rattle.answer_lines.specs.Laws.{word-spaced}
use Rattle.answers.specs.Rows.{decision_row, total_row, snapshot_row, shot_row, number_of}
use Rattle.answers.specs.declared.RateLimitDecision.{RateLimitDecision}
use Rattle.answers.specs.declared.RateLimitDecision.TheVariants as decision
use Rattle.printing.specs.declared.AnswerLine.{AnswerLine}
use Rattle.told.specs.Told.{decided, live, snapped, line_of}
use Rattle.told.specs.declared.Stored.{Stored}
use Rattle.desk_lines.specs.Lines.{decision_line, total_line, snapshot_line, shot_line}
use Rattle.desk_turn.specs.Lines.{newline, shown}
use Rattle.desk_turn.specs.Lines as Turn
use Rattle.desk_turn.specs.declared.Phase.{Phase}
use Rattle.desk_laws.specs.Whole.{turns}
use Rattle.common.specs.declared.refusal.Refusal.{Refusal}
use Rattle.answers.specs.declared.ShotOutcome.{ShotOutcome}
use Rattle.answers.specs.declared.ShotOutcome.TheVariants.{Held, Decided}
use Rattle.answers.specs.declared.SuppressedRateLimitSnapshot.{SuppressedRateLimitSnapshot}

-- the bytes of lines, one after the other
abbrev pub texts : List AnswerLine → List ℕ
texts [] = []
texts (l ∷ ls) = shown l ++ texts ls

-- none of them has the bytes of an answer with code n
abbrev pub NoneWith : ℕ → List AnswerLine → Type 0
NoneWith n [] = Unit {0}
NoneWith n (l ∷ ls) = ((m : AnswerLine) → m.code ≡ n → shown l ≢ shown m) × NoneWith n ls

-- these bytes are lines, and none has code n
pub record Without (n : ℕ) (bytes : List ℕ) : Type 0 where
  pub lines : List AnswerLine
  pub text : bytes ≡ texts lines
  pub codes : NoneWith n lines

-- ---- a line's code is its answer's number

pub decision-code : (t : ℕ) (d : RateLimitDecision) (x : Stored) → (decision_line t d x).code ≡ number_of (decision_row d)
unfolding decision_line line_of decided decision_row
decision-code t decision.Allowed x = refl
decision-code t (decision.Rejected window wait left) x = refl
decision-code t (decision.Suppressed factor admitted) x = refl
decision-code t (decision.Refused n) x = refl

pub shot-code : (t : ℕ) (d : Result ShotOutcome Refusal) (x : Stored) → (shot_line t d x).code ≡ number_of (shot_row d)
unfolding shot_line shot_row
shot-code t (Ok Held) x = refl
shot-code t (Ok (Decided d)) x = decision-code t d x
shot-code t (Err n) x = refl

pub total-code : (t : ℕ) (d : Result ℕ Refusal) → (total_line t d).code ≡ number_of (total_row d)
unfolding total_line line_of live total_row
total-code t (Ok n) = refl
total-code t (Err n) = refl

pub snapshot-code : (t : ℕ) (d : Result SuppressedRateLimitSnapshot Refusal) (x : Stored) → (snapshot_line t d x).code ≡ number_of (snapshot_row d)
unfolding snapshot_line line_of snapped snapshot_row
snapshot-code t (Ok y) x = refl
snapshot-code t (Err n) x = refl

-- ---- what is printed tells the code: no answer with another code has the bytes of a line

number-apart : (m n : ℕ) (x y : List ℕ) → Stops (counts false) x → Stops (counts false) y → show_number m ++ x ≡ show_number n ++ y → (m ≡ n) × (x ≡ y)
number-apart m n x y p q e =
    let long : length (show_number m) ≡ length (show_number n) =
    sym (run-shown (counts false) (show_number m) x (show-digits false m) p) ∙ ap (run (counts false)) e ∙
    run-shown (counts false) (show_number n) y (show-digits false n) q in
    let left : show_number m ≡ show_number n =
    sym (take-append_seam (show_number m) x) ∙ ap₂ (λ (k : ℕ) (zs : List ℕ). take k zs) long e ∙ take-append_seam (show_number n) y in
    let right : x ≡ y =
    sym (drop-append_seam (show_number m) x) ∙ ap₂ (λ (k : ℕ) (zs : List ℕ). drop k zs) long e ∙ drop-append_seam (show_number n) y in
    (show-injective m n left, right)

five-parts : (a b c d e f : List ℕ) → (a ++ (b ++ (c ++ (d ++ e)))) ++ f ≡ a ++ (b ++ (c ++ (d ++ (e ++ f))))
five-parts a b c d e f =
    append_assoc a (b ++ (c ++ (d ++ e))) f ∙
    ap (λ (x : List ℕ). a ++ x)
    (append_assoc b (c ++ (d ++ e)) f ∙
    ap (λ (x : List ℕ). b ++ x) (append_assoc c (d ++ e) f ∙ ap (λ (x : List ℕ). c ++ x) (append_assoc d e f)))

-- what stands behind a line's answer
abbrev behind : AnswerLine → List ℕ
behind l = ((factor_text ++ show_hex16 l.factor) ++ show_counts l.wait l.left l.total l.declined) ++ (newline ∷ [])

-- and from its code on
abbrev from_code : AnswerLine → List ℕ
from_code l = show_number l.code ++ (answer_text l.answer ++ behind l)

shown-is : (l : AnswerLine) → shown l ≡ t_text ++ (show_number l.t ++ (code_text ++ from_code l))
unfolding shown show_answer show_verdict
shown-is l =
    let parts = five-parts (show_number l.t) code_text (show_number l.code) (answer_text l.answer) in
    let factor = factor_text ++ show_hex16 l.factor in
    let counted = show_counts l.wait l.left l.total l.declined in
    ap (λ (x : List ℕ). t_text ++ (x ++ (newline ∷ []))) (parts factor counted) ∙ ap (λ (x : List ℕ). t_text ++ x) (parts (factor ++ counted) (newline ∷ []))

pub code-told : (l m : AnswerLine) → shown l ≡ shown m → l.code ≡ m.code
code-told l m e =
    let past : show_number l.t ++ (code_text ++ from_code l) ≡ show_number m.t ++ (code_text ++ from_code m) =
    ap (drop 2) (sym (shown-is l) ∙ e ∙ shown-is m) in
    let stops : (k : AnswerLine) → Stops (counts false) (code_text ++ from_code k) = λ k. spaced-stops false code_text (from_code k) refl in
    let coded : from_code l ≡ from_code m = ap (drop 6)
    (number-apart l.t m.t (code_text ++ from_code l) (code_text ++ from_code m) (stops l) (stops m) past).1 in
    (number-apart l.code m.code (answer_text l.answer ++ behind l) (answer_text m.answer ++ behind m)
    (spaced-stops false (answer_text l.answer) (behind l) (word-spaced l.answer))
    (spaced-stops false (answer_text m.answer) (behind m) (word-spaced m.answer)) coded).0

-- ---- no lines, one, and more

pub no_line : (n : ℕ) → Without n []
no_line n = record { lines = []; text = refl; codes = tt }

pub one_line : (n : ℕ) (l : AnswerLine) → l.code ≢ n → Without n (shown l)
one_line n l h = record { lines = l ∷ []; text = sym (append-nil (shown l)); codes = (λ m e f. h (code-told l m f ∙ e), tt) }

pub texts-both : (ls ms : List AnswerLine) → texts ls ++ texts ms ≡ texts (ls ++ ms)
texts-both [] ms = refl
texts-both (l ∷ ls) ms = append_assoc (shown l) (texts ls) (texts ms) ∙ ap (λ (xs : List ℕ). shown l ++ xs) (texts-both ls ms)

none_both : (n : ℕ) (ls ms : List AnswerLine) → NoneWith n ls → NoneWith n ms → NoneWith n (ls ++ ms)
none_both n [] ms p q = q
none_both n (l ∷ ls) ms p q = (p.0, none_both n ls ms p.1 q)

pub more-lines : (n : ℕ) (xs ys : List ℕ) → Without n xs → Without n ys → Without n (xs ++ ys)
more-lines n xs ys p q = record {
  lines = p.lines ++ q.lines;
  text = ap₂ ◌++◌ p.text q.text ∙ texts-both p.lines q.lines;
  codes = none_both n p.lines q.lines p.codes q.codes;
}

-- where a program stands between two lines: the phase, and its two memories
abbrev pub Stand : Type 1
Stand = Phase → List ℕ → List ℕ → Type 0

-- a whole input: where each turn prints bytes of which Q holds, and leaves what makes it so, Q holds of all that is printed
pub all-turns : (Q : List ℕ → Type 0) → Q [] → ((xs ys : List ℕ) → Q xs → Q ys → Q (xs ++ ys)) → (P : Stand) →
    ((p : Phase) (a b line : List ℕ) → P p a b → Q (Turn.turn p a b line).prints) →
    ((p : Phase) (a b line : List ℕ) → P p a b → let e = Turn.turn p a b line in P e.phase e.first e.second) →
    (p : Phase) (a b : List ℕ) (ls : List (List ℕ)) → P p a b → Q (turns p a b ls)
unfolding turns
all-turns Q none more P each keeps p a b [] h = none
all-turns Q none more P each keeps p a b (l ∷ ls) h =
    let e = Turn.turn p a b l in
    more e.prints (turns e.phase e.first e.second ls) (each p a b l h)
    (all-turns Q none more P each keeps e.phase e.first e.second ls (keeps p a b l h))

-- lines without a code
pub all_lines : (n : ℕ) (P : Stand) → ((p : Phase) (a b line : List ℕ) → P p a b → Without n (Turn.turn p a b line).prints) →
    ((p : Phase) (a b line : List ℕ) → P p a b → let e = Turn.turn p a b line in P e.phase e.first e.second) →
    (p : Phase) (a b : List ℕ) (ls : List (List ℕ)) → P p a b → Without n (turns p a b ls)
all_lines n = all-turns (Without n) (no_line n) (more-lines n)
