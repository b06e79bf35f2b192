-- How a printed line is read, from left to right. Every definition computes; `Laws` says that reading and printing undo each other.
-- Assumes nothing.
use Rattle.std.specs.Prelude.{Bool, cond, ◌||◌, List, ℕ, ◌+◌, Option, Some, None, leb, take, drop}
use Rattle.fields.specs.Bytes.{within}
use Rattle.fields.specs.Parts.{run, text_at, on_number, on_place, field_at}
use Rattle.lines.specs.Reading.{on_numbers, numbers_at}
use Rattle.lines.specs.Shown.{t_text, factor_text}
use Rattle.printing.specs.Answers.{code_text, answer_name, word_text, wait_text, left_text, total_text, declined_text}
use Rattle.printing.specs.HexLaws.{hex_of, hex_from}
use Rattle.printing.specs.declared.Answer.{Answer}
use Rattle.printing.specs.declared.Answer.TheVariants.{Allowed, Rejected, Yes, No, Value, Held, Refused}
use Rattle.printing.specs.declared.AnswerLine.{AnswerLine}
use Rattle.answer_lines.specs.declared.Verdict.{Verdict}

-- ---- parts

-- 0 to 9, a to f
unfoldable pub is_hex : ℕ → Bool
is_hex b = within 48 57 b || within 97 102 b

-- what a hex digit counts
unfoldable pub hex_value : ℕ → Option ℕ
hex_value b = cond (is_hex b) (Some (hex_of b)) None

abbrev pub hex_length : ℕ
hex_length = 16

-- the word whose 16 hex digits start at `at`
unfoldable pub hex_at : List ℕ → ℕ → Option (ℕ × ℕ)
hex_at line at = cond (leb hex_length (run is_hex (drop at line))) (Some (hex_from 0 (take hex_length (drop at line)), at + hex_length)) None

-- the word at `at`, if it stands there
unfoldable pub word_if : List ℕ → ℕ → List ℕ → Answer → Option (Answer × ℕ) → Option (Answer × ℕ)
word_if line at text answer other = on_place (text_at line at text) other (λ next. Some (answer, next))

-- the word that starts at `at`
unfoldable pub any_word : List ℕ → ℕ → Option (Answer × ℕ)
any_word line at =
    word_if line at (word_text Allowed) Allowed (word_if line at (word_text Rejected) Rejected (word_if line at (word_text Yes) Yes
    (word_if line at (word_text No) No (word_if line at (word_text Value) Value (word_if line at (word_text Held) Held
    (word_if line at (word_text Refused) Refused None))))))

-- the answer at `at`: its name, and a word
unfoldable pub word_at : List ℕ → ℕ → Option (Answer × ℕ)
word_at line at = on_place (text_at line at answer_name) None (λ next. any_word line next)

abbrev pub on_word : {A : Type 0} → Option (Answer × ℕ) → A → (Answer → ℕ → A) → A
on_word (Some p) bad k = k p.0 p.1
on_word None bad k = bad

-- ---- a line

abbrev pub the_verdict : ℕ → ℕ → Answer → ℕ → ℕ → Verdict
the_verdict t code answer factor next = record { t = t; code = code; answer = answer; factor = factor; next = next }

unfoldable pub verdict_at : List ℕ → Option Verdict
verdict_at line =
    on_number (field_at line 0 t_text) None
    (λ t a.
    on_number (field_at line a code_text) None
    (λ code b.
    on_word (word_at line b) None
    (λ answer c.
    on_place (text_at line c factor_text) None
    (λ d. on_number (hex_at line d) None (λ factor next. Some (the_verdict t code answer factor next))))))

abbrev pub on_verdict : {A : Type 0} → Option Verdict → A → (ℕ → ℕ → Answer → ℕ → ℕ → A) → A
on_verdict (Some v) bad k = k v.t v.code v.answer v.factor v.next
on_verdict None bad k = bad

unfoldable pub read_answer : List ℕ → Option AnswerLine
read_answer line =
    on_verdict (verdict_at line) None
    (λ t code answer factor next.
    on_number (field_at line next wait_text) None
    (λ wait a.
    on_numbers (numbers_at line a left_text total_text declined_text) None
    (λ left total declined.
    Some
    (record { t = t; code = code; answer = answer; factor = factor; wait = wait; left = left; total = total; declined = declined }))))
