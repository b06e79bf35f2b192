-- How it is found what a line tells: what its word alone would say, tried by its range and by what it prints. `Laws` says that this is what the line tells.
-- Assumes nothing.
use Rattle.std.specs.Prelude.{Bool, true, false, ◌&&◌, cond, List, ℕ, leb, eqb, Float, Option, Some, None, Result, Ok, Err}
use Rattle.std.specs.Float.{binary64}
use Rattle.std.specs.Float.Ieee.{of_bits, to_bits}
use Rattle.fields.specs.Ranges.{exact_largest}
use Rattle.common.specs.declared.refusal.Refusal.{Refusal}
use Rattle.common.specs.Refusals.{refusal}
use Rattle.suppression.specs.Factor.{factor_word_ok}
use Rattle.printing.specs.declared.Answer.{Answer}
use Rattle.printing.specs.declared.Answer.TheVariants as word
use Rattle.printing.specs.declared.AnswerLine.{AnswerLine}
use Rattle.told.specs.Told.{bad_line, line_of}
use Rattle.told.specs.Range.{timeless}
use Rattle.told.specs.declared.Stored.{Stored}
use Rattle.told.specs.declared.Told.{Told}
use Rattle.told.specs.declared.Told.TheVariants.{Allowed, Rejected, Suppressed, Value, Refused}
use Rattle.told.specs.declared.ToldLine.{ToldLine}
use Rattle.answer_lines.specs.Reading.{read_answer}

-- ---- `Fits`, as it is tested

abbrev pub totals_fit : Stored → Bool
totals_fit x = leb x.total exact_largest && leb x.declined x.total

abbrev pub factor_fits : Float → Bool
factor_fits factor = factor_word_ok (to_bits binary64 factor)

abbrev pub refusal_fits : ℕ → ℕ → Bool
refusal_fits t n = leb 1 n && (leb n bad_line && cond (timeless n) (eqb t 0) true)

unfoldable pub is_fit : ℕ → Told → Bool
is_fit t (Allowed x) = totals_fit x
is_fit t (Rejected wait left x) = totals_fit x
is_fit t (Suppressed factor admitted x) = factor_fits factor && totals_fit x
is_fit t (Value factor x) = factor_fits factor && totals_fit x
is_fit t (Refused n) = refusal_fits t n

-- ---- what a line tells

abbrev pub stored_in : AnswerLine → Stored
stored_in l = record { total = l.total; declined = l.declined }

-- what a word says; `held` is no answer of `desk`, and 0 no refusal
abbrev pub told_as : Answer → AnswerLine → Told
told_as word.Allowed l = Allowed (stored_in l)
told_as word.Rejected l = Rejected l.wait l.left (stored_in l)
told_as word.Yes l = Suppressed (of_bits binary64 l.factor) true (stored_in l)
told_as word.No l = Suppressed (of_bits binary64 l.factor) false (stored_in l)
told_as word.Value l = Value (of_bits binary64 l.factor) (stored_in l)
told_as word.Held l = Refused 0
told_as word.Refused l = Refused l.code

unfoldable pub told_by : AnswerLine → Told
told_by l = told_as l.answer l

abbrev pub line_by : AnswerLine → ToldLine
line_by l = record { t = l.t; told = told_by l }

unfoldable pub same_numbers : AnswerLine → AnswerLine → Bool
same_numbers a b =
    eqb a.code b.code && (eqb a.factor b.factor && (eqb a.wait b.wait && (eqb a.left b.left &&
    (eqb a.total b.total && eqb a.declined b.declined))))

unfoldable pub meaning_of : AnswerLine → Result ToldLine Refusal
meaning_of l = cond (is_fit l.t (told_by l) && same_numbers (line_of (line_by l)) l) (Ok (line_by l)) (Err (refusal bad_line))

abbrev pub meaning_in : Option AnswerLine → Result ToldLine Refusal
meaning_in (Some l) = meaning_of l
meaning_in None = Err (refusal bad_line)

unfoldable pub read_back : List ℕ → Result ToldLine Refusal
read_back line = meaning_in (read_answer line)
