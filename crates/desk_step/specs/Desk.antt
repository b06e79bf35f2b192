-- What `desk` prints for a line and what it leaves of its two rooms, in 01's words: these are the definitions to hold beside the page.
-- s are the settings, a the absolute room's words, b the suppressed room's, t the reading. Every call is of the one party.
-- Assumes nothing.
use Rattle.std.specs.Prelude.{ℕ, cond, List, ◌==◌, Option, Some, None, Result, Ok, Err}
use Rattle.common.specs.Refusals.{first, refusal}
use Rattle.common.specs.declared.refusal.Refusal.{Refusal}
use Rattle.settings.specs.Settings.{faults}
use Rattle.common.specs.Units.{real}
use Rattle.settings.specs.declared.ClockMode.TheVariants.{Milliseconds}
use Rattle.settings.specs.declared.Settings.{Settings}
use Rattle.parties.specs.Parties.{sent}
use Rattle.judge.specs.Verdict.{Verdict, verdict}
use Rattle.absolute_verdicts.specs.Calls as Absolute
use Rattle.suppressed_verdicts.specs.Calls as Suppressed
use Rattle.lines.specs.Laws.{key_in}
use Rattle.lines.specs.Reading.{read_call, read_settings}
use Rattle.lines.specs.declared.CallLine.{CallLine}
use Rattle.lines.specs.declared.Op.{Op}
use Rattle.lines.specs.declared.Op.TheVariants.{AbsoluteInc, AbsoluteGet, SuppressedInc, SuppressedGet}
use Rattle.lines.specs.declared.SettingsLine.{SettingsLine}
use Rattle.printing.specs.declared.AnswerLine.{AnswerLine}
use Rattle.told.specs.declared.Stored.{Stored}
use Rattle.desk_lines.specs.Lines.{alone, stored_of, decision_line, total_line, snapshot_line, per_minute}
use Rattle.told.specs.Told.{bad_line}
use Rattle.desk_lines.specs.Step.{Step, bad_step}

-- ---- the calls

-- a call's verdict with its line in the place of its answer: f makes the line of the answer and of what is then stored
abbrev pub lined : {A : Type 0} → (A → Stored → AnswerLine) → List ℕ → Verdict A → Verdict AnswerLine
lined f key v = verdict (f v.answer (stored_of v.words key)) v.words

unfoldable pub absolute_inc : Settings → List ℕ → ℕ → List ℕ → ℕ → ℕ → Verdict AnswerLine
absolute_inc s a t key rate n = lined (decision_line t) key (Absolute.inc s a t (sent (alone a) key) (per_minute rate) n)

-- "both gets ignore rate, n and draw"
unfoldable pub absolute_get : Settings → List ℕ → ℕ → List ℕ → Verdict AnswerLine
absolute_get s a t key = let v = Absolute.get s a t (sent (alone a) key) in verdict (total_line t v.answer) v.words

unfoldable pub suppressed_inc : Settings → List ℕ → ℕ → List ℕ → ℕ → ℕ → ℕ → Verdict AnswerLine
suppressed_inc s b t key rate n draw = lined (decision_line t) key (Suppressed.inc s b t (sent (alone b) key) (per_minute rate) n draw)

unfoldable pub suppressed_get : Settings → List ℕ → ℕ → List ℕ → Verdict AnswerLine
suppressed_get s b t key = lined (snapshot_line t) key (Suppressed.get s b t (sent (alone b) key))

-- ---- a line: what is printed, and both rooms after it

abbrev pub in_absolute : Verdict AnswerLine → List ℕ → Step
in_absolute v b = record { answer = v.answer; first = v.words; second = b }

abbrev pub in_suppressed : Verdict AnswerLine → List ℕ → Step
in_suppressed v a = record { answer = v.answer; first = a; second = v.words }

unfoldable pub call_of : Settings → List ℕ → List ℕ → ℕ → Op → List ℕ → ℕ → ℕ → ℕ → Step
call_of s a b t AbsoluteInc key rate n draw = in_absolute (absolute_inc s a t key rate n) b
call_of s a b t AbsoluteGet key rate n draw = in_absolute (absolute_get s a t key) b
call_of s a b t SuppressedInc key rate n draw = in_suppressed (suppressed_inc s b t key rate n draw) a
call_of s a b t SuppressedGet key rate n draw = in_suppressed (suppressed_get s b t key) a

abbrev pub step_of : Settings → List ℕ → List ℕ → List ℕ → Option CallLine → Step
step_of s a b line None = bad_step a b
step_of s a b line (Some l) = call_of s a b l.t l.op (key_in line l.start l.end) l.rate l.n l.draw

unfoldable pub stepped : Settings → List ℕ → List ℕ → List ℕ → Step
stepped s a b line = step_of s a b line (read_call line)

-- ---- the settings line: "A bad or missing settings line prints one line, with t 0 and code 14 or 1 to 4, and ends."

abbrev pub settings_of : ℕ → ℕ → ℕ → ℕ → Settings
settings_of window bucket factor cache = record {
  window_size = record { 0 = window };
  bucket_size = record { 0 = bucket };
  hard_limit_factor = real factor;
  suppression_factor_cache_period = record { 0 = cache };
  clock_mode = Milliseconds;
}

unfoldable pub open_with : Settings → Result Settings Refusal
open_with s = cond (first (faults s) == 0) (Ok s) (Err (refusal (first (faults s))))

abbrev pub opening_in : Option SettingsLine → Result Settings Refusal
opening_in None = Err (refusal bad_line)
opening_in (Some l) = open_with (settings_of l.window l.bucket l.factor l.cache)

unfoldable pub opening_of : List ℕ → Result Settings Refusal
opening_of line = opening_in (read_settings line)
