-- How a shot line is read, from left to right, by the parts of `desk`'s lines. Every definition computes.
-- Assumes nothing.
use Rattle.std.specs.Prelude.{cond, List, ℕ, Option, Some, None}
use Rattle.fields.specs.Parts.{on_number, field_at}
use Rattle.lines.specs.Reading.{on_tail, tail_at, is_exact}
use Rattle.lines.specs.Shown.{t_text, rate_text, draw_text}
use Rattle.shot_lines.specs.Shown.{controller_text, shot_text}
use Rattle.shot_lines.specs.declared.ShotLine.{ShotLine}

-- what is read of a line, by its parts
abbrev pub shot_line : ℕ → ℕ → ℕ → ℕ → ℕ → ℕ → ShotLine
shot_line t start end number rate draw = record { t = t; start = start; end = end; number = number; rate = rate; draw = draw }

unfoldable pub read_shot : List ℕ → Option ShotLine
read_shot line =
    on_number (field_at line 0 t_text) None
    (λ t a.
    on_tail (tail_at line a controller_text shot_text rate_text draw_text) None
    (λ start end number rate draw. cond (is_exact rate) (Some (shot_line t start end number rate draw)) None))
