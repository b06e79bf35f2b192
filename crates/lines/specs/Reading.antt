-- How a line is read, from left to right. Every definition computes; `ReadLaws` says that reading and showing undo each other.
-- Assumes nothing.
use Rattle.std.specs.Prelude.{Bool, cond, List, ℕ, Option, Some, None, length, leb, eqb}
use Rattle.lines.specs.Shown.{window_text, bucket_text, factor_text, cache_text, t_text, op_text, key_text, rate_text, n_text, draw_text}
use Rattle.fields.specs.Ranges.{exact_largest}
use Rattle.lines.specs.declared.Op.{Op}
use Rattle.lines.specs.declared.Op.TheVariants.{AbsoluteInc, AbsoluteGet, SuppressedInc, SuppressedGet}
use Rattle.lines.specs.declared.Tail.{Tail}
use Rattle.lines.specs.declared.CallLine.{CallLine}
use Rattle.lines.specs.declared.SettingsLine.{SettingsLine}
use Rattle.fields.specs.Parts.{text_at, key_at, on_number, on_place, field_at}

abbrev pub on_name : {A : Type 0} → Option (Op × ℕ) → A → (Op → ℕ → A) → A
on_name (Some p) bad k = k p.0 p.1
on_name None bad k = bad

abbrev pub on_numbers : {A : Type 0} → Option (ℕ × ℕ × ℕ) → A → (ℕ → ℕ → ℕ → A) → A
on_numbers (Some p) bad k = k p.0 p.1 p.2
on_numbers None bad k = bad

abbrev pub on_tail : {A : Type 0} → Option Tail → A → (ℕ → ℕ → ℕ → ℕ → ℕ → A) → A
on_tail (Some x) bad k = k x.start x.end x.numbers.0 x.numbers.1 x.numbers.2
on_tail None bad k = bad

-- what is read of a line, by its parts
abbrev pub keyed : ℕ → ℕ → ℕ → ℕ → ℕ → Tail
keyed start end x y z = record { start = start; end = end; numbers = (x, y, z) }

abbrev pub settings_line : ℕ → ℕ → ℕ → ℕ → SettingsLine
settings_line window bucket factor cache = record { window = window; bucket = bucket; factor = factor; cache = cache }

abbrev pub call_line : ℕ → Op → ℕ → ℕ → ℕ → ℕ → ℕ → CallLine
call_line t op start end rate n draw = record { t = t; op = op; start = start; end = end; rate = rate; n = n; draw = draw }

-- the operation at `at`
abbrev pub op_if : List ℕ → ℕ → Op → Option (Op × ℕ) → Option (Op × ℕ)
op_if line at op other = on_place (text_at line at (op_text op)) other (λ next. Some (op, next))

unfoldable pub op_at : List ℕ → ℕ → Option (Op × ℕ)
op_at line at = op_if line at AbsoluteInc (op_if line at AbsoluteGet (op_if line at SuppressedInc (op_if line at SuppressedGet None)))

-- ---- the lines

-- the three numbers at `at` that end a line, each after its text
unfoldable pub numbers_at : List ℕ → ℕ → List ℕ → List ℕ → List ℕ → Option (ℕ × ℕ × ℕ)
numbers_at line at first second third =
    on_number (field_at line at first) None
    (λ x a.
    on_number (field_at line a second) None
    (λ y b.
    on_number (field_at line b third) None
    (λ z c. cond (eqb c (length line)) (Some (x, y, z)) None)))

-- a key at `at`, after its text, and then such numbers
unfoldable pub tail_at : List ℕ → ℕ → List ℕ → List ℕ → List ℕ → List ℕ → Option Tail
tail_at line at key first second third =
    on_place (text_at line at key) None
    (λ start.
    on_place (key_at line start) None
    (λ end. on_numbers (numbers_at line end first second third) None (λ x y z. Some (keyed start end x y z))))

-- "rate and factor at most 2^53"
unfoldable pub is_exact : ℕ → Bool
is_exact n = leb n exact_largest

unfoldable pub read_settings : List ℕ → Option SettingsLine
read_settings line =
    on_number (field_at line 0 window_text) None
    (λ window a.
    on_numbers (numbers_at line a bucket_text factor_text cache_text) None
    (λ bucket factor cache. cond (is_exact factor) (Some (settings_line window bucket factor cache)) None))

unfoldable pub read_call : List ℕ → Option CallLine
read_call line =
    on_number (field_at line 0 t_text) None
    (λ t a.
    on_name (op_at line a) None
    (λ op b.
    on_tail (tail_at line b key_text rate_text n_text draw_text) None
    (λ start end rate n draw. cond (is_exact rate) (Some (call_line t op start end rate n draw)) None)))
