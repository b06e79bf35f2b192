-- The line that `desk` and `shots` print, as bytes, in 01's words: these are the definitions to hold beside the page.
-- Assumes nothing.
use Rattle.std.specs.Prelude.{cond, List, [], ◌∷◌, ◌++◌, ℕ, zero, suc, ◌+◌, ◌/◌, ◌%◌, length, drop, ltb}
use Rattle.fields.specs.Numbers.{show_number}
use Rattle.lines.specs.Shown.{t_text, factor_text}
use Rattle.printing.specs.declared.Answer.{Answer}
use Rattle.printing.specs.declared.Answer.TheVariants.{Allowed, Rejected, Yes, No, Value, Held, Refused}
use Rattle.printing.specs.declared.AnswerLine.{AnswerLine}

--  code=
abbrev pub code_text : List ℕ
code_text = 32 ∷ 99 ∷ 111 ∷ 100 ∷ 101 ∷ 61 ∷ []

--  answer=
abbrev pub answer_name : List ℕ
answer_name = 32 ∷ 97 ∷ 110 ∷ 115 ∷ 119 ∷ 101 ∷ 114 ∷ 61 ∷ []

-- 01's six words, and `held`
abbrev pub word_text : Answer → List ℕ
word_text Allowed = 97 ∷ 108 ∷ 108 ∷ 111 ∷ 119 ∷ 101 ∷ 100 ∷ []
word_text Rejected = 114 ∷ 101 ∷ 106 ∷ 101 ∷ 99 ∷ 116 ∷ 101 ∷ 100 ∷ []
word_text Yes = 121 ∷ 101 ∷ 115 ∷ []
word_text No = 110 ∷ 111 ∷ []
word_text Value = 118 ∷ 97 ∷ 108 ∷ 117 ∷ 101 ∷ []
word_text Held = 104 ∷ 101 ∷ 108 ∷ 100 ∷ []
word_text Refused = 114 ∷ 101 ∷ 102 ∷ 117 ∷ 115 ∷ 101 ∷ 100 ∷ []

--  answer=allowed and so on
abbrev pub answer_text : Answer → List ℕ
answer_text word = answer_name ++ word_text word

--  wait=
abbrev pub wait_text : List ℕ
wait_text = 32 ∷ 119 ∷ 97 ∷ 105 ∷ 116 ∷ 61 ∷ []

--  left=
abbrev pub left_text : List ℕ
left_text = 32 ∷ 108 ∷ 101 ∷ 102 ∷ 116 ∷ 61 ∷ []

--  total=
abbrev pub total_text : List ℕ
total_text = 32 ∷ 116 ∷ 111 ∷ 116 ∷ 97 ∷ 108 ∷ 61 ∷ []

--  declined=
abbrev pub declined_text : List ℕ
declined_text = 32 ∷ 100 ∷ 101 ∷ 99 ∷ 108 ∷ 105 ∷ 110 ∷ 101 ∷ 100 ∷ 61 ∷ []

-- a hex digit: 0 to 9, a to f
unfoldable pub hex_digit : ℕ → ℕ
hex_digit d = cond (ltb d 10) (48 + d) (87 + d)

-- the k lowest hex digits of w, the largest first
unfoldable pub hex_digits : ℕ → ℕ → List ℕ
hex_digits zero w = []
hex_digits (suc k) w = hex_digits k (w / 16) ++ (hex_digit (w % 16) ∷ [])

-- 01: "`factor` as 16 hex digits of its bits"
abbrev pub show_hex16 : ℕ → List ℕ
show_hex16 w = hex_digits 16 w

-- a name and its number
abbrev pub show_field : List ℕ → ℕ → List ℕ
show_field text n = text ++ show_number n

-- t=1700 code=0 answer=no factor=3fe0000000000000
unfoldable pub show_verdict : ℕ → ℕ → Answer → ℕ → List ℕ
show_verdict t code answer factor =
    show_field t_text t ++ (show_field code_text code ++ (answer_text answer ++ (factor_text ++ show_hex16 factor)))

--  wait=0 left=0 total=15 declined=5
unfoldable pub show_counts : ℕ → ℕ → ℕ → ℕ → List ℕ
show_counts wait left total declined =
    show_field wait_text wait ++ (show_field left_text left ++ (show_field total_text total ++ show_field declined_text declined))

unfoldable pub show_answer : AnswerLine → List ℕ
show_answer l = show_verdict l.t l.code l.answer l.factor ++ show_counts l.wait l.left l.total l.declined

-- room enough for any line: 8 fields of at most 30 bytes
abbrev pub longest : ℕ
longest = 240

-- what printing leaves in the room `out`, and how long the line is; a room that is too short stays as it is
abbrev pub printed : AnswerLine → List ℕ → List ℕ
printed l out = cond (ltb (length out) longest) out (show_answer l ++ drop (length (show_answer l)) out)

abbrev pub printed_length : AnswerLine → List ℕ → ℕ
printed_length l out = cond (ltb (length out) longest) 0 (length (show_answer l))
