-- Reading and printing a line undo each other: a line is read exactly where an answer's line, with words of 64 bits, prints as it, and as that one.
-- Assumes nothing.
use Rattle.std.specs.Prelude.{◌≡◌, refl, false, List, ◌++◌, ℕ, ◌+◌, ◌≤◌, Option, Some, None, length, drop}
use Rattle.std.proofs.Common.{sym, ap, subst, ◌∙◌, append_assoc, arith, length-append}
use Rattle.fields.specs.Numbers.{show_number}
use Rattle.fields.specs.Parts.{begins, text_at, field_at, on_place}
use Rattle.fields.specs.Ranges.{largest}
use Rattle.lines.specs.Laws.{Spaced, spaced-stops, show_numbers, NumbersFit, ReadNumbers, numbers-read, numbers-shown}
use Rattle.lines.specs.ReadLaws.{Field, each_number, each-place, each-numbers, past-part, past-field, text-shown, text-read, field-shown, field-read}
use Rattle.lines.specs.Reading.{numbers_at}
use Rattle.lines.specs.Shown.{t_text, factor_text}
use Rattle.printing.specs.Answers.{code_text, answer_name, word_text, answer_text, wait_text, left_text, total_text, declined_text, show_hex16, show_verdict, show_counts, show_answer}
use Rattle.printing.specs.Printing.{hex-length}
use Rattle.printing.specs.declared.Answer.{Answer}
use Rattle.printing.specs.declared.Answer.TheVariants.{Allowed, Rejected, Yes, No, Value, Held, Refused}
use Rattle.printing.specs.declared.AnswerLine.{AnswerLine}
use Rattle.std.specs.Option.{option_or}
use Rattle.answer_lines.specs.Reading.{the_verdict, hex_length, hex_at, word_if, any_word, word_at, on_word, verdict_at, on_verdict, read_answer}
use Rattle.answer_lines.specs.declared.Verdict.{Verdict}
use Rattle.answer_lines.specs.Hex.{HexRead, hex-read, hex-shown}

-- ---- words

pub word-spaced : (a : Answer) → Spaced (answer_text a)
word-spaced Allowed = refl
word-spaced Rejected = refl
word-spaced Yes = refl
word-spaced No = refl
word-spaced Value = refl
word-spaced Held = refl
word-spaced Refused = refl

-- the first of the words that stands at `at`, as it is looked for
abbrev word_found : List ℕ → ℕ → Answer → Option (Answer × ℕ)
word_found line at a = word_if line at (word_text a) a None

pub any-or : (line : List ℕ) (at : ℕ) →
    option_or (option_or (option_or (option_or (option_or (option_or (word_found line at Allowed) (word_found line at Rejected)) (word_found line at Yes))
    (word_found line at No)) (word_found line at Value)) (word_found line at Held)) (word_found line at Refused) ≡ any_word line at
unfolding any_word word_if
any-or line at =
    go (text_at line at (word_text Allowed)) (text_at line at (word_text Rejected)) (text_at line at (word_text Yes)) (text_at line at (word_text No))
    (text_at line at (word_text Value)) (text_at line at (word_text Held)) (text_at line at (word_text Refused))
  where
    one : Option ℕ → Answer → Option (Answer × ℕ) → Option (Answer × ℕ)
    one m a other = on_place m other (λ next. Some (a, next))

    go : (p q r s t u v : Option ℕ) →
        option_or (option_or (option_or (option_or (option_or (option_or (one p Allowed None) (one q Rejected None)) (one r Yes None)) (one s No None))
        (one t Value None)) (one u Held None)) (one v Refused None) ≡
        one p Allowed (one q Rejected (one r Yes (one s No (one t Value (one u Held (one v Refused None))))))
    go (Some k) q r s t u v = refl
    go None (Some k) r s t u v = refl
    go None None (Some k) s t u v = refl
    go None None None (Some k) t u v = refl
    go None None None None (Some k) u v = refl
    go None None None None None (Some k) v = refl
    go None None None None None None v = refl

any-shown : (line rest : List ℕ) (at : ℕ) (a : Answer) → drop at line ≡ word_text a ++ rest → any_word line at ≡ Some (a, at + length (word_text a))
unfolding any_word word_if text_at begins
any-shown line rest at Allowed e = rw e
any-shown line rest at Rejected e = rw e
any-shown line rest at Yes e = rw e
any-shown line rest at No e = rw e
any-shown line rest at Value e = rw e
any-shown line rest at Held e = rw e
any-shown line rest at Refused e = rw e

word-shown : (line rest : List ℕ) (at : ℕ) (a : Answer) → drop at line ≡ answer_text a ++ rest → word_at line at ≡ Some (a, at + length (answer_text a))
unfolding word_at
word-shown line rest at a e =
    let named : drop at line ≡ answer_name ++ (word_text a ++ rest) = e ∙ append_assoc answer_name (word_text a) rest in
    let past : drop (at + length answer_name) line ≡ word_text a ++ rest = past-part line answer_name (word_text a ++ rest) at named in
    let long : at + length answer_name + length (word_text a) ≡ at + length (answer_text a) = simp length-append (omega arith) in
    rw (text-shown line answer_name (word_text a ++ rest) at named) (any-shown line rest (at + length answer_name) a past ∙ ap (λ (n : ℕ). Some (a, n)) long)

abbrev WordRead : List ℕ → ℕ → Option (Answer × ℕ) → Type 0
WordRead line at (Some p) = (p.1 ≡ at + length (word_text p.0)) × (drop at line ≡ word_text p.0 ++ drop p.1 line)
WordRead line at None = Unit {0}

word-if : (line : List ℕ) (at : ℕ) (a : Answer) (other : Option (Answer × ℕ)) → WordRead line at other → WordRead line at (word_if line at (word_text a) a other)
unfolding word_if
word-if line at a other h = go (text_at line at (word_text a)) refl
  where
    go : (m : Option ℕ) → text_at line at (word_text a) ≡ m → WordRead line at (on_place m other (λ next. Some (a, next)))
    go (Some k) q = text-read line (word_text a) at k q
    go None q = h

any-read : (line : List ℕ) (at : ℕ) (a : Answer) (next : ℕ) → any_word line at ≡ Some (a, next) →
    (next ≡ at + length (word_text a)) × (drop at line ≡ word_text a ++ drop next line)
unfolding any_word
any-read line at a next e =
    subst (λ (m : Option (Answer × ℕ)). WordRead line at m) e
    (word-if line at Allowed _ (word-if line at Rejected _ (word-if line at Yes _ (word-if line at No _
    (word-if line at Value _ (word-if line at Held _ (word-if line at Refused None tt)))))))

word_read : (line : List ℕ) (at : ℕ) (a : Answer) (next : ℕ) → word_at line at ≡ Some (a, next) → drop at line ≡ answer_text a ++ drop next line
unfolding word_at
word_read line at a next e = go (text_at line at answer_name) refl e
  where
    go : (m : Option ℕ) → text_at line at answer_name ≡ m → on_place m None (λ k. any_word line k) ≡ Some (a, next) →
        drop at line ≡ answer_text a ++ drop next line
    go (Some k) q f =
        (text-read line answer_name at k q).1 ∙ ap (λ (x : List ℕ). answer_name ++ x) (any-read line k a next f).1 ∙
        sym (append_assoc answer_name (word_text a) (drop next line))
    go None q f = absurd (let z : ◌≡◌ {A = ℕ} 0 1 = cc in omega arith)

each_word : {A : Type 0} (P : A → Type 0) (m : Option (Answer × ℕ)) (bad : A) (k : Answer → ℕ → A) → P bad → ((a : Answer) (n : ℕ) → m ≡ Some (a, n) → P (k a n)) →
    P (on_word m bad k)
each_word P (Some p) bad k b f = f p.0 p.1 refl
each_word P None bad k b f = b

each-verdict : {A : Type 0} (P : A → Type 0) (m : Option Verdict) (bad : A) (k : ℕ → ℕ → Answer → ℕ → ℕ → A) → P bad →
    ((t code : ℕ) (a : Answer) (factor n : ℕ) → m ≡ Some (the_verdict t code a factor n) → P (k t code a factor n)) → P (on_verdict m bad k)
each-verdict P (Some v) bad k b f = f v.t v.code v.answer v.factor v.next refl
each-verdict P None bad k b f = b

-- ---- the first four fields, with what comes behind them

abbrev verdict_then : ℕ → ℕ → Answer → ℕ → List ℕ → List ℕ
verdict_then t code a factor rest =
    t_text ++ (show_number t ++ (code_text ++ (show_number code ++ (answer_text a ++ (factor_text ++ (show_hex16 factor ++ rest))))))

field-then : (text : List ℕ) (n : ℕ) (rest : List ℕ) → (text ++ show_number n) ++ rest ≡ text ++ (show_number n ++ rest)
field-then text n rest = append_assoc text (show_number n) rest

verdict-then : (t code : ℕ) (a : Answer) (factor : ℕ) (rest : List ℕ) → show_verdict t code a factor ++ rest ≡ verdict_then t code a factor rest
unfolding show_verdict
verdict-then t code a factor rest =
    let behind = answer_text a ++ (factor_text ++ show_hex16 factor) in
    let coded = (code_text ++ show_number code) ++ behind in
    append_assoc (t_text ++ show_number t) coded rest ∙ field-then t_text t (coded ++ rest) ∙
    ap (λ (x : List ℕ). t_text ++ (show_number t ++ x))
    (append_assoc (code_text ++ show_number code) behind rest ∙ field-then code_text code (behind ++ rest) ∙
    ap (λ (x : List ℕ). code_text ++ (show_number code ++ x))
    (append_assoc (answer_text a) (factor_text ++ show_hex16 factor) rest ∙
    ap (λ (x : List ℕ). answer_text a ++ x) (append_assoc factor_text (show_hex16 factor) rest)))

pub record VerdictFits (t code factor : ℕ) : Type 0 where
  pub times : t ≤ largest
  pub codes : code ≤ largest
  pub factors : factor ≤ largest

record ReadVerdict (line : List ℕ) (t code : ℕ) (a : Answer) (factor next : ℕ) : Type 0 where
  fits : VerdictFits t code factor
  shows : line ≡ verdict_then t code a factor (drop next line)

abbrev VerdictRead : List ℕ → Option Verdict → Type 0
VerdictRead line (Some v) = ReadVerdict line v.t v.code v.answer v.factor v.next
VerdictRead line None = Unit {0}

verdict-joined : (line : List ℕ) (t code : ℕ) (w : Answer) (factor a b c d next : ℕ) → Field line 0 t_text t a → Field line a code_text code b →
    drop b line ≡ answer_text w ++ drop c line → (d ≡ c + length factor_text) × (drop c line ≡ factor_text ++ drop d line) → HexRead line d factor next → ReadVerdict line t code w factor next
verdict-joined line t code w factor a b c d next p q r s h = record {
  fits = record { times = p.fits; codes = q.fits; factors = h.fits };
  shows = p.shows ∙ ap (λ (m : List ℕ). t_text ++ (show_number t ++ m))
      (q.shows ∙ ap (λ (m : List ℕ). code_text ++ (show_number code ++ m))
      (r ∙ ap (λ (m : List ℕ). answer_text w ++ m) (s.1 ∙ ap (λ (m : List ℕ). factor_text ++ m) h.shows)));
}

verdict-found : (line : List ℕ) → VerdictRead line (verdict_at line)
unfolding verdict_at
verdict-found line =
    each_number (VerdictRead line) (field_at line 0 t_text) None _ tt
    (λ t a p.
    each_number (VerdictRead line) (field_at line a code_text) None _ tt
    (λ code b q.
    each_word (VerdictRead line) (word_at line b) None _ tt
    (λ w c r.
    each-place (VerdictRead line) (text_at line c factor_text) None _ tt
    (λ d s.
    each_number (VerdictRead line) (hex_at line d) None _ tt
    (λ factor next h.
    verdict-joined line t code w factor a b c d next (field-read line t_text 0 t a p) (field-read line code_text a code b q) (word_read line b w c r)
    (text-read line factor_text c d s) (hex-read line d factor next h))))))

verdict-read : (line : List ℕ) (t code : ℕ) (a : Answer) (factor next : ℕ) → verdict_at line ≡ Some (the_verdict t code a factor next) →
    ReadVerdict line t code a factor next
verdict-read line t code a factor next e = subst (VerdictRead line) e (verdict-found line)

-- where the four fields end
abbrev past_verdict : ℕ → ℕ → Answer → ℕ
past_verdict t code w =
    0 + length t_text + length (show_number t) + length code_text + length (show_number code) + length (answer_text w) + length factor_text + hex_length

record Behind (line : List ℕ) (t code : ℕ) (w : Answer) (factor : ℕ) (rest : List ℕ) : Type 0 where
  is : verdict_at line ≡ Some (the_verdict t code w factor (past_verdict t code w))
  left : drop (past_verdict t code w) line ≡ rest

verdict-shown : (line : List ℕ) (t code : ℕ) (w : Answer) (factor : ℕ) (rest : List ℕ) → VerdictFits t code factor → line ≡ verdict_then t code w factor rest →
    Behind line t code w factor rest
unfolding verdict_at
verdict-shown line t code w factor rest f e =
    let r₄ : List ℕ = show_hex16 factor ++ rest in
    let r₃ : List ℕ = factor_text ++ r₄ in
    let r₂ : List ℕ = answer_text w ++ r₃ in
    let r₁ : List ℕ = code_text ++ (show_number code ++ r₂) in
    let a : ℕ = 0 + length t_text + length (show_number t) in
    let b : ℕ = a + length code_text + length (show_number code) in
    let c : ℕ = b + length (answer_text w) in
    let d : ℕ = c + length factor_text in
    let p : drop a line ≡ r₁ = past-field line t_text r₁ 0 t e in
    let q : drop b line ≡ r₂ = past-field line code_text r₂ a code p in
    let r : drop c line ≡ r₃ = past-part line (answer_text w) r₃ b q in
    let s : drop d line ≡ r₄ = past-part line factor_text r₄ c r in
    let l : d + length (show_hex16 factor) ≡ d + hex_length = ap (λ (n : ℕ). d + n) (hex-length 16 factor) in
    record {
      is = rw (
        field-shown line t_text r₁ 0 t e f.times (spaced-stops false code_text (show_number code ++ r₂) refl),
        field-shown line code_text r₂ a code p f.codes (spaced-stops false (answer_text w) r₃ (word-spaced w)),
        word-shown line r₃ b w q,
        text-shown line factor_text r₄ c r,
        hex-shown line rest d factor f.factors s,
      );
      left = ap (λ (n : ℕ). drop n line) (sym l) ∙ past-part line (show_hex16 factor) rest d s;
    }

-- ---- a line

-- every number is a u64
pub record AnswerFits (l : AnswerLine) : Type 0 where
  pub verdicts : VerdictFits l.t l.code l.factor
  pub waits : l.wait ≤ largest
  pub counts : NumbersFit l.left l.total l.declined

abbrev counts_then : ℕ → ℕ → ℕ → ℕ → List ℕ
counts_then wait left total declined = wait_text ++ (show_number wait ++ show_numbers left_text left total_text total declined_text declined)

counts-then : (wait left total declined : ℕ) → show_counts wait left total declined ≡ counts_then wait left total declined
unfolding show_counts
counts-then wait left total declined =
    let last = declined_text ++ show_number declined in
    let totals = (total_text ++ show_number total) ++ last in
    let lefts = (left_text ++ show_number left) ++ totals in
    field-then wait_text wait lefts ∙
    ap (λ (x : List ℕ). wait_text ++ (show_number wait ++ x))
    (field-then left_text left totals ∙ ap (λ (x : List ℕ). left_text ++ (show_number left ++ x)) (field-then total_text total last))

answer-then : (l : AnswerLine) →
    show_answer l ≡ verdict_then l.t l.code l.answer l.factor (counts_then l.wait l.left l.total l.declined)
unfolding show_answer
answer-then l =
    ap (λ (x : List ℕ). show_verdict l.t l.code l.answer l.factor ++ x) (counts-then l.wait l.left l.total l.declined) ∙
    verdict-then l.t l.code l.answer l.factor (counts_then l.wait l.left l.total l.declined)

pub record ReadLine (line : List ℕ) (l : AnswerLine) : Type 0 where
  pub fits : AnswerFits l
  pub shows : line ≡ show_answer l

-- what is found in a line
abbrev pub PrintedRead : List ℕ → Option AnswerLine → Type 0
PrintedRead line (Some l) = ReadLine line l
PrintedRead line None = Unit {0}

module _ (line : List ℕ) (t code : ℕ) (w : Answer) (factor wait left total declined next a : ℕ) where
  abbrev whole : AnswerLine
  whole = record { t = t; code = code; answer = w; factor = factor; wait = wait; left = left; total = total; declined = declined }

  answer-joined : ReadVerdict line t code w factor next → Field line next wait_text wait a →
      ReadNumbers line a left_text total_text declined_text left total declined → ReadLine line whole
  answer-joined p q n = record {
    fits = record { verdicts = p.fits; waits = q.fits; counts = n.fits };
    shows = p.shows ∙ ap (λ (m : List ℕ). verdict_then t code w factor m)
        (q.shows ∙ ap (λ (m : List ℕ). wait_text ++ (show_number wait ++ m)) n.shows) ∙ sym (answer-then whole);
  }

-- what is read was printed
pub answer-read : (line : List ℕ) → PrintedRead line (read_answer line)
unfolding read_answer
answer-read line =
    each-verdict (PrintedRead line) (verdict_at line) None _ tt
    (λ t code w factor next p.
    each_number (PrintedRead line) (field_at line next wait_text) None _ tt
    (λ wait a q.
    each-numbers (PrintedRead line) (numbers_at line a left_text total_text declined_text) None _ tt
    (λ left total declined n.
    answer-joined line t code w factor wait left total declined next a (verdict-read line t code w factor next p) (field-read line wait_text next wait a q)
    (numbers-read line left_text total_text declined_text a left total declined n))))

-- what is printed is read
pub answer-shown : (line : List ℕ) (l : AnswerLine) → AnswerFits l → line ≡ show_answer l → read_answer line ≡ Some l
unfolding read_answer
answer-shown line l f e =
    let rest : List ℕ = counts_then l.wait l.left l.total l.declined in
    let totals : List ℕ = total_text ++ (show_number l.total ++ (declined_text ++ show_number l.declined)) in
    let numbers : List ℕ = show_numbers left_text l.left total_text l.total declined_text l.declined in
    let v = verdict-shown line l.t l.code l.answer l.factor rest f.verdicts (e ∙ answer-then l) in
    let b : ℕ = past_verdict l.t l.code l.answer in
    rw (
      v.is,
      field-shown line wait_text numbers b l.wait v.left f.waits (spaced-stops false left_text (show_number l.left ++ totals) refl),
      numbers-shown line left_text total_text declined_text (b + length wait_text + length (show_number l.wait)) l.left l.total l.declined refl refl
          f.counts (past-field line wait_text numbers b l.wait v.left),
    )
