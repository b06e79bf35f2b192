-- What `desk` or `shots` prints for a whole input: its lines are cut at newlines, "the last newline may be missing", and each line's turn follows the one
-- before. Feeding the bytes, in blocks cut anywhere, and finishing prints just that, however long a line is.
-- Assumes nothing.
use Rattle.std.specs.Prelude.{◌≡◌, refl, Bool, true, false, not, ◌&&◌, cond, List, [], ◌∷◌, ◌++◌, ℕ, ◌+◌, ◌≤◌, ◌<◌, min, length, take, set, ltb, eqb, Option, Some, None, Result, Ok, Err}
use Rattle.std.proofs.Common.{sym, ap, ◌∙◌, append_assoc, append-nil, add-one, arith, length-append, length-set, length-take-le, take_all, take-suc-set, lt-ltb, le-ltb, eq-eqb, ne_eqb}
use Rattle.std.proofs.lemmas.Bool.{false≢true}
use Rattle.std.proofs.Math.Decide.{dec_lt}
use Rattle.std.proofs.Math.Seq.{take-nil, set_out}
use Rattle.std.proofs.lemmas.List.{take-append-le}
use Rattle.common.specs.Refusals.{refusal}
use Rattle.common.specs.declared.refusal.Refusal.{Refusal}
use Rattle.settings.specs.declared.Settings.{Settings}
use Rattle.fields.specs.Bytes.{counts, digit-range}
use Rattle.fields.specs.Numbers.{Each, show_number, each_append, show-digits, show-short}
use Rattle.lines.specs.ReadLaws.{both}
use Rattle.lines.specs.Shown.{window_text, bucket_text, factor_text, cache_text, op_text, show_call, show_settings, CallFits, SettingsFit}
use Rattle.lines.specs.Laws.{key_in, CallRead, SettingsRead, call-read, settings-read}
use Rattle.lines.specs.Reading.{read_call, read_settings}
use Rattle.fields.specs.Parts.{begins, text_at, field_at}
use Rattle.lines.specs.declared.CallLine.{CallLine}
use Rattle.lines.specs.declared.Op.{Op}
use Rattle.lines.specs.declared.Op.TheVariants.{AbsoluteInc, AbsoluteGet, SuppressedInc, SuppressedGet}
use Rattle.lines.specs.declared.SettingsLine.{SettingsLine}
use Rattle.shot_lines.specs.Reading.{read_shot}
use Rattle.shot_lines.specs.Laws.{shot-bad}
use Rattle.desk_lines.specs.Step.{bad_step}
use Rattle.desk_step.specs.Desk as Calls
use Rattle.desk_step.specs.Desk.{opening_of}
use Rattle.shots_step.specs.Shots as Shot
use Rattle.told.specs.Told.{bad_line, refused_line}
use Rattle.desk_turn.specs.declared.Program.{Program}
use Rattle.desk_turn.specs.declared.Program.TheVariants.{Desk, Shots}
use Rattle.desk_turn.specs.declared.Phase.{Phase}
use Rattle.desk_turn.specs.declared.Phase.TheVariants.{Waiting, Open, Ended}
use Rattle.desk_feed.specs.Feed.{Whole, whole, fresh, After, after_line, byte_as, byte, feed, is_over, finishing, running}
use Rattle.desk_feed.specs.Clauses.{new_first, new_second}
use Rattle.desk_turn.specs.Lines.{newline, roomy, shown, Effect, phase_in, prints_in, stepped_by, called, turn}

-- ---- the definition

-- the lines of calls or of shots: acc is what was read of the line so far
unfoldable pub call_lines : List ℕ → List ℕ → List (List ℕ)
call_lines acc [] = cond (eqb (length acc) 0) [] (acc ∷ [])
call_lines acc (b ∷ bs) = cond (eqb b newline) (acc ∷ call_lines [] bs) (call_lines (acc ++ (b ∷ [])) bs)

-- all lines: the first is always there, and where it is missing it is empty
unfoldable pub input_lines : List ℕ → List ℕ → List (List ℕ)
input_lines acc [] = acc ∷ []
input_lines acc (b ∷ bs) = cond (eqb b newline) (acc ∷ call_lines [] bs) (input_lines (acc ++ (b ∷ [])) bs)

-- what lines print, one after the other
unfoldable pub turns : Phase → List ℕ → List ℕ → List (List ℕ) → List ℕ
turns p a b [] = []
turns p a b (l ∷ ls) = (turn p a b l).prints ++ turns (turn p a b l).phase (turn p a b l).first (turn p a b l).second ls

-- ---- a line that is longer than any that is read is bad, and so is its start

-- no line that is read is longer
abbrev pub longest_read : ℕ
longest_read = 142

op-long : (op : Op) → length (op_text op) ≡ 8
op-long AbsoluteInc = refl
op-long AbsoluteGet = refl
op-long SuppressedInc = refl
op-long SuppressedGet = refl

call-short : (t : ℕ) (op : Op) (key : List ℕ) (rate n draw : ℕ) → CallFits t key rate n draw → length (show_call t op key rate n draw) ≤ longest_read
unfolding show_call
call-short t op key rate n draw f =
    simp length-append (omega (
      arith,
      op-long op,
      show-short t f.times,
      show-short rate (omega (arith, f.rates)),
      show-short n f.counts,
      show-short draw f.draws,
      f.keys.short,
    ))

settings-short : (window bucket factor cache : ℕ) → SettingsFit window bucket factor cache → length (show_settings window bucket factor cache) ≤ longest_read
unfolding show_settings
settings-short window bucket factor cache f =
    simp length-append (omega (
      arith,
      show-short window f.windows,
      show-short bucket f.buckets,
      show-short factor (omega (arith, f.factors)),
      show-short cache f.caches,
    ))

pub call-bad : (line : List ℕ) → longest_read < length line → read_call line ≡ None
call-bad line h = go (read_call line) (call-read line)
  where
    go : (c : Option CallLine) → CallRead line c → c ≡ None
    go None p = refl
    go (Some l) p =
        let e = ap length p.shows in
        let k = call-short l.t l.op (key_in line l.start l.end) l.rate l.n l.draw p.fits in
        absurd (omega (arith, e, k))

pub settings-bad : (line : List ℕ) → longest_read < length line → read_settings line ≡ None
settings-bad line h = go (read_settings line) (settings-read line)
  where
    go : (c : Option SettingsLine) → SettingsRead line c → c ≡ None
    go None p = refl
    go (Some l) p =
        let e = ap length p.shows in
        let k = settings-short l.window l.bucket l.factor l.cache p.fits in
        absurd (omega (arith, e, k))

long-bad : (g : Program) (s : Settings) (a b line : List ℕ) → longest_read < length line → stepped_by g s a b line ≡ bad_step a b
unfolding stepped_by Calls.stepped Shot.stepped
long-bad Desk s a b line h = rw (call-bad line h)
long-bad Shots s a b line h = rw (shot-bad line (omega arith))

-- so the first bytes of a line say what the line says, where they are more than that
turn-bad : (p : Phase) (a b k l : List ℕ) → longest_read < length k → longest_read < length l → turn p a b k ≡ turn p a b l
unfolding turn opening_of
turn-bad (Waiting g) a b k l h n = rw (settings-bad k h, settings-bad l n)
turn-bad (Open g s) a b k l h n = ap (called g s) (long-bad g s a b k h ∙ sym (long-bad g s a b l n))
turn-bad Ended a b k l h n = refl

pub turn-cut : (p : Phase) (a b line : List ℕ) (n : ℕ) → longest_read < n → turn p a b (take n line) ≡ turn p a b line
turn-cut p a b line n h = go (dec_lt n (length line))
  where
    go : Dec (n < length line) → turn p a b (take n line) ≡ turn p a b line
    go (yes q) =
        let e : length (take n line) ≡ n = length-take-le n line (omega arith) in
        turn-bad p a b (take n line) line (omega (arith, e)) (omega arith)
    go (no q) = ap (turn p a b) (take_all n line (omega arith))

-- ---- what is held of a line: all of it, or as much as there is room for

pub record Holds (n : ℕ) (h acc : List ℕ) : Type 0 where
  pub held : n ≡ min (length acc) (length h)
  pub line : take n h ≡ take (length h) acc

holds-none : (h : List ℕ) → Holds 0 h []
holds-none h = record { held = omega arith; line = sym (take-nil (length h)) }

keep-room : (n : ℕ) (h acc : List ℕ) (x : ℕ) → Holds n h acc → n < length h → Holds (n + 1) (set h n x) (acc ++ (x ∷ []))
keep-room n h acc x o k =
    let e : length (set h n x) ≡ length h = length-set h n x in
    let f : length (acc ++ (x ∷ [])) ≡ length acc + 1 = length-append acc (x ∷ []) in
    let g : length acc ≤ length h = omega (arith, o.held) in
    let i : length (acc ++ (x ∷ [])) ≤ length (set h n x) = omega (arith, o.held, e, f) in
    record {
      held = omega (arith, o.held, e, f);
      line =
          ap (λ (j : ℕ). take j (set h n x)) (add-one n) ∙ take-suc-set h n x k ∙
          ap (λ (y : List ℕ). y ++ (x ∷ [])) (o.line ∙ take_all (length h) acc g) ∙ sym (take_all (length (set h n x)) (acc ++ (x ∷ [])) i);
    }

keep-full : (n : ℕ) (h acc : List ℕ) (x : ℕ) → Holds n h acc → length h ≤ n → Holds n (set h n x) (acc ++ (x ∷ []))
keep-full n h acc x o k =
    let f : length (acc ++ (x ∷ [])) ≡ length acc + 1 = length-append acc (x ∷ []) in
    rw (set_out h n x k)
    (record { held = omega (arith, o.held, f); line = o.line ∙ sym (take-append-le (length h) acc (x ∷ []) (omega (arith, o.held))) })

keep-holds : (n : ℕ) (h acc : List ℕ) (x : ℕ) → Holds n h acc → Holds (cond (ltb n (length h)) (n + 1) n) (set h n x) (acc ++ (x ∷ []))
keep-holds n h acc x o = go (dec_lt n (length h))
  where
    go : Dec (n < length h) → Holds (cond (ltb n (length h)) (n + 1) n) (set h n x) (acc ++ (x ∷ []))
    go (yes k) = rw (lt-ltb n (length h) k) (keep-room n h acc x o k)
    go (no k) = let l : length h ≤ n = omega arith in rw (le-ltb n (length h) l) (keep-full n h acc x o l)

held-turn : (p : Phase) (a b h acc : List ℕ) (n : ℕ) → longest_read < length h → Holds n h acc → turn p a b (take n h) ≡ turn p a b acc
held-turn p a b h acc n g o = ap (turn p a b) o.line ∙ turn-cut p a b acc (length h) g

-- ---- the run

abbrev desk : Phase → ℕ → List ℕ → List ℕ → List ℕ → Whole
desk p n a b h = whole (record { phase = p; held = n }) a b h

-- everything that is printed from w on: l bytes may be put at the end
abbrev pub run_out : Whole → List ℕ → ℕ → List ℕ
run_out w xs l = (running l w xs).prints

abbrev run_from : After → List ℕ → ℕ → List ℕ
run_from f xs l = (f.prints ++ (feed f.whole xs).prints) ++ (finishing l (feed f.whole xs).whole).prints

-- the settings were read
abbrev Settled : Phase → Type 0
Settled (Waiting g) = ⊥
Settled (Open g s) = Unit {0}
Settled Ended = Unit {0}

settled-in : (g : Program) (o : Result Settings Refusal) → Settled (phase_in g o)
settled-in g (Ok s) = tt
settled-in g (Err e) = tt

settled-turn : (p : Phase) (a b l : List ℕ) → Settled (turn p a b l).phase
unfolding turn
settled-turn (Waiting g) a b l = settled-in g (opening_of l)
settled-turn (Open g s) a b l = tt
settled-turn Ended a b l = tt

abbrev CallsRun : List ℕ → Type 0
CallsRun xs =
    (p : Phase) (a b h acc : List ℕ) (n l : ℕ) → Settled p → longest_read < length h → roomy ≤ l → Holds n h acc →
    run_out (desk p n a b h) xs l ≡ turns p a b (call_lines acc xs)

-- a newline: the line's turn, and then the rest
line_step : (xs : List ℕ) → CallsRun xs → (p : Phase) (a b h acc : List ℕ) (n l : ℕ) → longest_read < length h → roomy ≤ l → Holds n h acc →
    run_from (after_line (turn p a b (take n h)) h) xs l ≡ turns p a b (acc ∷ call_lines [] xs)
unfolding turns
line_step xs ih p a b h acc n l g m o =
    let e : Effect = turn p a b acc in
    let f : After = feed (after_line e h).whole xs in
    ap (λ (v : Effect). run_from (after_line v h) xs l) (held-turn p a b h acc n g o) ∙ append_assoc e.prints f.prints (finishing l f.whole).prints ∙
    ap (λ (y : List ℕ). e.prints ++ y) (ih e.phase e.first e.second h [] 0 l (settled-turn p a b acc) g m (holds-none h))

calls-step : (x : ℕ) (xs : List ℕ) → CallsRun xs → CallsRun (x ∷ xs)
unfolding feed byte call_lines
calls-step x xs ih p a b h acc n l s g m o = go (eqb x newline)
  where
    go : (t : Bool) → run_from (byte_as t (desk p n a b h) x) xs l ≡ turns p a b (cond t (acc ∷ call_lines [] xs) (call_lines (acc ++ (x ∷ [])) xs))
    go true = line_step xs ih p a b h acc n l g m o
    go false = ih p a b (set h n x) (acc ++ (x ∷ [])) (cond (ltb n (length h)) (n + 1) n) l s (omega (arith, length-set h n x)) m (keep-holds n h acc x o)

-- the end ends a line that is held
ended-over : (n : ℕ) → is_over (record { phase = Ended; held = n }) ≡ true
unfolding is_over
ended-over n = refl

waiting-over : (g : Program) (n : ℕ) → is_over (record { phase = Waiting g; held = n }) ≡ false
unfolding is_over
waiting-over g n = refl

finish-idle : (p : Phase) (a b h : List ℕ) (n l : ℕ) → roomy ≤ l → is_over (record { phase = p; held = n }) ≡ true → (finishing l (desk p n a b h)).prints ≡ []
unfolding finishing
finish-idle p a b h n l m e = rw (le-ltb l roomy m, e)

finish-line : (p : Phase) (a b h : List ℕ) (n l : ℕ) → roomy ≤ l → is_over (record { phase = p; held = n }) ≡ false →
    (finishing l (desk p n a b h)).prints ≡ (turn p a b (take n h)).prints
unfolding finishing
finish-line p a b h n l m e = rw (le-ltb l roomy m, e)

last_line : (p : Phase) (a b h acc : List ℕ) (n l : ℕ) → longest_read < length h → roomy ≤ l → Holds n h acc → is_over (record { phase = p; held = n }) ≡ false →
    (finishing l (desk p n a b h)).prints ≡ turns p a b (acc ∷ [])
unfolding turns
last_line p a b h acc n l g m o e =
    finish-line p a b h n l m e ∙ ap (λ (y : Effect). y.prints) (held-turn p a b h acc n g o) ∙ sym (append-nil (turn p a b acc).prints)

open-end : (g : Program) (s : Settings) (a b h acc : List ℕ) (n l : ℕ) → longest_read < length h → roomy ≤ l → Holds n h acc →
    (finishing l (desk (Open g s) n a b h)).prints ≡ turns (Open g s) a b (call_lines acc [])
unfolding call_lines is_over turns
open-end g s a b h acc n l k m o = go (dec_lt 0 (length acc))
  where
    go : Dec (0 < length acc) → (finishing l (desk (Open g s) n a b h)).prints ≡ turns (Open g s) a b (cond (eqb (length acc) 0) [] (acc ∷ []))
    go (yes q) =
        let z : n ≡ 0 → ⊥ = λ e. omega (arith, o.held, e) in
        let y : length acc ≡ 0 → ⊥ = λ e. omega (arith, e) in
        rw (ne_eqb (length acc) 0 y) (last_line (Open g s) a b h acc n l k m o (ne_eqb n 0 z))
    go (no q) =
        let y : length acc ≡ 0 = omega arith in
        let z : n ≡ 0 = omega (arith, o.held) in
        rw (eq-eqb (length acc) 0 y) (finish-idle (Open g s) a b h n l m (eq-eqb n 0 z))

ended-lines : (a b acc : List ℕ) → [] ≡ turns Ended a b (call_lines acc [])
unfolding call_lines turns turn
ended-lines a b acc = go (eqb (length acc) 0)
  where
    go : (t : Bool) → [] ≡ turns Ended a b (cond t [] (acc ∷ []))
    go true = refl
    go false = refl

calls-end : CallsRun []
unfolding feed
calls-end (Waiting g) a b h acc n l s k m o = absurd s
calls-end (Open g s') a b h acc n l s k m o = open-end g s' a b h acc n l k m o
calls-end Ended a b h acc n l s g m o = finish-idle Ended a b h n l m (ended-over n) ∙ ended-lines a b acc

calls-run : (xs : List ℕ) → CallsRun xs
calls-run [] = calls-end
calls-run (x ∷ xs) = calls-step x xs (calls-run xs)

abbrev FirstRun : Program → List ℕ → Type 0
FirstRun g xs = (a b h acc : List ℕ) (n l : ℕ) → longest_read < length h → roomy ≤ l → Holds n h acc →
    run_out (desk (Waiting g) n a b h) xs l ≡ turns (Waiting g) a b (input_lines acc xs)

first_step : (g : Program) (x : ℕ) (xs : List ℕ) → FirstRun g xs → FirstRun g (x ∷ xs)
unfolding feed byte input_lines
first_step g x xs ih a b h acc n l k m o = go (eqb x newline)
  where
    go : (t : Bool) → run_from (byte_as t (desk (Waiting g) n a b h) x) xs l ≡
        turns (Waiting g) a b (cond t (acc ∷ call_lines [] xs) (input_lines (acc ++ (x ∷ [])) xs))
    go true = line_step xs (calls-run xs) (Waiting g) a b h acc n l k m o
    go false = ih a b (set h n x) (acc ++ (x ∷ [])) (cond (ltb n (length h)) (n + 1) n) l (omega (arith, length-set h n x)) m (keep-holds n h acc x o)

first-end : (g : Program) → FirstRun g []
unfolding feed input_lines
first-end g a b h acc n l k m o = last_line (Waiting g) a b h acc n l k m o (waiting-over g n)

first_run : (g : Program) (xs : List ℕ) → FirstRun g xs
first_run g [] = first-end g
first_run g (x ∷ xs) = first_step g x xs (first_run g xs)

-- ---- the whole input

-- all that a fresh program prints is what the input's lines print, in their order: a room h for a line that is longer than any that is read is enough
pub whole-input : (g : Program) (a b h xs : List ℕ) (l : ℕ) → longest_read < length h → roomy ≤ l →
    run_out (whole (fresh g) a b h) xs l ≡ turns (Waiting g) a b (input_lines [] xs)
whole-input g a b h xs l k m = first_run g xs a b h [] 0 l k m (holds-none h)

-- all that a program prints for the input xs, at the memories that it makes, with 65,536 bytes to put lines: `desk_run`'s contracts speak of this run
abbrev pub printed : Program → List ℕ → List ℕ → List ℕ
printed g h xs = (running 65536 (whole (fresh g) (new_first g) (new_second g) h) xs).prints

-- so it is what the input's lines print, for every input, with 200 bytes to hold a line
pub program-prints : (g : Program) (h xs : List ℕ) → length h ≡ 200 → printed g h xs ≡ turns (Waiting g) (new_first g) (new_second g) (input_lines [] xs)
program-prints g h xs e = whole-input g (new_first g) (new_second g) h xs 65536 (omega arith) (omega arith)

-- ---- the first line

-- a byte that ends no line
abbrev pub in_line : ℕ → Bool
in_line b = not (eqb b newline)

abbrev pub all_in_line : List ℕ → Bool
all_in_line [] = true
all_in_line (b ∷ bs) = in_line b && all_in_line bs

pub text_in-line : (bs : List ℕ) → all_in_line bs ≡ true → Each in_line bs
text_in-line [] e = tt
text_in-line (b ∷ bs) e = let x = both (in_line b) (all_in_line bs) e in (x.0, text_in-line bs x.1)

pub digits-in-line : (bs : List ℕ) → Each (counts false) bs → Each in_line bs
digits-in-line [] p = tt
digits-in-line (b ∷ bs) p =
    let low : 48 ≤ b = (digit-range b p.0).0 in
    (ap not (ne_eqb b newline (λ e. omega arith)), digits-in-line bs p.1)

field-in-line : (text : List ℕ) (n : ℕ) (rest : List ℕ) → all_in_line text ≡ true → Each in_line rest → Each in_line (text ++ (show_number n ++ rest))
field-in-line text n rest e r =
    each_append in_line text (show_number n ++ rest) (text_in-line text e)
    (each_append in_line (show_number n) rest (digits-in-line (show_number n) (show-digits false n)) r)

first-line : (acc text rest : List ℕ) → Each in_line text → input_lines acc (text ++ (newline ∷ rest)) ≡ (acc ++ text) ∷ call_lines [] rest
unfolding input_lines
first-line acc [] rest p = ap (λ (l : List ℕ). l ∷ call_lines [] rest) (sym (append-nil acc))
first-line acc (b ∷ bs) rest p =
    go (eqb b newline) p.0
    (first-line (acc ++ (b ∷ [])) bs rest p.1 ∙ ap (λ (l : List ℕ). l ∷ call_lines [] rest) (append_assoc acc (b ∷ []) bs))
  where
    go : (t : Bool) → not t ≡ true → input_lines (acc ++ (b ∷ [])) (bs ++ (newline ∷ rest)) ≡ (acc ++ (b ∷ bs)) ∷ call_lines [] rest →
        cond t (acc ∷ call_lines [] (bs ++ (newline ∷ rest))) (input_lines (acc ++ (b ∷ [])) (bs ++ (newline ∷ rest))) ≡ (acc ++ (b ∷ bs)) ∷ call_lines [] rest
    go true q e = absurd (false≢true q)
    go false q e = e

-- the same of a line behind the first
pub next-line : (acc text rest : List ℕ) → Each in_line text → call_lines acc (text ++ (newline ∷ rest)) ≡ (acc ++ text) ∷ call_lines [] rest
unfolding call_lines
next-line acc [] rest p = ap (λ (l : List ℕ). l ∷ call_lines [] rest) (sym (append-nil acc))
next-line acc (b ∷ bs) rest p =
    go (eqb b newline) p.0
    (next-line (acc ++ (b ∷ [])) bs rest p.1 ∙ ap (λ (l : List ℕ). l ∷ call_lines [] rest) (append_assoc acc (b ∷ []) bs))
  where
    go : (t : Bool) → not t ≡ true → call_lines (acc ++ (b ∷ [])) (bs ++ (newline ∷ rest)) ≡ (acc ++ (b ∷ bs)) ∷ call_lines [] rest →
        cond t (acc ∷ call_lines [] (bs ++ (newline ∷ rest))) (call_lines (acc ++ (b ∷ [])) (bs ++ (newline ∷ rest))) ≡ (acc ++ (b ∷ bs)) ∷ call_lines [] rest
    go true q e = absurd (false≢true q)
    go false q e = e

-- settings that are shown, and a newline: they are the first line, whatever comes behind
pub settings-first : (window bucket factor cache : ℕ) (rest : List ℕ) →
    input_lines [] (show_settings window bucket factor cache ++ (newline ∷ rest)) ≡ show_settings window bucket factor cache ∷ call_lines [] rest
unfolding show_settings
settings-first window bucket factor cache rest =
    let caches = cache_text ++ show_number cache in
    let factors = factor_text ++ (show_number factor ++ caches) in
    let buckets = bucket_text ++ (show_number bucket ++ factors) in
    first-line [] (window_text ++ (show_number window ++ buckets)) rest
    (field-in-line window_text window buckets refl
    (field-in-line bucket_text bucket factors refl
    (field-in-line factor_text factor caches refl
    (each_append in_line cache_text (show_number cache) (text_in-line cache_text refl) (digits-in-line (show_number cache) (show-digits false cache))))))

-- ---- bad lines

-- a line that the program cannot read
abbrev pub Unread : Program → List ℕ → Type 0
Unread Desk line = read_call line ≡ None
Unread Shots line = read_shot line ≡ None

-- it gets its line with 14, and changes nothing
pub bad-line : (g : Program) (s : Settings) (a b line : List ℕ) → Unread g line →
    turn (Open g s) a b line ≡ record { phase = Open g s; first = a; second = b; prints = shown (refused_line 0 bad_line) }
unfolding turn stepped_by Calls.stepped Shot.stepped
bad-line Desk s a b line e = rw e
bad-line Shots s a b line e = rw e

-- a missing settings line is a bad one: nothing read prints one line
pub missing-settings : opening_of [] ≡ Err (refusal bad_line)
unfolding opening_of read_settings field_at text_at begins
missing-settings = refl

pub nothing_read : (g : Program) (a b h : List ℕ) (l : ℕ) → longest_read < length h → roomy ≤ l →
    run_out (whole (fresh g) a b h) [] l ≡ shown (refused_line 0 bad_line)
unfolding input_lines turns turn
nothing_read g a b h l k m = whole-input g a b h [] l k m ∙ append-nil (prints_in (opening_of [])) ∙ ap prints_in missing-settings
