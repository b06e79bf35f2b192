-- What is found is what the line tells: a line with these fields prints what is found, and what prints as it is found.
-- Assumes nothing.
use Rattle.std.specs.Prelude.{◌≡◌, Bool, true, false, ◌&&◌, cond, List, ◌≢◌, ℕ, ◌≤◌, leb, eqb, Float, Option, Some, None, Result, Ok, Err}
use Rattle.std.proofs.Math.Path.{refl}
use Rattle.std.proofs.Common.{sym, ap, subst, ◌∙◌, arith, le-leb, leb-true, eq-eqb, eqb-true}
use Rattle.std.proofs.lemmas.Bool.{false≢true}
use Rattle.std.specs.Float.{binary64}
use Rattle.std.specs.Float.Ieee.{of_bits, to_bits}
use Rattle.std.specs.Float.Ieee.Bits.{of_bits-to_bits, of_bits-fits, to_bits-lt}
use Rattle.fields.specs.Ranges.{largest, exact_largest}
use Rattle.lines.specs.ReadLaws.{both}
use Rattle.common.specs.declared.refusal.Refusal.{Refusal}
use Rattle.common.specs.Refusals.{refusal}
use Rattle.suppression.specs.Factor.{factor_word_ok}
use Rattle.printing.specs.Answers.{show_answer}
use Rattle.printing.specs.declared.Answer.{Answer}
use Rattle.printing.specs.declared.Answer.TheVariants as word
use Rattle.printing.specs.declared.AnswerLine.{AnswerLine}
use Rattle.told.specs.Told.{bad_line, line_for, line_of, text_of}
use Rattle.told.specs.Range.{TotalsFit, FactorFits, RefusalFits, timeless, ToldFits, Fits, ReadsAs, Unread, Reads}
use Rattle.told.specs.declared.Stored.{Stored}
use Rattle.told.specs.declared.Told.{Told}
use Rattle.told.specs.declared.Told.TheVariants.{Allowed, Rejected, Suppressed, Value, Refused}
use Rattle.told.specs.declared.ToldLine.{ToldLine}
use Rattle.answer_lines.specs.Laws.{AnswerFits, ReadLine, PrintedRead, answer-read, answer-shown}
use Rattle.answer_lines.specs.Reading.{read_answer}
use Rattle.readback.specs.Meaning.{totals_fit, refusal_fits, is_fit, stored_in, told_as, told_by, line_by, same_numbers, meaning_of, meaning_in, read_back}

-- ---- the tests are the ranges

and_is : (a b : Bool) → a ≡ true → b ≡ true → a && b ≡ true
and_is true b p q = q
and_is false b p q = p

totals-are : (x : Stored) → totals_fit x ≡ true → TotalsFit x
totals-are x e =
    let p = both (leb x.total exact_largest) (leb x.declined x.total) e in
    record { most = leb-true _ _ p.0; part = leb-true _ _ p.1 }

are-totals : (x : Stored) → TotalsFit x → totals_fit x ≡ true
are-totals x f = and_is (leb x.total exact_largest) _ (le-leb _ _ f.most) (le-leb _ _ f.part)

at-zero-is : (t : ℕ) (b : Bool) → cond b (eqb t 0) true ≡ true → b ≡ true → t ≡ 0
at-zero-is t true e f = eqb-true t 0 e
at-zero-is t false e f = absurd (false≢true f)

is-at-zero : (t : ℕ) (b : Bool) → (b ≡ true → t ≡ 0) → cond b (eqb t 0) true ≡ true
is-at-zero t true f = eq-eqb t 0 (f refl)
is-at-zero t false f = refl

refusal_is : (t n : ℕ) → refusal_fits t n ≡ true → RefusalFits t n
refusal_is t n e =
    let p = both (leb 1 n) (leb n bad_line && cond (timeless n) (eqb t 0) true) e in
    let q = both (leb n bad_line) (cond (timeless n) (eqb t 0) true) p.1 in
    record { some = leb-true _ _ p.0; most = leb-true _ _ q.0; at_zero = at-zero-is t (timeless n) q.1 }

is-refusal : (t n : ℕ) → RefusalFits t n → refusal_fits t n ≡ true
is-refusal t n f =
    and_is (leb 1 n) _ (le-leb _ _ f.some) (and_is (leb n bad_line) _ (le-leb _ _ f.most) (is-at-zero t (timeless n) f.at_zero))

fit_is : (t : ℕ) (told : Told) → ToldFits t told → is_fit t told ≡ true
unfolding is_fit
fit_is t (Allowed x) f = are-totals x f
fit_is t (Rejected wait left x) f = are-totals x f.2
fit_is t (Suppressed factor admitted x) f = and_is (factor_word_ok (to_bits binary64 factor)) _ f.0.unit (are-totals x f.1)
fit_is t (Value factor x) f = and_is (factor_word_ok (to_bits binary64 factor)) _ f.0.unit (are-totals x f.1)
fit_is t (Refused n) f = is-refusal t n f

-- ---- what is found, word by word

module _ (l : AnswerLine) (f : AnswerFits l) where
  factor-is : (x : Stored) → factor_word_ok (to_bits binary64 (of_bits binary64 l.factor)) && totals_fit x ≡ true →
      FactorFits (of_bits binary64 l.factor) × TotalsFit x
  factor-is x e =
      let p = both (factor_word_ok (to_bits binary64 (of_bits binary64 l.factor))) (totals_fit x) e in
      (record { double = of_bits-fits binary64 l.factor; unit = p.0 }, totals-are x p.1)

  is-fit : (w : Answer) → is_fit l.t (told_as w l) ≡ true → ToldFits l.t (told_as w l)
  unfolding is_fit
  is-fit word.Allowed e = totals-are (stored_in l) e
  is-fit word.Rejected e = (f.waits, f.counts.firsts, totals-are (stored_in l) e)
  is-fit word.Yes e = factor-is (stored_in l) e
  is-fit word.No e = factor-is (stored_in l) e
  is-fit word.Value e = factor-is (stored_in l) e
  is-fit word.Held e = refusal_is l.t 0 e
  is-fit word.Refused e = refusal_is l.t l.code e

-- the word is kept
pub word-is : (l : AnswerLine) (w : Answer) → is_fit l.t (told_as w l) ≡ true → (line_for l.t (told_as w l)).answer ≡ w
unfolding is_fit
word-is l word.Allowed e = refl
word-is l word.Rejected e = refl
word-is l word.Yes e = refl
word-is l word.No e = refl
word-is l word.Value e = refl
word-is l word.Held e = absurd (false≢true e)
word-is l word.Refused e = refl

pub time-is : (t : ℕ) (told : Told) → (line_for t told).t ≡ t
time-is t (Allowed x) = refl
time-is t (Rejected wait left x) = refl
time-is t (Suppressed factor admitted x) = refl
time-is t (Value factor x) = refl
time-is t (Refused n) = refl

line-path : {a b : AnswerLine} → a.t ≡ b.t → a.code ≡ b.code → a.answer ≡ b.answer → a.factor ≡ b.factor → a.wait ≡ b.wait → a.left ≡ b.left →
    a.total ≡ b.total → a.declined ≡ b.declined → a ≡ b
line-path p q r s u v w x = λ i. record { t = p i; code = q i; answer = r i; factor = s i; wait = u i; left = v i; total = w i; declined = x i }

-- the same numbers under the same word at the same reading are the same line
same_line : (a b : AnswerLine) → a.t ≡ b.t → a.answer ≡ b.answer → same_numbers a b ≡ true → a ≡ b
unfolding same_numbers
same_line a b t w e =
    let codes = both (eqb a.code b.code) _ e in
    let factors = both (eqb a.factor b.factor) _ codes.1 in
    let waits = both (eqb a.wait b.wait) _ factors.1 in
    let lefts = both (eqb a.left b.left) _ waits.1 in
    let totals = both (eqb a.total b.total) (eqb a.declined b.declined) lefts.1 in
    line-path t (eqb-true _ _ codes.0) w (eqb-true _ _ factors.0) (eqb-true _ _ waits.0) (eqb-true _ _ lefts.0) (eqb-true _ _ totals.0)
    (eqb-true _ _ totals.1)

same_self : (a : AnswerLine) → same_numbers a a ≡ true
unfolding same_numbers
same_self a =
    rw (
      eq-eqb a.code a.code refl,
      eq-eqb a.factor a.factor refl,
      eq-eqb a.wait a.wait refl,
      eq-eqb a.left a.left refl,
      eq-eqb a.total a.total refl,
      eq-eqb a.declined a.declined refl,
    )

-- a line with these fields prints what is found
found : (line : List ℕ) (l : AnswerLine) → ReadLine line l → is_fit l.t (told_by l) ≡ true → same_numbers (line_of (line_by l)) l ≡ true →
    ReadsAs line (line_by l)
unfolding told_by line_of
found line l r fit same =
    record {
      in-range = record { time = r.fits.verdicts.times; told = is-fit l r.fits l.answer fit };
      prints = r.shows ∙ ap show_answer (sym (same_line (line_of (line_by l)) l (time-is l.t (told_by l)) (word-is l l.answer fit) same));
    }

-- ---- what prints as a line is found

told_back : (t : ℕ) (told : Told) → ToldFits t told → told_by (line_for t told) ≡ told
unfolding told_by
told_back t (Allowed x) f = refl
told_back t (Rejected wait left x) f = refl
told_back t (Suppressed factor true x) f = ap (λ (y : Float). Suppressed y true x) (of_bits-to_bits binary64 factor f.0.double)
told_back t (Suppressed factor false x) f = ap (λ (y : Float). Suppressed y false x) (of_bits-to_bits binary64 factor f.0.double)
told_back t (Value factor x) f = ap (λ (y : Float). Value y x) (of_bits-to_bits binary64 factor f.0.double)
told_back t (Refused n) f = refl

line-back : (l : ToldLine) → Fits l → line_by (line_of l) ≡ l
unfolding line_of
line-back l f = λ i. record { t = time-is l.t l.told i; told = told_back l.t l.told f.told i }

pub meaning-back : (l : ToldLine) → Fits l → meaning_of (line_of l) ≡ Ok l
unfolding meaning_of
meaning-back l f =
    let back = line-back l f in
    let fit : is_fit (line_of l).t (told_by (line_of l)) ≡ true = ap (λ (k : ToldLine). is_fit k.t k.told) back ∙ fit_is l.t l.told f.told in
    let same : same_numbers (line_of (line_by (line_of l))) (line_of l) ≡ true =
    ap (λ (k : ToldLine). same_numbers (line_of k) (line_of l)) back ∙ same_self (line_of l) in
    rw (fit, same) (ap Ok back)

small-factor : (x : Float) → FactorFits x → to_bits binary64 x ≤ largest
small-factor x f = omega (arith, to_bits-lt binary64 x f.double)

answer-fits : (t : ℕ) (told : Told) → t ≤ largest → ToldFits t told → AnswerFits (line_for t told)
answer-fits t (Allowed x) h f = record {
  verdicts = record { times = h; codes = omega arith; factors = omega arith };
  waits = omega arith;
  counts = record { firsts = omega arith; seconds = omega (arith, f.most); thirds = omega (arith, f.most, f.part) };
}
answer-fits t (Rejected wait left x) h f = record {
  verdicts = record { times = h; codes = omega arith; factors = omega arith };
  waits = f.0;
  counts = record { firsts = f.1; seconds = omega (arith, f.2.most); thirds = omega (arith, f.2.most, f.2.part) };
}
answer-fits t (Suppressed factor admitted x) h f = record {
  verdicts = record { times = h; codes = omega arith; factors = small-factor factor f.0 };
  waits = omega arith;
  counts = record { firsts = omega arith; seconds = omega (arith, f.1.most); thirds = omega (arith, f.1.most, f.1.part) };
}
answer-fits t (Value factor x) h f = record {
  verdicts = record { times = h; codes = omega arith; factors = small-factor factor f.0 };
  waits = omega arith;
  counts = record { firsts = omega arith; seconds = omega (arith, f.1.most); thirds = omega (arith, f.1.most, f.1.part) };
}
answer-fits t (Refused n) h f = record {
  verdicts = record { times = h; codes = omega (arith, f.most); factors = omega arith };
  waits = omega arith;
  counts = record { firsts = omega arith; seconds = omega arith; thirds = omega arith };
}

pub printed-back : (line : List ℕ) (l : ToldLine) → Fits l → line ≡ text_of l → read_answer line ≡ Some (line_of l)
unfolding line_of
printed-back line l f e = answer-shown line (line_of l) (answer-fits l.t l.told f.time f.told) e

-- ---- the reader answers what the line tells

pub reads-back : (line : List ℕ) (l : ToldLine) → Fits l → line ≡ text_of l → read_back line ≡ Ok l
unfolding read_back
reads-back line l f e = rw (printed-back line l f e) (meaning-back l f)

line-or-not : (l : ToldLine) (n : Refusal) → ◌≢◌ {A = Result ToldLine Refusal} (Ok l) (Err n)
line-or-not l n e = let z : ◌≡◌ {A = ℕ} 0 1 = cc in omega arith

nothing : (line : List ℕ) → read_back line ≡ Err (refusal bad_line) → Unread line bad_line
nothing line e = record { number = refl; other = λ l f p. line-or-not l (refusal bad_line) (sym (reads-back line l f p) ∙ e) }

met : (line : List ℕ) (l : AnswerLine) → read_answer line ≡ Some l → ReadLine line l → Reads line (meaning_of l)
unfolding meaning_of read_back
met line l q r = go (is_fit l.t (told_by l)) refl (same_numbers (line_of (line_by l)) l) refl
  where
    go : (a : Bool) → is_fit l.t (told_by l) ≡ a → (b : Bool) → same_numbers (line_of (line_by l)) l ≡ b →
        Reads line (cond (a && b) (Ok (line_by l)) (Err (refusal bad_line)))
    go true p true s = found line l r p s
    go true p false s = nothing line (rw (q, p, s))
    go false p b s = nothing line (rw (q, p))

pub meaning : (line : List ℕ) → Reads line (read_back line)
unfolding read_back
meaning line = go (read_answer line) refl (answer-read line)
  where
    go : (p : Option AnswerLine) → read_answer line ≡ p → PrintedRead line p → Reads line (meaning_in p)
    go (Some l) q r = met line l q r
    go None q r = nothing line (rw q)

-- by what the reader of answers finds
pub read_none : (line : List ℕ) → read_answer line ≡ None → Reads line (Err (refusal bad_line))
unfolding read_back
read_none line e = subst (λ (p : Option AnswerLine). Reads line (meaning_in p)) e (meaning line)

pub read_some : (line : List ℕ) (l : AnswerLine) (r : Result ToldLine Refusal) → read_answer line ≡ Some l → r ≡ meaning_of l → Reads line r
unfolding read_back
read_some line l r e f = subst (Reads line) (sym f) (subst (λ (p : Option AnswerLine). Reads line (meaning_in p)) e (meaning line))
