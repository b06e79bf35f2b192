-- A line's bytes, put with its newline.
-- Assumes nothing.
use Rattle.std.specs.Prelude.{◌≡◌, Bool, false, cond, List, ◌++◌, ℕ, ◌+◌, ◌-◌, ◌≤◌, length, take, drop, set, ltb}
use Rattle.std.proofs.Common.{sym, ap, ◌∙◌, append_assoc, arith, length-append, length-take, length-drop, take-append-drop, drop-drop, le-ltb}
use Rattle.std.proofs.lemmas.List.{drop-append-le}
use borrow.Rule.Slice.PartMut.{put_mid}
use Rattle.printing.specs.Answers.{show_answer, longest}
use Rattle.printing.specs.Printing.{Put, Printed, put_byte}
use Rattle.printing.specs.declared.AnswerLine.{AnswerLine}
use Rattle.desk_turn.specs.Lines.{newline, roomy, shown}
use Rattle.desk_turn.specs.Taking.{PutAnswer}

module _ (l : AnswerLine) (old ys : List ℕ) (at n : ℕ) (h : at + longest ≤ length old) where
  abbrev part : List ℕ
  part = take (at + longest - at) (drop at old)

  long : length part ≡ longest
  long = simp (length-take, length-drop) (omega arith)

  -- what is left of the part, and what stands behind it
  behind : (k : ℕ) → k ≤ longest → drop k part ++ drop (at + longest - at) (drop at old) ≡ drop (at + k) old
  behind k g =
      sym (drop-append-le k part (drop (at + longest - at) (drop at old)) (omega (arith, long))) ∙
      ap (drop k) (take-append-drop (at + longest - at) (drop at old)) ∙ drop-drop k at old

  pub answer-put : Printed l part ys n → length ys ≡ length part → PutAnswer l old at (put_mid at (at + longest - at) old ys) (at + n)
  answer-put p e =
      let z : longest ≤ length part = omega (arith, long) in
      let t : ltb (length part) longest ≡ false = le-ltb (length part) longest z in
      let f : n ≡ length (show_answer l) = p.long ∙ ap (λ (b : Bool). cond b 0 (length (show_answer l))) t in
      let g : ys ≡ show_answer l ++ drop (length (show_answer l)) part =
      p.bytes ∙ ap (λ (b : Bool). cond b part (show_answer l ++ drop (length (show_answer l)) part)) t in
      let m : length ys ≡ length (show_answer l) + (longest - length (show_answer l)) =
      ap length g ∙ length-append (show_answer l) _ ∙ ap (λ (i : ℕ). length (show_answer l) + i)
      (length-drop (length (show_answer l)) part ∙ ap (λ (i : ℕ). i - length (show_answer l)) long) in
      let k : length (show_answer l) ≤ longest = omega (arith, m, e, long) in
      record {
        put = record {
          past = ap (λ (i : ℕ). at + i) f;
          is =
              ap (λ (y : List ℕ). take at old ++ (y ++ drop (at + longest - at) (drop at old))) g ∙
              ap (λ (y : List ℕ). take at old ++ y)
              (append_assoc (show_answer l) _ _ ∙ ap (λ (y : List ℕ). show_answer l ++ y) (behind (length (show_answer l)) k)) ∙
              sym (append_assoc (take at old) (show_answer l) _);
        };
        short = omega (arith, f, k);
      }

-- and its newline
pub line-put : (l : AnswerLine) (old mid : List ℕ) (at next : ℕ) → at + roomy ≤ length old → PutAnswer l old at mid next →
    Put old at (shown l) (set mid next newline) (next + 1)
unfolding shown
line-put l old mid at next h p = put_byte old (show_answer l) mid at next newline p.put (omega (arith, p.put.past, p.short))
