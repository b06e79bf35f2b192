-- Bytes put into a room one after the other: what is put after what was put is put as one.
-- Assumes nothing.
use Rattle.std.specs.Prelude.{◌≡◌, refl, List, [], ◌∷◌, ◌++◌, ℕ, zero, suc, ◌+◌, ◌-◌, ◌/◌, ◌%◌, ◌≤◌, ◌<◌, length, get_or, take, drop, set}
use Rattle.std.proofs.Common.{sym, ap, ◌∙◌, append_assoc, add-one, arith, length-append, length-drop, length-take-le, take_at, drop_at, drop-cons, drop-drop, lt-ltb, le-ltb}
use Rattle.std.proofs.lemmas.List.{set_at}
use Rattle.std.proofs.Math.Seq.{append_snoc, take-length, paste, paste-zero, paste-suc}
use Rattle.fields.specs.Numbers.{show_number, show-small, show-more, show-longer}
use Rattle.printing.specs.Answers.{show_answer, show_verdict, show_counts, printed, printed_length, longest, hex_digits, hex_digit}
use Rattle.printing.specs.declared.AnswerLine.{AnswerLine}

-- ---- the definitions

-- the room with the bytes from `at` on
abbrev pub pasted : List ℕ → ℕ → List ℕ → List ℕ
pasted old at bytes = (take at old ++ bytes) ++ drop (at + length bytes) old

-- the bytes stand in the room from `at` on, and `next` is past them
pub record Put (old : List ℕ) (at : ℕ) (bytes new : List ℕ) (next : ℕ) : Type 0 where
  pub past : next ≡ at + length bytes
  pub is : new ≡ pasted old at bytes

-- the same, for a field: at most 30 bytes
pub record PutField (old : List ℕ) (at : ℕ) (bytes new : List ℕ) (next : ℕ) : Type 0 where
  pub put : Put old at bytes new next
  pub short : next ≤ at + 30

-- the same, for four fields
pub record PutFour (old : List ℕ) (at : ℕ) (bytes new : List ℕ) (next : ℕ) : Type 0 where
  pub put : Put old at bytes new next
  pub short : next ≤ at + 120

pub record Printed (l : AnswerLine) (old new : List ℕ) (r : ℕ) : Type 0 where
  pub long : r ≡ printed_length l old
  pub bytes : new ≡ printed l old

-- ---- laws

head-length : (old xs : List ℕ) (at : ℕ) → at ≤ length old → length (take at old ++ xs) ≡ at + length xs
head-length old xs at h = rw (length-append, length-take-le at old h)

-- a byte more
pub put_byte : (old xs mid : List ℕ) (at next b : ℕ) → Put old at xs mid next → at + length xs < length old →
    Put old at (xs ++ (b ∷ [])) (set mid next b) (next + 1)
put_byte old xs mid at next b p h = record { past = past'; is = is' }
  where
    k : ℕ
    k = at + length xs

    past' : next + 1 ≡ at + length (xs ++ (b ∷ []))
    past' = simp length-append (omega (arith, p.past))

    grown : at + length (xs ++ (b ∷ [])) ≡ suc (at + length xs)
    grown = simp length-append (omega arith)

    stored : set (pasted old at xs) (at + length xs) b ≡ (take at old ++ xs) ++ (b ∷ drop (suc (at + length xs)) old)
    stored =
        ap (λ (r : List ℕ). set ((take at old ++ xs) ++ r) (at + length xs) b) (drop-cons old (at + length xs) 0 h) ∙
        set_at (take at old ++ xs) _ _ b (at + length xs) (head-length old xs at (omega arith))

    is' : set mid next b ≡ pasted old at (xs ++ (b ∷ []))
    is' =
        ap (λ (m : List ℕ). set m next b) p.is ∙ ap (λ (n : ℕ). set (pasted old at xs) n b) p.past ∙ stored ∙
        sym (append_snoc (take at old ++ xs) b (drop (suc (at + length xs)) old)) ∙
        ap (λ (n : ℕ). ((take at old ++ xs) ++ (b ∷ [])) ++ drop n old) (sym grown) ∙
        ap (λ (l : List ℕ). l ++ drop (at + length (xs ++ (b ∷ []))) old) (append_assoc (take at old) xs (b ∷ []))

-- nothing put
pub put-none : (old : List ℕ) (at : ℕ) → Put old at [] old at
put-none old at = record { past = omega arith; is = paste-zero old at [] }

-- one after the other
pub put-append : (old xs mid ys new : List ℕ) (at n m : ℕ) → Put old at xs mid n → Put mid n ys new m → at + length xs ≤ length old →
    Put old at (xs ++ ys) new m
put-append old xs mid ys new at n m p q h = record { past = past'; is = is' }
  where
    past' : m ≡ at + length (xs ++ ys)
    past' = simp length-append (omega (arith, p.past, q.past))

    reach : at + length xs + length ys ≡ at + length (xs ++ ys)
    reach = simp length-append (omega arith)

    front : take (at + length xs) (pasted old at xs) ≡ take at old ++ xs
    front = take_at (take at old ++ xs) _ (at + length xs) (head-length old xs at (omega arith))

    back : drop (at + length xs + length ys) (pasted old at xs) ≡ drop (at + length xs + length ys) old
    back =
        sym (drop-drop (length ys) (at + length xs) (pasted old at xs)) ∙
        ap (drop (length ys)) (drop_at (take at old ++ xs) _ (at + length xs) (head-length old xs at (omega arith))) ∙
        drop-drop (length ys) (at + length xs) old

    whole : pasted (pasted old at xs) (at + length xs) ys ≡ pasted old at (xs ++ ys)
    whole =
        rw (front, back) (ap (λ (l : List ℕ). l ++ drop (at + length xs + length ys) old) (append_assoc (take at old) xs ys) ∙
        ap (λ (k : ℕ). (take at old ++ (xs ++ ys)) ++ drop k old) reach)

    is' : new ≡ pasted old at (xs ++ ys)
    is' = q.is ∙ ap (λ (l : List ℕ). pasted l n ys) p.is ∙ ap (λ (k : ℕ). pasted (pasted old at xs) k ys) p.past ∙ whole

-- a number, and a hex number: its last digit after the others
pub put-digit : (old new : List ℕ) (at next b n : ℕ) → n < 10 → b ≡ 48 + n → at < length old → new ≡ set old at b → next ≡ at + 1 →
    Put old at (show_number n) new next
put-digit old new at next b n h e l f g =
    rw (show-small n h, f, g, e) (put_byte old [] old at at (48 + n) (put-none old at) (omega arith))

pub put-more : (old mid : List ℕ) (at n next b : ℕ) → 10 ≤ n → Put old at (show_number (n / 10)) mid next → b ≡ 48 + n % 10 →
    at + length (show_number n) ≤ length old →
    Put old at (show_number n) (set mid next b) (next + 1)
put-more old mid at n next b h p e l =
    let s = show-longer n h in
    rw (show-more n h, e) (put_byte old (show_number (n / 10)) mid at next (48 + n % 10) p (omega arith))

pub hex-length : (k w : ℕ) → length (hex_digits k w) ≡ k
unfolding hex_digits
hex-length zero w = refl
hex-length (suc k) w = simp (length-append, hex-length k (w / 16)) (omega arith)

hex-more : (k w : ℕ) → (k ≡ 0 → ⊥) → hex_digits k w ≡ hex_digits (k - 1) (w / 16) ++ (hex_digit (w % 16) ∷ [])
unfolding hex_digits
hex-more zero w h = absurd (h refl)
hex-more (suc k) w h = let e : suc k - 1 ≡ k = omega arith in rw e

pub put-hex-none : (old : List ℕ) (at k w : ℕ) → k ≡ 0 → Put old at (hex_digits k w) old at
unfolding hex_digits
put-hex-none old at k w e = rw e (put-none old at)

pub put-hex-more : (old mid : List ℕ) (at k w next b : ℕ) → (k ≡ 0 → ⊥) → Put old at (hex_digits (k - 1) (w / 16)) mid next → b ≡ hex_digit (w % 16) →
    at + k ≤ length old →
    Put old at (hex_digits k w) (set mid next b) (next + 1)
put-hex-more old mid at k w next b h p e l =
    let s = hex-length (k - 1) (w / 16) in
    rw (hex-more k w h, e) (put_byte old (hex_digits (k - 1) (w / 16)) mid at next (hex_digit (w % 16)) p (omega arith))

-- ---- fields

-- a room keeps its length
put-length : (old xs new : List ℕ) (at next : ℕ) → Put old at xs new next → at + length xs ≤ length old → length new ≡ length old
put-length old xs new at next p h =
    ap length p.is ∙ simp (length-append, length-drop, head-length old xs at (omega arith)) (omega (arith, length-take-le at old (omega arith)))

pub put-field : (old xs mid ys new : List ℕ) (at n m : ℕ) → Put old at xs mid n → Put mid n ys new m → length xs + length ys ≤ 30 → at + 30 ≤ length old →
    PutField old at (xs ++ ys) new m
put-field old xs mid ys new at n m p q s h =
    record { put = put-append old xs mid ys new at n m p q (omega arith); short = omega (arith, p.past, q.past) }

pub put_word : (old xs new : List ℕ) (at n : ℕ) → Put old at xs new n → length xs ≤ 30 → PutField old at xs new n
put_word old xs new at n p s = record { put = p; short = omega (arith, p.past) }

pub put_four : (old a w x y z b c new : List ℕ) (at i j k m : ℕ) → PutField old at w a i → PutField a i x b j → PutField b j y c k → PutField c k z new m →
    at + 120 ≤ length old → PutFour old at (w ++ (x ++ (y ++ z))) new m
put_four old a w x y z b c new at i j k m p q r s h =
    let la = put-length old w a at i p.put (omega (arith, p.put.past, p.short)) in
    let lb = put-length a x b i j q.put (omega (arith, p.put.past, p.short, q.put.past, q.short)) in
    let t = put-append b y c z new j k m r.put s.put (omega (arith, p.short, q.short, r.put.past, r.short)) in
    let u = put-append a x b (y ++ z) new i j m q.put t (omega (arith, p.short, q.put.past, q.short)) in
    record {
      put = put-append old w a (x ++ (y ++ z)) new at i m p.put u (omega (arith, p.put.past, p.short));
      short = omega (arith, p.short, q.short, r.short, s.short);
    }

-- ---- the line

pub print-short : (l : AnswerLine) (old : List ℕ) → length old < longest → Printed l old old 0
print-short l old h = record { long = rw (lt-ltb _ _ h); bytes = rw (lt-ltb _ _ h) }

pub print-whole : (l : AnswerLine) (old mid new : List ℕ) (n r : ℕ) → longest ≤ length old →
    PutFour old 0 (show_verdict l.t l.code l.answer l.factor) mid n → PutFour mid n (show_counts l.wait l.left l.total l.declined) new r →
    Printed l old new r
unfolding show_answer
print-whole l old mid new n r h p q =
    let w = put-append old _ mid _ new 0 n r p.put q.put (omega (arith, p.put.past, p.short)) in
    let z : 0 + length (show_answer l) ≡ length (show_answer l) = omega arith in
    record { long = rw (le-ltb _ _ h) (w.past ∙ z); bytes = rw (le-ltb _ _ h) (w.is ∙ ap (λ (k : ℕ). show_answer l ++ drop k old) z) }

-- a text byte by byte: a turn of the copy, and its end
pub copy-byte : (old text mid : List ℕ) (at next j : ℕ) → next ≡ at + j → mid ≡ paste old at text j → at + j < length old → j < length text →
    set mid next (get_or text j 0) ≡ paste old at text (j + 1)
copy-byte old text mid at next j e f h k =
    ap (λ (m : List ℕ). set m next (get_or text j 0)) f ∙ ap (λ (n : ℕ). set (paste old at text j) n (get_or text j 0)) e ∙ paste-suc old at text j 0 h k ∙
    ap (λ (n : ℕ). paste old at text n) (sym (add-one j))

pub put_copy : (old text : List ℕ) (at next j : ℕ) (new : List ℕ) → next ≡ at + j → new ≡ paste old at text j → length text ≤ j → j ≤ length text →
    Put old at text new next
put_copy old text at next j new e f h k =
    let l : j ≡ length text = omega arith in
    record { past = omega arith; is = f ∙ ap (λ (i : ℕ). paste old at text i) l ∙ rw take-length }
