-- Reading undoes showing, part by part: a part that is shown is found, and a part that is found was shown.
-- Assumes nothing.
use Rattle.std.specs.Prelude.{◌≡◌, refl, Bool, true, false, cond, ◌&&◌, List, [], ◌∷◌, ◌++◌, ℕ, zero, suc, ◌+◌, ◌-◌, ◌≤◌, ◌<◌, Option, Some, None, length, get_or, take, drop, leb, ltb, eqb}
use Rattle.std.proofs.Common.{sym, ap, subst, ◌∙◌, arith, take-append-drop, drop-drop, length-take-le, le-leb, leb-true, le-ltb, ltb-false, eq-eqb, ne_eqb, eqb-true}
use Rattle.std.proofs.lemmas.Bool.{false≢true, eqb-false}
use Rattle.std.proofs.Math.Decide.{dec_lt}
use Rattle.std.proofs.Math.ListN.{get_or-append}
use Rattle.std.proofs.Math.Seq.{take-append_seam, drop-append_seam}
use Rattle.fields.specs.Bytes.{counts}
use Rattle.fields.specs.Numbers.{show_number, value, Each, show-digits, value-show, show-value, show-length, show-first, show-small}
use Rattle.lines.specs.Shown.{op_text}
use Rattle.fields.specs.Ranges.{Key, largest}
use Rattle.lines.specs.declared.Tail.{Tail}
use Rattle.lines.specs.Reading.{keyed, op_at, on_name, on_numbers, on_tail}
use Rattle.fields.specs.Parts.{run, begins, text_at, number_of, number_at, key_at, field_at, on_number, on_place}
use Rattle.fields.specs.Turns.{run_length}
use Rattle.lines.specs.declared.Op.{Op}
use Rattle.lines.specs.declared.Op.TheVariants.{AbsoluteInc, AbsoluteGet, SuppressedInc, SuppressedGet}

-- ---- what follows a part, by cases

pub each_number : {A : Type 0} (P : A → Type 0) (m : Option (ℕ × ℕ)) (bad : A) (k : ℕ → ℕ → A) → P bad → ((v n : ℕ) → m ≡ Some (v, n) → P (k v n)) → P (on_number m bad k)
each_number P (Some p) bad k b f = f p.0 p.1 refl
each_number P None bad k b f = b

pub each-place : {A : Type 0} (P : A → Type 0) (m : Option ℕ) (bad : A) (k : ℕ → A) → P bad → ((n : ℕ) → m ≡ Some n → P (k n)) → P (on_place m bad k)
each-place P (Some n) bad k b f = f n refl
each-place P None bad k b f = b

pub each-name : {A : Type 0} (P : A → Type 0) (m : Option (Op × ℕ)) (bad : A) (k : Op → ℕ → A) → P bad → ((op : Op) (n : ℕ) → m ≡ Some (op, n) → P (k op n)) →
    P (on_name m bad k)
each-name P (Some p) bad k b f = f p.0 p.1 refl
each-name P None bad k b f = b

pub each-numbers : {A : Type 0} (P : A → Type 0) (m : Option (ℕ × ℕ × ℕ)) (bad : A) (k : ℕ → ℕ → ℕ → A) → P bad →
    ((x y z : ℕ) → m ≡ Some (x, y, z) → P (k x y z)) → P (on_numbers m bad k)
each-numbers P (Some p) bad k b f = f p.0 p.1 p.2 refl
each-numbers P None bad k b f = b

pub each_tail : {A : Type 0} (P : A → Type 0) (m : Option Tail) (bad : A) (k : ℕ → ℕ → ℕ → ℕ → ℕ → A) → P bad →
    ((start end x y z : ℕ) → m ≡ Some (keyed start end x y z) → P (k start end x y z)) → P (on_tail m bad k)
each_tail P (Some x) bad k b f = f x.start x.end x.numbers.0 x.numbers.1 x.numbers.2 refl
each_tail P None bad k b f = b

pub each-test : {A : Type 0} (P : A → Type 0) (t : Bool) (good bad : A) → P bad → (t ≡ true → P good) → P (cond t good bad)
each-test P true good bad b f = f refl
each-test P false good bad b f = b

-- what a pair that was found holds
pub pair_is : {A B : Type 0} (a c : A) (b d : B) → ◌≡◌ {A = Option (A × B)} (Some (a, b)) (Some (c, d)) → (c ≡ a) × (d ≡ b)
pair_is {A} {B} a c b d e =
    let p : ◌≡◌ {A = A × B} (a, b) (c, d) = cc in
    (sym (ap (λ (x : A × B). x.0) p), sym (ap (λ (x : A × B). x.1) p))

pub both : (a b : Bool) → a && b ≡ true → (a ≡ true) × (b ≡ true)
both true b e = (refl, e)
both false b e = absurd (false≢true e)

and-false : (a : Bool) → a && false ≡ false
and-false true = refl
and-false false = refl

-- ---- what is left past a part

pub past-part : (line part rest : List ℕ) (at : ℕ) → drop at line ≡ part ++ rest → drop (at + length part) line ≡ rest
past-part line part rest at e = sym (drop-drop (length part) at line) ∙ ap (drop (length part)) e ∙ drop-append_seam part rest

part-here : (line part : List ℕ) (at : ℕ) → drop at line ≡ part ++ drop (length part) (drop at line) → drop at line ≡ part ++ drop (at + length part) line
part-here line part at e = e ∙ ap (λ (l : List ℕ). part ++ l) (drop-drop (length part) at line)

-- ---- texts

begins-shown : (text rest : List ℕ) → begins text (text ++ rest) ≡ true
unfolding begins
begins-shown [] rest = refl
begins-shown (x ∷ xs) rest = rw (eq-eqb x x refl) (begins-shown xs rest)

begins-read : (text bs : List ℕ) → begins text bs ≡ true → bs ≡ text ++ drop (length text) bs
unfolding begins
begins-read [] bs e = refl
begins-read (x ∷ xs) [] e = absurd (false≢true e)
begins-read (x ∷ xs) (b ∷ bs) e = joined x xs b bs (both (eqb b x) (begins xs bs) e) (begins-read xs bs)
  where
    joined : (x : ℕ) (xs : List ℕ) (b : ℕ) (bs : List ℕ) → (eqb b x ≡ true) × (begins xs bs ≡ true) → (begins xs bs ≡ true → bs ≡ xs ++ drop (length xs) bs) →
        b ∷ bs ≡ x ∷ (xs ++ drop (length xs) bs)
    joined x xs b bs p f = let h = eqb-true b x p.0 in let k = f p.1 in cc

pub text-shown : (line text rest : List ℕ) (at : ℕ) → drop at line ≡ text ++ rest → text_at line at text ≡ Some (at + length text)
unfolding text_at
text-shown line text rest at e = rw (e, begins-shown text rest)

pub text-read : (line text : List ℕ) (at next : ℕ) → text_at line at text ≡ Some next → (next ≡ at + length text) × (drop at line ≡ text ++ drop next line)
unfolding text_at
text-read line text at next e = go (begins text (drop at line)) refl e
  where
    go : (t : Bool) → begins text (drop at line) ≡ t → cond t (Some (at + length text)) None ≡ Some next →
        (next ≡ at + length text) × (drop at line ≡ text ++ drop next line)
    go true q f =
        let k : next ≡ at + length text = cc in
        (k, rw k (part-here line text at (begins-read text (drop at line) q)))
    go false q f = absurd (let z : ◌≡◌ {A = ℕ} 0 1 = cc in omega arith)

-- ---- runs

-- what comes next does not go on the run
abbrev pub Stops : (ℕ → Bool) → List ℕ → Type 0
Stops p [] = Unit {0}
Stops p (b ∷ bs) = p b ≡ false

pub run-shown : (p : ℕ → Bool) (xs rest : List ℕ) → Each p xs → Stops p rest → run p (xs ++ rest) ≡ length xs
unfolding run
run-shown p [] [] e s = refl
run-shown p [] (b ∷ bs) e s = rw s
run-shown p (x ∷ xs) rest e s = rw e.0 (ap suc (run-shown p xs rest e.1 s))

pub run-each : (p : ℕ → Bool) (bs : List ℕ) → Each p (take (run p bs) bs)
unfolding run
run-each p [] = tt
run-each p (b ∷ bs) = go (p b) refl (run-each p bs)
  where
    go : (t : Bool) → p b ≡ t → Each p (take (run p bs) bs) → Each p (take (cond t (suc (run p bs)) 0) (b ∷ bs))
    go true q r = (q, r)
    go false q r = tt

run-part : (p : ℕ → Bool) (line : List ℕ) (at : ℕ) → drop at line ≡ take (run p (drop at line)) (drop at line) ++ drop (at + run p (drop at line)) line
run-part p line at = sym (take-append-drop (run p (drop at line)) (drop at line)) ∙
    ap (λ (l : List ℕ). take (run p (drop at line)) (drop at line) ++ l) (drop-drop _ at line)

-- ---- numbers

pub number-shown : (line rest : List ℕ) (at n : ℕ) → drop at line ≡ show_number n ++ rest → n ≤ largest → Stops (counts false) rest →
    number_at line at ≡ Some (n, at + length (show_number n))
unfolding number_at number_of
number-shown line rest at n e h s =
    rw (
      e,
      run-shown (counts false) (show_number n) rest (show-digits false n) s,
      ne_eqb _ _ some,
      zeros (dec_lt 0 n),
      take-append_seam (show_number n) rest,
      value-show n,
      le-leb _ _ h,
    )
  where
    some : length (show_number n) ≡ 0 → ⊥
    some q = omega (arith, show-length n)

    zeros : Dec (0 < n) → eqb (get_or (show_number n ++ rest) 0 0) 48 && ltb 1 (length (show_number n)) ≡ false
    zeros (yes p) = rw (get_or-append (show_number n) rest 0 0 (show-length n), ne_eqb _ _ (show-first n p))
    zeros (no p) =
        let l : length (show_number n) ≤ 1 = rw (show-small n (omega arith)) (omega arith) in
        rw (le-ltb _ _ l) (and-false (eqb (get_or (show_number n ++ rest) 0 0) 48))

-- digits as `number_of` takes them
digits-read : (bs : List ℕ) (k : ℕ) → k ≤ length bs → Each (counts false) (take k bs) → (k ≡ 0 → ⊥) → eqb (get_or bs 0 0) 48 && ltb 1 k ≡ false →
    show_number (value (take k bs)) ≡ take k bs
digits-read bs zero h e n z = absurd (n refl)
digits-read [] (suc k) h e n z = absurd (omega arith)
digits-read (b ∷ bs) (suc k) h e n z = show-value b (take k bs) e (λ q. alone q)
  where
    alone : b ≡ 48 → take k bs ≡ []
    alone q =
        let y : ltb 1 (suc k) ≡ false = rw (eq-eqb b 48 q) at z in
        let x : k ≡ 0 = omega (arith, ltb-false 1 (suc k) y) in
        rw x

pub number_read : (line : List ℕ) (at n next : ℕ) → number_at line at ≡ Some (n, next) →
    (n ≤ largest) × (drop at line ≡ show_number n ++ drop next line) × (next ≡ at + length (show_number n))
unfolding number_at number_of
number_read line at n next e =
    go (eqb (run (counts false) (drop at line)) 0) refl (eqb (get_or (drop at line) 0 0) 48 && ltb 1 (run (counts false) (drop at line))) refl
    (leb (value (take (run (counts false) (drop at line)) (drop at line))) largest) refl e
  where
    go : (t : Bool) → eqb (run (counts false) (drop at line)) 0 ≡ t → (u : Bool) →
        eqb (get_or (drop at line) 0 0) 48 && ltb 1 (run (counts false) (drop at line)) ≡ u →
        (w : Bool) → leb (value (take (run (counts false) (drop at line)) (drop at line))) largest ≡ w →
        cond {A = Option (ℕ × ℕ)} t None (cond u None
        (cond w (Some (value (take (run (counts false) (drop at line)) (drop at line)), at + run (counts false) (drop at line))) None)) ≡
        Some (n, next) →
        (n ≤ largest) × (drop at line ≡ show_number n ++ drop next line) × (next ≡ at + length (show_number n))
    go true a u b w d f = absurd (let z : ◌≡◌ {A = ℕ} 0 1 = cc in omega arith)
    go false a true b w d f = absurd (let z : ◌≡◌ {A = ℕ} 0 1 = cc in omega arith)
    go false a false b false d f = absurd (let z : ◌≡◌ {A = ℕ} 0 1 = cc in omega arith)
    go false a false b true d f =
        let r = pair_is (value (take (run (counts false) (drop at line)) (drop at line))) n (at + run (counts false) (drop at line)) next f in
        let v = r.0 in
        let x = r.1 in
        let s : show_number n ≡ take (run (counts false) (drop at line)) (drop at line) =
        ap show_number v ∙ digits-read (drop at line) (run (counts false) (drop at line)) (run_length (counts false) (drop at line))
        (run-each (counts false) (drop at line)) (eqb-false _ _ a) b in
        let y : value (take (run (counts false) (drop at line)) (drop at line)) ≤ largest = leb-true _ _ d in
        let j : length (show_number n) ≡ run (counts false) (drop at line) = ap length s ∙ length-take-le _ _ (run_length (counts false) (drop at line)) in
        (omega (arith, v), rw (s, x) (run-part (counts false) line at), omega (arith, x, j))

-- ---- fields: a text, then a number

pub record Field (line : List ℕ) (at : ℕ) (text : List ℕ) (n next : ℕ) : Type 0 where
  pub fits : n ≤ largest
  pub shows : drop at line ≡ text ++ (show_number n ++ drop next line)
  pub past : next ≡ at + length text + length (show_number n)

pub field-shown : (line text rest : List ℕ) (at n : ℕ) → drop at line ≡ text ++ (show_number n ++ rest) → n ≤ largest → Stops (counts false) rest →
    field_at line at text ≡ Some (n, at + length text + length (show_number n))
unfolding field_at
field-shown line text rest at n e h s =
    rw (text-shown line text (show_number n ++ rest) at e) (number-shown line rest (at + length text) n (past-part line text (show_number n ++ rest) at e) h s)

pub past-field : (line text rest : List ℕ) (at n : ℕ) → drop at line ≡ text ++ (show_number n ++ rest) →
    drop (at + length text + length (show_number n)) line ≡ rest
past-field line text rest at n e = past-part line (show_number n) rest (at + length text) (past-part line text (show_number n ++ rest) at e)

pub field-read : (line text : List ℕ) (at n next : ℕ) → field_at line at text ≡ Some (n, next) → Field line at text n next
unfolding field_at
field-read line text at n next e = go (text_at line at text) refl e
  where
    go : (m : Option ℕ) → text_at line at text ≡ m → on_place m None (λ k. number_at line k) ≡ Some (n, next) → Field line at text n next
    go (Some k) q f =
        let a = text-read line text at k q in
        let b = number_read line k n next f in
        record { fits = b.0; shows = a.1 ∙ ap (λ (l : List ℕ). text ++ l) b.1; past = omega (arith, a.0, b.2) }
    go None q f = absurd (let z : ◌≡◌ {A = ℕ} 0 1 = cc in omega arith)

-- ---- keys

pub key-shown : (line key rest : List ℕ) (at : ℕ) → drop at line ≡ key ++ rest → Key key → Stops (counts true) rest → key_at line at ≡ Some (at + length key)
unfolding key_at
key-shown line key rest at e h s = rw (e, run-shown (counts true) key rest h.plain s, le-leb _ _ h.some, le-leb _ _ h.short)

pub record KeyRead (line : List ℕ) (at next : ℕ) (key : List ℕ) : Type 0 where
  pub good : Key key
  pub shows : drop at line ≡ key ++ drop next line
  pub past : next ≡ at + length key

pub key-read : (line : List ℕ) (at next : ℕ) → key_at line at ≡ Some next → KeyRead line at next (take (next - at) (drop at line))
unfolding key_at
key-read line at next e = go (leb 1 (run (counts true) (drop at line)) && leb (run (counts true) (drop at line)) 32) refl e
  where
    go : (t : Bool) → leb 1 (run (counts true) (drop at line)) && leb (run (counts true) (drop at line)) 32 ≡ t →
        cond t (Some (at + run (counts true) (drop at line))) None ≡ Some next → KeyRead line at next (take (next - at) (drop at line))
    go true q f =
        let b = both (leb 1 (run (counts true) (drop at line))) (leb (run (counts true) (drop at line)) 32) q in
        let o : 1 ≤ run (counts true) (drop at line) = leb-true _ _ b.0 in
        let u : run (counts true) (drop at line) ≤ 32 = leb-true _ _ b.1 in
        let x : next ≡ at + run (counts true) (drop at line) = cc in
        let k : next - at ≡ run (counts true) (drop at line) = omega arith in
        let l : length (take (run (counts true) (drop at line)) (drop at line)) ≡ run (counts true) (drop at line) =
        length-take-le _ _ (run_length (counts true) (drop at line)) in
        rw k
        (record {
          good = record { some = omega arith; short = omega arith; plain = run-each (counts true) (drop at line) };
          shows = rw x (run-part (counts true) line at);
          past = omega arith;
        })
    go false q f = absurd (let z : ◌≡◌ {A = ℕ} 0 1 = cc in omega arith)

-- ---- operations

pub op-shown : (line rest : List ℕ) (at : ℕ) (op : Op) → drop at line ≡ op_text op ++ rest → op_at line at ≡ Some (op, at + length (op_text op))
unfolding op_at text_at begins
op-shown line rest at AbsoluteInc e = rw e
op-shown line rest at AbsoluteGet e = rw e
op-shown line rest at SuppressedInc e = rw e
op-shown line rest at SuppressedGet e = rw e

abbrev OpRead : List ℕ → ℕ → Option (Op × ℕ) → Type 0
OpRead line at (Some p) = (p.1 ≡ at + length (op_text p.0)) × (drop at line ≡ op_text p.0 ++ drop p.1 line)
OpRead line at None = Unit {0}

op-if : (line : List ℕ) (at : ℕ) (op : Op) (other : Option (Op × ℕ)) → OpRead line at other →
    OpRead line at (on_place (text_at line at (op_text op)) other (λ next. Some (op, next)))
op-if line at op other h = go (text_at line at (op_text op)) refl
  where
    go : (m : Option ℕ) → text_at line at (op_text op) ≡ m → OpRead line at (on_place m other (λ next. Some (op, next)))
    go (Some k) q = text-read line (op_text op) at k q
    go None q = h

pub op-read : (line : List ℕ) (at : ℕ) (op : Op) (next : ℕ) → op_at line at ≡ Some (op, next) →
    (next ≡ at + length (op_text op)) × (drop at line ≡ op_text op ++ drop next line)
unfolding op_at
op-read line at op next e =
    subst (λ (m : Option (Op × ℕ)). OpRead line at m) e
    (op-if line at AbsoluteInc _ (op-if line at AbsoluteGet _ (op-if line at SuppressedInc _ (op-if line at SuppressedGet None tt))))
