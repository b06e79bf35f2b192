-- A turn of each reading loop, and its ends: what is left of the line from one place says what is left from the next.
-- Assumes nothing.
use Rattle.std.specs.Prelude.{◌≡◌, refl, Bool, cond, ◌&&◌, List, [], ◌∷◌, ℕ, suc, ◌+◌, ◌*◌, ◌-◌, ◌≤◌, ◌<◌, Some, None, length, get_or, take, drop}
use Rattle.std.proofs.Common.{sym, ap, ◌∙◌, add-one, length-drop, drop-cons, get_or-drop}
use Rattle.std.proofs.Math.Bool.{true, false}
use native.Mathlib.Omega.{arith}
use Rattle.std.proofs.Math.ListN.{drop_of_length-le}
use Rattle.std.proofs.Math.Dec.{ltb, eqb}
use Rattle.std.proofs.lemmas.Bool.{eqb-false}
use Rattle.std.specs.List.{prefix_len, starts_with}
use borrow.Author.Tests.{le-leb, lt-leb, lt-ltb, le-ltb, eq-eqb, ne_eqb, eqb-true}
use Rattle.fields.specs.Bytes.{counts, digit_of, digit-small}
use Rattle.fields.specs.Numbers.{value, value_from}
use Rattle.fields.specs.Ranges.{largest}
use Rattle.fields.specs.Parts.{run, begins, text_at, number_in, number_of, number_at, key_at}

-- what is left from i: the byte there, and what is left from i + 1
left : (bs : List ℕ) (i : ℕ) → i < length bs → drop i bs ≡ get_or bs i 0 ∷ drop (i + 1) bs
left bs i h = rw (add-one, drop-cons bs i 0)

-- ---- a run

module _ (p : ℕ → Bool) (bs : List ℕ) (i : ℕ) where
  pub run_on : i < length bs → p (get_or bs i 0) ≡ true → i + run p (drop i bs) ≡ (i + 1) + run p (drop (i + 1) bs)
  unfolding run
  run_on h e = rw (left bs i h, e) (omega arith)

  pub run-stop : i < length bs → p (get_or bs i 0) ≡ false → i + run p (drop i bs) ≡ i
  unfolding run
  run-stop h e = rw (left bs i h, e) (omega arith)

  pub run_past : length bs ≤ i → i + run p (drop i bs) ≡ i
  unfolding run
  run_past h = rw (drop_of_length-le bs h) (omega arith)

pub run_length : (p : ℕ → Bool) (bs : List ℕ) → run p bs ≤ length bs
unfolding run
run_length p [] = omega arith
run_length p (b ∷ bs) = go (p b) (run_length p bs)
  where
    go : (t : Bool) → run p bs ≤ length bs → cond t (suc (run p bs)) 0 ≤ suc (length bs)
    go true h = omega arith
    go false h = omega arith

-- the library's words for a run and for a text at the start
pub run_prefix : (p : ℕ → Bool) (bs : List ℕ) → prefix_len p bs ≡ run p bs
unfolding run
run_prefix p [] = refl
run_prefix p (b ∷ bs) = let e : 1 + run p bs ≡ suc (run p bs) = omega arith in rw (run_prefix p bs, e)

eqb-swap : (a b : ℕ) → eqb a b ≡ eqb b a
eqb-swap a b = go (eqb a b) refl
  where
    go : (t : Bool) → eqb a b ≡ t → t ≡ eqb b a
    go true e = sym (eq-eqb b a (sym (eqb-true a b e)))
    go false e = sym (ne_eqb b a (λ p. eqb-false a b e (sym p)))

pub begins-starts : (bs text : List ℕ) → starts_with eqb bs text ≡ begins text bs
unfolding begins
begins-starts [] [] = refl
begins-starts (b ∷ bs) [] = refl
begins-starts [] (x ∷ xs) = refl
begins-starts (b ∷ bs) (x ∷ xs) = rw (eqb-swap x b, begins-starts bs xs)

-- ---- a number

pub value_on : (v : ℕ) (ds : List ℕ) (i : ℕ) → i < length ds → value_from v (drop i ds) ≡ value_from (v * 10 + digit_of (get_or ds i 0)) (drop (i + 1) ds)
value_on v ds i h = rw (left ds i h)

pub value-past : (v : ℕ) (ds : List ℕ) (i : ℕ) → length ds ≤ i → value_from v (drop i ds) ≡ v
value-past v ds i h = rw (drop_of_length-le ds h)

-- digits never make a number less
pub value-least : (v : ℕ) (ds : List ℕ) → v ≤ value_from v ds
value-least v [] = omega arith
value-least v (d ∷ ds) = omega (arith, value-least (v * 10 + digit_of d) ds)

-- a byte that was read as the digit d
module _ (ds : List ℕ) (v i d : ℕ) (all : value ds ≡ value_from v (drop i ds)) (more : i < length ds) (is : d ≡ digit_of (get_or ds i 0)) where
  pub number-turn : value ds ≡ value_from (v * 10 + d) (drop (i + 1) ds)
  number-turn = all ∙ value_on v ds i more ∙ ap (λ (k : ℕ). value_from (v * 10 + k) (drop (i + 1) ds)) (sym is)

  -- a number that passes the largest u64 here passes it at the end
  pub number-over : (next : ℕ) → largest < v * 10 + d → number_in ds next ≡ None
  number-over next h =
      let k : largest < value ds = omega (arith, number-turn, value-least (v * 10 + d) (drop (i + 1) ds)) in
      rw (lt-leb _ _ k)

pub number_fits : (ds : List ℕ) (v next : ℕ) → value ds ≡ v → v ≤ largest → number_in ds next ≡ Some (v, next)
number_fits ds v next e h = rw (e, le-leb _ _ h)

-- ---- a text

pub text-found : (line text : List ℕ) (at : ℕ) → begins text (drop at line) ≡ true → text_at line at text ≡ Some (at + length text)
unfolding text_at
text-found line text at e = rw e

pub text-missing : (line text : List ℕ) (at : ℕ) → begins text (drop at line) ≡ false → text_at line at text ≡ None
unfolding text_at
text-missing line text at e = rw e

-- ---- a number and a key, by where their run ends

module _ (line : List ℕ) (at e : ℕ) (is : e ≡ at + run (counts false) (drop at line)) where
  first : get_or (drop at line) 0 0 ≡ get_or line at 0
  first = let k : at + 0 ≡ at = omega arith in rw (get_or-drop, k)

  pub number-inside : (e ≡ at → ⊥) → (at < e) × (e ≤ length line)
  number-inside h =
      let l = run_length (counts false) (drop at line) in
      let d = length-drop at line in
      (omega arith, omega arith)

  pub number-none : e ≡ at → number_at line at ≡ None
  unfolding number_at number_of
  number-none h = let k : run (counts false) (drop at line) ≡ 0 = omega arith in rw (eq-eqb _ _ k)

  pub number-zeros : get_or line at 0 ≡ 48 → 1 < e - at → number_at line at ≡ None
  unfolding number_at number_of
  number-zeros z h =
      let k : 1 < run (counts false) (drop at line) = omega arith in
      let n : run (counts false) (drop at line) ≡ 0 → ⊥ = λ q. omega arith in
      rw (ne_eqb _ _ n, eq-eqb _ _ (first ∙ z), lt-ltb _ _ k)

  pub number_is : (e ≡ at → ⊥) → (get_or line at 0 ≡ 48 → 1 < e - at → ⊥) → number_at line at ≡ number_in (take (e - at) (drop at line)) e
  unfolding number_at number_of
  number_is h z =
      let n : run (counts false) (drop at line) ≡ 0 → ⊥ = λ q. h (omega arith) in
      let k : e - at ≡ run (counts false) (drop at line) = omega arith in
      rw (ne_eqb _ _ n, no-zeros (eqb (get_or (drop at line) 0 0) 48) refl) (rw (k, is))
    where
      no-zeros : (t : Bool) → eqb (get_or (drop at line) 0 0) 48 ≡ t → eqb (get_or (drop at line) 0 0) 48 && ltb 1 (run (counts false) (drop at line)) ≡ false
      no-zeros true q =
          let o : 1 < e - at → ⊥ = z (sym first ∙ eqb-true _ _ q) in
          let m : run (counts false) (drop at line) ≤ 1 = omega arith in
          rw (q, le-ltb _ _ m)
      no-zeros false q = rw q

module _ (line : List ℕ) (at e : ℕ) (is : e ≡ at + run (counts true) (drop at line)) where
  pub key-none : e - at < 1 → key_at line at ≡ None
  unfolding key_at
  key-none h = let k : run (counts true) (drop at line) < 1 = omega arith in rw (lt-leb _ _ k)

  pub key-long : 32 < e - at → key_at line at ≡ None
  unfolding key_at
  key-long h =
      let k : 32 < run (counts true) (drop at line) = omega arith in
      let o : 1 ≤ run (counts true) (drop at line) = omega arith in
      rw (le-leb _ _ o, lt-leb _ _ k)

  pub key-found : 1 ≤ e - at → e - at ≤ 32 → key_at line at ≡ Some e
  unfolding key_at
  key-found h l =
      let k : run (counts true) (drop at line) ≤ 32 = omega arith in
      let o : 1 ≤ run (counts true) (drop at line) = omega arith in
      rw (le-leb _ _ o, le-leb _ _ k) (ap Some (sym is))

pub digit-read : (b r : ℕ) → r ≡ digit_of b → r ≤ 9
digit-read b r e = omega (arith, digit-small b)

-- a text byte by byte
module _ (text line : List ℕ) (i j : ℕ) where
  pub begins-on : i < length text → j < length line → get_or line j 0 ≡ get_or text i 0 →
      begins (drop i text) (drop j line) ≡ begins (drop (i + 1) text) (drop (j + 1) line)
  unfolding begins
  begins-on h k e = rw (left text i h, left line j k, eq-eqb _ _ e)

  pub begins-other : i < length text → j < length line → (get_or line j 0 ≡ get_or text i 0 → ⊥) → begins (drop i text) (drop j line) ≡ false
  unfolding begins
  begins-other h k e = rw (left text i h, left line j k, ne_eqb _ _ e)

  pub begins-short : i < length text → length line ≤ j → begins (drop i text) (drop j line) ≡ false
  unfolding begins
  begins-short h k = rw (left text i h, drop_of_length-le line k)

  pub begins-whole : length text ≤ i → begins (drop i text) (drop j line) ≡ true
  unfolding begins
  begins-whole h = rw (drop_of_length-le text h)
