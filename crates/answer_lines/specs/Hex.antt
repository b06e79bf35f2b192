-- Hex digits are read and shown: a turn of the reading loop and its ends; reading undoes showing.
-- Assumes nothing.
use Rattle.std.specs.Prelude.{◌≡◌, refl, Bool, true, false, cond, ◌||◌, List, [], ◌∷◌, ◌++◌, ℕ, zero, suc, ◌+◌, ◌-◌, ◌*◌, ◌/◌, ◌%◌, ◌≤◌, ◌<◌, Option, Some, None, length, get_or, take, drop, leb, ltb}
use Rattle.std.proofs.Common.{sym, ap, ◌∙◌, inr, append_assoc, append-nil, mod-lt, add-one, take-append-drop, length-drop, drop-cons, drop-drop, length-take-le, le-leb, leb-true, lt-ltb, le-ltb}
use Rattle.std.proofs.lemmas.Bool.{false≢true, lt-leb}
use Rattle.std.specs.List.{slice_range}
use Rattle.std.proofs.lemmas.List.{take_all, get_or-take, get_or-drop}
use Rattle.std.proofs.Math.Decide.{dec_lt}
use native.Mathlib.Omega.{arith}
use Rattle.std.proofs.Math.Seq.{take-append_seam}
use Rattle.fields.specs.Bytes.{within, Outside, inside, outside}
use Rattle.fields.specs.Numbers.{Each, each_append}
use Rattle.fields.specs.Parts.{run}
use Rattle.fields.specs.Ranges.{largest}
use Rattle.fields.specs.Turns.{run_on, run-stop, run_past, run_length}
use Rattle.lines.specs.ReadLaws.{both, pair_is}
use Rattle.printing.specs.Answers.{hex_digit, hex_digits, show_hex16}
use Rattle.printing.specs.HexLaws.{hex_of, hex_from, sixteen_to, hex-show}
use Rattle.printing.specs.Printing.{hex-length}
use Rattle.answer_lines.specs.Reading.{is_hex, hex_value, hex_length, hex_at}

-- ---- digits

pub record HexByte (b : ℕ) : Type 0 where
  pub small : hex_of b < 16
  pub digit : hex_digit (hex_of b) ≡ b

hex-decimal : (b : ℕ) → 48 ≤ b → b ≤ 57 → HexByte b
unfolding hex_of hex_digit
hex-decimal b h k =
    let l : b < 58 = omega arith in
    let m : b - 48 < 10 = omega arith in
    record { small = rw (lt-ltb b 58 l) (omega arith); digit = rw (lt-ltb b 58 l, lt-ltb _ _ m) (omega arith) }

hex-letter : (b : ℕ) → 97 ≤ b → b ≤ 102 → HexByte b
unfolding hex_of hex_digit
hex-letter b h k =
    let l : 58 ≤ b = omega arith in
    let m : 10 ≤ b - 87 = omega arith in
    record { small = rw (le-ltb b 58 l) (omega arith); digit = rw (le-ltb b 58 l, le-ltb _ _ m) (omega arith) }

pub hex-byte : (b : ℕ) → is_hex b ≡ true → HexByte b
unfolding is_hex
hex-byte b e = go (within 48 57 b) refl (within 97 102 b) refl e
  where
    go : (s : Bool) → within 48 57 b ≡ s → (t : Bool) → within 97 102 b ≡ t → s || t ≡ true → HexByte b
    go true p t q f = let r = both (leb 48 b) (leb b 57) p in hex-decimal b (leb-true _ _ r.0) (leb-true _ _ r.1)
    go false p true q f = let r = both (leb 97 b) (leb b 102) q in hex-letter b (leb-true _ _ r.0) (leb-true _ _ r.1)
    go false p false q f = absurd (false≢true f)

digit-hex : (d : ℕ) → d < 16 → is_hex (hex_digit d) ≡ true
unfolding is_hex hex_digit
digit-hex d h = go (dec_lt d 10)
  where
    second : (a b : Bool) → b ≡ true → a || b ≡ true
    second true b e = refl
    second false b e = e

    go : Dec (d < 10) → within 48 57 (cond (ltb d 10) (48 + d) (87 + d)) || within 97 102 (cond (ltb d 10) (48 + d) (87 + d)) ≡ true
    go (yes p) = rw (lt-ltb d 10 p, inside 48 57 (48 + d) (omega arith) (omega arith))
    go (no p) =
        let l : 10 ≤ d = omega arith in
        rw (le-ltb d 10 l) (second (within 48 57 (87 + d)) (within 97 102 (87 + d)) (inside 97 102 (87 + d) (omega arith) (omega arith)))

-- the value by the byte's range
pub value-decimal : (b : ℕ) → 48 ≤ b → b ≤ 57 → Some (b - 48) ≡ hex_value b
unfolding hex_value is_hex hex_of
value-decimal b h k = let l : b < 58 = omega arith in rw (inside 48 57 b h k, lt-ltb b 58 l)

pub value-letter : (b : ℕ) → 97 ≤ b → b ≤ 102 → Some ((b - 97) + 10) ≡ hex_value b
unfolding hex_value is_hex hex_of
value-letter b h k =
    let l : 58 ≤ b = omega arith in
    let o : 57 < b = omega arith in
    let e : (b - 97) + 10 ≡ b - 87 = omega arith in
    rw (outside 48 57 b (inr o), inside 97 102 b h k, le-ltb b 58 l) (ap (λ (n : ℕ). Some n) e)

pub value_none : (b : ℕ) → Outside 48 57 b → Outside 97 102 b → None ≡ hex_value b
unfolding hex_value is_hex
value_none b h k = rw (outside 48 57 b h, outside 97 102 b k)

-- what the code takes for a hex digit is one
pub value-hex : (b r : ℕ) → Some r ≡ hex_value b → is_hex b ≡ true
unfolding hex_value
value-hex b r e = go (is_hex b) e
  where
    go : (t : Bool) → Some r ≡ cond t (Some (hex_of b)) None → t ≡ true
    go true f = refl
    go false f = absurd (let z : ◌≡◌ {A = ℕ} 0 1 = cc in omega arith)

pub value_of : (b r : ℕ) → Some r ≡ hex_value b → r ≡ hex_of b
unfolding hex_value
value_of b r e = let f : Some r ≡ Some (hex_of b) = e ∙ rw (value-hex b r e) in cc

pub value-small : (b r : ℕ) → Some r ≡ hex_value b → r < 16
value-small b r e = omega (arith, value_of b r e, (hex-byte b (value-hex b r e)).small)

pub value-bad : (b : ℕ) → None ≡ hex_value b → is_hex b ≡ false
unfolding hex_value
value-bad b e = go (is_hex b) e
  where
    go : (t : Bool) → None ≡ cond t (Some (hex_of b)) None → t ≡ false
    go true f = absurd (let z : ◌≡◌ {A = ℕ} 0 1 = cc in omega arith)
    go false f = refl

-- ---- the loop

-- i digits were read, which count v, and j is the place of the next
pub record HexTurn (line : List ℕ) (at i j v : ℕ) : Type 0 where
  pub place : j ≡ at + i
  pub few : i ≤ hex_length
  pub runs : run is_hex (drop at line) ≡ i + run is_hex (drop j line)
  pub counts : hex_from 0 (take hex_length (drop at line)) ≡ hex_from v (take (hex_length - i) (drop j line))
  pub small : v < sixteen_to i

pub hex-start : (line : List ℕ) (at : ℕ) → HexTurn line at 0 (at + 0) 0
hex-start line at =
    let e : at + 0 ≡ at = omega arith in
    record { place = refl; few = omega arith; runs = rw e (omega arith); counts = rw e; small = omega arith }

byte_next : (line : List ℕ) (j : ℕ) → j < length line → drop j line ≡ get_or line j 0 ∷ drop (j + 1) line
byte_next line j h = rw (add-one, drop-cons line j 0)

sixteen-more : (i j : ℕ) → sixteen_to i ≤ sixteen_to (j + i)
sixteen-more i zero = let e : zero + i ≡ i = omega arith in rw e (omega arith)
sixteen-more i (suc j) = let e : suc j + i ≡ suc (j + i) = omega arith in rw e (omega (arith, sixteen-more i j))

-- no digit carries it past a u64
pub hex-room : (i v : ℕ) → i < hex_length → v < sixteen_to i → v ≤ 1152921504606846975
hex-room i v h l =
    let e : (15 - i) + i ≡ 15 = omega arith in
    let m : sixteen_to i ≤ sixteen_to 15 = rw e at (sixteen-more i (15 - i)) in
    omega (arith, m, l)

module _ (line : List ℕ) (at i j v : ℕ) (h : HexTurn line at i j v) where
  pub hex-turn : (d : ℕ) → i < hex_length → j < length line → Some d ≡ hex_value (get_or line j 0) → HexTurn line at (i + 1) (j + 1) (v * 16 + d)
  hex-turn d l m e =
      let hex : is_hex (get_or line j 0) ≡ true = value-hex (get_or line j 0) d e in
      let is : d ≡ hex_of (get_or line j 0) = value_of (get_or line j 0) d e in
      let k : hex_length - i ≡ suc (hex_length - (i + 1)) = omega arith in
      let more : hex_from v (take (hex_length - i) (drop j line)) ≡ hex_from (v * 16 + d) (take (hex_length - (i + 1)) (drop (j + 1) line)) =
      rw (byte_next line j m, k, is) in
      let s : sixteen_to (i + 1) ≡ sixteen_to i * 16 = ap sixteen_to (add-one i) in
      record {
        place = omega (arith, h.place);
        few = omega arith;
        runs = omega (arith, h.runs, run_on is_hex line j m hex);
        counts = h.counts ∙ more;
        small = omega (arith, s, h.small, is, (hex-byte (get_or line j 0) hex).small);
      }

  pub hex-done : hex_length ≤ i → hex_at line at ≡ Some (v, at + hex_length)
  unfolding hex_at
  hex-done l =
      let k : hex_length - i ≡ 0 = omega arith in
      let n : hex_length ≤ run is_hex (drop at line) = omega (arith, h.runs) in
      rw (le-leb _ _ n, h.counts, k)

  none : run is_hex (drop at line) < hex_length → hex_at line at ≡ None
  unfolding hex_at
  none l = rw (lt-leb _ _ l)

  pub hex-past : i < hex_length → length line ≤ j → hex_at line at ≡ None
  hex-past l m = none (omega (arith, h.runs, run_past is_hex line j m))

  pub hex-bad : i < hex_length → j < length line → None ≡ hex_value (get_or line j 0) → hex_at line at ≡ None
  hex-bad l m e = none (omega (arith, h.runs, run-stop is_hex line j m (value-bad (get_or line j 0) e)))

-- the digits are lent as a part of the line
pub digit-in : (line rest digits : List ℕ) (at i : ℕ) → rest ≡ slice_range line at (length line) → digits ≡ slice_range rest 0 hex_length → at ≤ length line →
    i < hex_length → get_or digits i 0 ≡ get_or line (at + i) 0
digit-in line rest digits at i e f l h =
    let k : length (drop at line) ≤ length line - at = omega (arith, length-drop at line) in
    let r : rest ≡ drop at line = e ∙ take_all (length line - at) (drop at line) k in
    rw (f, r, get_or-take hex_length (drop at line) i 0 h) (get_or-drop at line i 0)

-- a line that is too short for the digits
pub hex-short : (line : List ℕ) (at : ℕ) → length line < at + hex_length → hex_at line at ≡ None
unfolding hex_at
hex-short line at h =
    let l : run is_hex (drop at line) < hex_length = omega (arith, run_length is_hex (drop at line), length-drop at line) in
    rw (lt-leb _ _ l)

-- ---- what is shown is read

pub each-hex : (k w : ℕ) → Each is_hex (hex_digits k w)
unfolding hex_digits
each-hex zero w = tt
each-hex (suc k) w = each_append is_hex (hex_digits k (w / 16)) (hex_digit (w % 16) ∷ []) (each-hex k (w / 16)) (digit-hex (w % 16) (mod-lt w (omega arith)), tt)

run-least : (xs rest : List ℕ) → Each is_hex xs → length xs ≤ run is_hex (xs ++ rest)
unfolding run
run-least [] rest e = omega arith
run-least (x ∷ xs) rest e = rw e.0 (omega (arith, run-least xs rest e.1))

pub hex-shown : (line rest : List ℕ) (at w : ℕ) → w ≤ largest → drop at line ≡ show_hex16 w ++ rest → hex_at line at ≡ Some (w, at + hex_length)
unfolding hex_at
hex-shown line rest at w h e =
    let l : length (show_hex16 w) ≡ hex_length = hex-length 16 w in
    let n : hex_length ≤ run is_hex (show_hex16 w ++ rest) = omega (arith, l, run-least (show_hex16 w) rest (each-hex 16 w)) in
    let t : take hex_length (show_hex16 w ++ rest) ≡ show_hex16 w = ap (λ (k : ℕ). take k (show_hex16 w ++ rest)) (sym l) ∙ take-append_seam (show_hex16 w) rest in
    rw (e, le-leb _ _ n, t, hex-show w h)

-- ---- what is read was shown

each_first : (n : ℕ) (bs : List ℕ) → n ≤ run is_hex bs → Each is_hex (take n bs)
unfolding run
each_first zero bs h = tt
each_first (suc n) [] h = tt
each_first (suc n) (b ∷ bs) h = go (is_hex b) refl h (each_first n bs)
  where
    go : (t : Bool) → is_hex b ≡ t → suc n ≤ cond t (suc (run is_hex bs)) 0 → (n ≤ run is_hex bs → Each is_hex (take n bs)) →
        (is_hex b ≡ true) × Each is_hex (take n bs)
    go true q k f = (q, f (omega arith))
    go false q k f = absurd (omega arith)

last-digit : (k acc d : ℕ) → HexByte d → hex_digits (suc k) (acc * 16 + hex_of d) ≡ hex_digits k acc ++ (d ∷ [])
unfolding hex_digits
last-digit k acc d b =
    let q : (acc * 16 + hex_of d) / 16 ≡ acc = omega (arith, b.small) in
    let r : (acc * 16 + hex_of d) % 16 ≡ hex_of d = omega (arith, b.small) in
    rw (q, r, b.digit)

-- the digits of what hex digits count after those of acc
digits-back : (k acc : ℕ) (ds : List ℕ) → Each is_hex ds → hex_digits (length ds + k) (hex_from acc ds) ≡ hex_digits k acc ++ ds
digits-back k acc [] e = let z : 0 + k ≡ k = omega arith in rw (z, append-nil)
digits-back k acc (d ∷ ds) e =
    let n : suc (length ds) + k ≡ length ds + suc k = omega arith in
    ap (λ (m : ℕ). hex_digits m (hex_from (acc * 16 + hex_of d) ds)) n ∙ digits-back (suc k) (acc * 16 + hex_of d) ds e.1 ∙
    ap (λ (xs : List ℕ). xs ++ ds) (last-digit k acc d (hex-byte d e.0)) ∙ append_assoc (hex_digits k acc) (d ∷ []) ds

hex-less : (k acc : ℕ) (ds : List ℕ) → Each is_hex ds → acc < sixteen_to k → hex_from acc ds < sixteen_to (length ds + k)
hex-less k acc [] e h = let z : 0 + k ≡ k = omega arith in rw z h
hex-less k acc (d ∷ ds) e h =
    let n : suc (length ds) + k ≡ length ds + suc k = omega arith in
    rw n (hex-less (suc k) (acc * 16 + hex_of d) ds e.1 (omega (arith, (hex-byte d e.0).small)))

pub record HexRead (line : List ℕ) (at w next : ℕ) : Type 0 where
  pub fits : w ≤ largest
  pub shows : drop at line ≡ show_hex16 w ++ drop next line
  pub past : next ≡ at + hex_length

shown-back : (ds : List ℕ) → length ds ≡ hex_length → Each is_hex ds → (hex_from 0 ds ≤ largest) × (show_hex16 (hex_from 0 ds) ≡ ds)
unfolding hex_digits
shown-back ds l e =
    let n : length ds + 0 ≡ hex_length = omega (arith, l) in
    let less : hex_from 0 ds < sixteen_to hex_length = rw n at (hex-less 0 0 ds e (omega arith)) in
    (omega (arith, less), ap (λ (k : ℕ). hex_digits k (hex_from 0 ds)) (sym n) ∙ digits-back 0 0 ds e)

found : (line : List ℕ) (at : ℕ) → hex_length ≤ run is_hex (drop at line) → HexRead line at (hex_from 0 (take hex_length (drop at line))) (at + hex_length)
found line at h =
    let l = length-take-le hex_length (drop at line) (omega (arith, run_length is_hex (drop at line))) in
    let back = shown-back (take hex_length (drop at line)) l (each_first hex_length (drop at line) h) in
    record {
      fits = back.0;
      shows = sym (take-append-drop hex_length (drop at line)) ∙ ap (λ (xs : List ℕ). xs ++ drop hex_length (drop at line)) (sym back.1) ∙
          ap (λ (xs : List ℕ). show_hex16 (hex_from 0 (take hex_length (drop at line))) ++ xs) (drop-drop hex_length at line);
      past = refl;
    }

pub hex-read : (line : List ℕ) (at w next : ℕ) → hex_at line at ≡ Some (w, next) → HexRead line at w next
unfolding hex_at
hex-read line at w next e = go (leb hex_length (run is_hex (drop at line))) refl e
  where
    go : (t : Bool) → leb hex_length (run is_hex (drop at line)) ≡ t →
        cond {A = Option (ℕ × ℕ)} t (Some (hex_from 0 (take hex_length (drop at line)), at + hex_length)) None ≡ Some (w, next) → HexRead line at w next
    go true q f =
        let r = pair_is (hex_from 0 (take hex_length (drop at line))) w (at + hex_length) next f in
        rw (r.0, r.1) (found line at (leb-true _ _ q))
    go false q f = absurd (let z : ◌≡◌ {A = ℕ} 0 1 = cc in omega arith)
