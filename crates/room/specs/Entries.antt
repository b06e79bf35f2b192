-- The laws of directory entries: who holds a slot, free slots and those with a key, freeing slots one by one.
-- Assumes nothing.
use Rattle.std.specs.Prelude.{◌≡◌, refl, Bool, true, false, not, ◌&&◌, cond, List, [], ◌∷◌, ◌≢◌, ℕ, zero, suc, ◌+◌, ◌*◌, ◌/◌, ◌%◌, ◌<◌, eqb, length, get_or}
use Rattle.std.proofs.Common.{sym, ◌∙◌, add-one, arith, eq-eqb, ne_eqb, eqb-true}
use Rattle.std.proofs.Math.Path.{ap, ap₂}
use Rattle.std.proofs.lemmas.Bool.{false≢true}
use Rattle.base.specs.Bits.{bit_at, with_bit, bit-same, bit-other, bit-none}
use Rattle.base.specs.Writes.{length-writes, read_past, read-nth}
use Rattle.keys.specs.declared.Key.{Key}
use Rattle.room.specs.Room.{slots_of, entry_of, holder_of, use_of, used_at, key_at, free, spells, has, Room, Directory, held, released, released_own, freed}
use Rattle.keys.specs.Keys.{same_key}
use Rattle.layout.specs.Layout.{slots_word, ring_word, firsts_word, seconds_word, len_word, a_word, b_word, c_word, d_word, nobody}
use Rattle.room.specs.Laws.{room-same, directory-same}

-- ---- who holds a slot

-- by its two words
pub holder-same : (w v : List ℕ) → get_or v firsts_word 0 ≡ get_or w firsts_word 0 → get_or v seconds_word 0 ≡ get_or w seconds_word 0 → (s : ℕ) →
    holder_of v s ≡ holder_of w s
unfolding holder_of
holder-same w v p q s = ap₂ (λ (x y : ℕ). bit_at x s + 2 * bit_at y s) p q

pub holder-none : (w : List ℕ) (s : ℕ) → get_or w firsts_word 0 ≡ 0 → get_or w seconds_word 0 ≡ 0 → holder_of w s ≡ nobody
unfolding holder_of
holder-none w s p q = rw (p, q, bit-none s)

module _ (w : List ℕ) (s m : ℕ) where
  abbrev stores : List (ℕ × ℕ)
  stores = (firsts_word, with_bit (get_or w firsts_word 0) s (m % 2)) ∷ (seconds_word, with_bit (get_or w seconds_word 0) s (m / 2 % 2)) ∷ []

  pub held-length : length (held w s m) ≡ length w
  unfolding held
  held-length = length-writes stores w

  -- every word but the two
  pub held-other : (j : ℕ) → j ≢ firsts_word → j ≢ seconds_word → get_or (held w s m) j 0 ≡ get_or w j 0
  unfolding held
  held-other j p q = read_past stores w j (p, (q, tt))

  firsts : seconds_word < length w → get_or (held w s m) firsts_word 0 ≡ with_bit (get_or w firsts_word 0) s (m % 2)
  unfolding held
  firsts l = read-nth stores 0 w (omega arith) (omega arith) (omega arith)

  seconds : seconds_word < length w → get_or (held w s m) seconds_word 0 ≡ with_bit (get_or w seconds_word 0) s (m / 2 % 2)
  unfolding held
  seconds l = read-nth stores 1 w (omega arith) (omega arith) tt

  pub held-here : seconds_word < length w → m < 4 → holder_of (held w s m) s ≡ m
  unfolding holder_of firsts seconds
  held-here l h =
      let p = ap (λ (x : ℕ). bit_at x s) (firsts l) ∙ bit-same (get_or w firsts_word 0) s (m % 2) (omega arith) in
      let q = ap (λ (x : ℕ). bit_at x s) (seconds l) ∙ bit-same (get_or w seconds_word 0) s (m / 2 % 2) (omega arith) in
      omega (arith, p, q)

  pub held-else : seconds_word < length w → (i : ℕ) → i ≢ s → holder_of (held w s m) i ≡ holder_of w i
  unfolding holder_of firsts seconds
  held-else l i n =
      let p = ap (λ (x : ℕ). bit_at x i) (firsts l) ∙ bit-other (get_or w firsts_word 0) s (m % 2) i (omega arith) n in
      let q = ap (λ (x : ℕ). bit_at x i) (seconds l) ∙ bit-other (get_or w seconds_word 0) s (m / 2 % 2) i (omega arith) n in
      ap₂ (λ (x y : ℕ). x + 2 * y) p q

-- ---- free, or in use with a key

pub free-yes : (w : List ℕ) (s : ℕ) → holder_of w s ≡ 0 → free w s ≡ true
unfolding free
free-yes w s e = eq-eqb _ _ e

pub free-no : (w : List ℕ) (s : ℕ) → holder_of w s ≢ 0 → free w s ≡ false
unfolding free
free-no w s h = ne_eqb _ _ h

pub free-use : (w : List ℕ) (s : ℕ) → free w s ≡ true → holder_of w s ≡ 0
unfolding free
free-use w s e = eqb-true _ _ e

-- a use that counts is that of a slot in use
pub used-held : (w : List ℕ) (s : ℕ) → holder_of w s ≢ 0 → used_at w s ≡ use_of w s
used-held w s h = rw (free-no w s h)

pub used-free : (w : List ℕ) (s : ℕ) → holder_of w s ≡ 0 → used_at w s ≡ 0
used-free w s e = rw (free-yes w s e)

pub held-used : (w : List ℕ) (s : ℕ) → used_at w s ≢ 0 → holder_of w s ≢ 0
held-used w s n e = n (used-free w s e)

pub used-ext : (w v : List ℕ) (s : ℕ) → holder_of v s ≡ holder_of w s → use_of v s ≡ use_of w s → used_at v s ≡ used_at w s
unfolding free
used-ext w v s p q = ap₂ (λ (h u : ℕ). cond (eqb h 0) 0 u) p q

pub has-free : (w : List ℕ) (k : Key) (s : ℕ) → holder_of w s ≡ 0 → has w k s ≡ false
unfolding has
has-free w k s e = rw (free-yes w s e)

pub has-used : (w : List ℕ) (k : Key) (s : ℕ) → holder_of w s ≢ 0 → has w k s ≡ same_key (key_at w s) k
unfolding has
has-used w k s h = rw (free-no w s h)

-- the same by the key first
pub has_other : (w : List ℕ) (k : Key) (s : ℕ) → same_key (key_at w s) k ≡ false → has w k s ≡ false
unfolding has
has_other w k s e = ap (λ (x : Bool). not (free w s) && x) e ∙ go (not (free w s))
  where
    go : (x : Bool) → x && false ≡ false
    go true = refl
    go false = refl

pub has_same : (w : List ℕ) (k : Key) (s : ℕ) → same_key (key_at w s) k ≡ true → has w k s ≡ not (eqb (holder_of w s) 0)
unfolding has free
has_same w k s e = ap (λ (x : Bool). not (free w s) && x) e ∙ go (not (free w s))
  where
    go : (x : Bool) → x && true ≡ x
    go true = refl
    go false = refl

-- the same by the bytes first
pub same-unspelled : (w : List ℕ) (k : Key) (s : ℕ) → spells w k s ≡ false → same_key (key_at w s) k ≡ false
unfolding spells same_key key_at
same-unspelled w k s e =
    go (eqb (get_or w (entry_of s + len_word) 0) k.len) (eqb (get_or w (entry_of s + a_word) 0) k.a) (eqb (get_or w (entry_of s + b_word) 0) k.b)
    (eqb (get_or w (entry_of s + c_word) 0) k.c) (eqb (get_or w (entry_of s + d_word) 0) k.d) (eqb (holder_of w s) k.holder) e
  where
    go : (l a b c d h : Bool) → l && (a && (b && (c && d))) ≡ false → l && (a && (b && (c && (d && h)))) ≡ false
    go false a b c d h e = refl
    go true false b c d h e = refl
    go true true false c d h e = refl
    go true true true false d h e = refl
    go true true true true false h e = refl
    go true true true true true h e = absurd (false≢true (sym e))

pub same-spelled : (w : List ℕ) (k : Key) (s : ℕ) → spells w k s ≡ true → same_key (key_at w s) k ≡ eqb (holder_of w s) k.holder
unfolding spells same_key key_at
same-spelled w k s e =
    go (eqb (get_or w (entry_of s + len_word) 0) k.len) (eqb (get_or w (entry_of s + a_word) 0) k.a) (eqb (get_or w (entry_of s + b_word) 0) k.b)
    (eqb (get_or w (entry_of s + c_word) 0) k.c) (eqb (get_or w (entry_of s + d_word) 0) k.d) (eqb (holder_of w s) k.holder) e
  where
    go : (l a b c d h : Bool) → l && (a && (b && (c && d))) ≡ true → l && (a && (b && (c && (d && h)))) ≡ h
    go false a b c d h e = absurd (false≢true e)
    go true false b c d h e = absurd (false≢true e)
    go true true false c d h e = absurd (false≢true e)
    go true true true false d h e = absurd (false≢true e)
    go true true true true false h e = absurd (false≢true e)
    go true true true true true h e = refl

-- ---- slots freed one by one

pub own-length : (w : List ℕ) (s m : ℕ) → length (released_own w s m) ≡ length w
unfolding released_own released
own-length w s m = go (eqb (holder_of w s) m)
  where
    go : (b : Bool) → length (cond b (held w s nobody) w) ≡ length w
    go true = held-length w s nobody
    go false = refl

-- every word but the two of who holds the slots
pub own-other : (w : List ℕ) (s m j : ℕ) → j ≢ firsts_word → j ≢ seconds_word → get_or (released_own w s m) j 0 ≡ get_or w j 0
unfolding released_own released
own-other w s m j p q = go (eqb (holder_of w s) m)
  where
    go : (b : Bool) → get_or (cond b (held w s nobody) w) j 0 ≡ get_or w j 0
    go true = held-other w s nobody j p q
    go false = refl

-- and who holds another slot
pub own-else : (w : List ℕ) (s m i : ℕ) → seconds_word < length w → i ≢ s → holder_of (released_own w s m) i ≡ holder_of w i
unfolding released_own released
own-else w s m i l n = go (eqb (holder_of w s) m)
  where
    go : (b : Bool) → holder_of (cond b (held w s nobody) w) i ≡ holder_of w i
    go true = held-else w s nobody l i n
    go false = refl

pub freed-length : (w : List ℕ) (m n : ℕ) → length (freed w m n) ≡ length w
unfolding freed
freed-length w m zero = refl
freed-length w m (suc n) = own-length (freed w m n) n m ∙ freed-length w m n

pub freed-other : (w : List ℕ) (m n j : ℕ) → j ≢ firsts_word → j ≢ seconds_word → get_or (freed w m n) j 0 ≡ get_or w j 0
unfolding freed
freed-other w m zero j p q = refl
freed-other w m (suc n) j p q = own-other (freed w m n) n m j p q ∙ freed-other w m n j p q

pub freed-room : (w : List ℕ) (m n : ℕ) → Room w → Room (freed w m n)
freed-room w m n o =
    room-same w (freed w m n) (freed-other w m n slots_word (omega arith) (omega arith)) (freed-other w m n ring_word (omega arith) (omega arith))
    (freed-length w m n) o

pub freed-slots : (w : List ℕ) (m n : ℕ) → slots_of (freed w m n) ≡ slots_of w
freed-slots w m n = freed-other w m n slots_word (omega arith) (omega arith)

-- a turn of the loop that frees: what its store asks for, and what it leaves
pub freed-ready : (w v : List ℕ) (m n : ℕ) → v ≡ freed w m n → Directory w → n < slots_of w → Directory v × (n < slots_of v)
freed-ready w v m n e o h =
    let s : slots_of v ≡ slots_of w = ap (λ (y : List ℕ). slots_of y) e ∙ freed-slots w m n in
    (directory-same w v s (ap length e ∙ freed-length w m n) o, omega arith)

pub freed-turn : (w v u : List ℕ) (m n : ℕ) → v ≡ freed w m n → u ≡ released_own v n m → u ≡ freed w m (n + 1)
unfolding freed
freed-turn w v u m n e f = f ∙ ap (λ (y : List ℕ). released_own y n m) e ∙ ap (λ (k : ℕ). freed w m k) (sym (add-one n))

-- bytes that are the same up to the last word
pub spelled-last : (w : List ℕ) (k : Key) (s : ℕ) → get_or w (entry_of s + len_word) 0 ≡ k.len → get_or w (entry_of s + a_word) 0 ≡ k.a →
    get_or w (entry_of s + b_word) 0 ≡ k.b → get_or w (entry_of s + c_word) 0 ≡ k.c → eqb (get_or w (entry_of s + d_word) 0) k.d ≡ spells w k s
unfolding spells
spelled-last w k s p q r t = sym (rw (eq-eqb _ _ p, eq-eqb _ _ q, eq-eqb _ _ r, eq-eqb _ _ t))
