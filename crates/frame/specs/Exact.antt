-- The frame leaves nothing open: two rooms that the same change made of one are equal word for word.
-- Assumes nothing.
use Rattle.std.specs.Prelude.{◌≡◌, List, length, get_or, drop}
use Rattle.std.proofs.Math.Path.{sym, ap}
use Rattle.std.proofs.Common.{ap₂, ◌∙◌, mod-lt, div-add-mod', div-lt_iff_lt-mul, arith, get_or-take, get_or-drop}
use Prim.Native.Nat.{ℕ, zero, suc, ◌+◌, ◌-◌, ◌*◌, ◌/◌, ◌%◌, ◌≤◌, ◌<◌}
use Rattle.std.proofs.Math.Decide.{ℕ_discrete, dec_lt}
use Rattle.base.specs.Bits.{bit_at, bits-same, bit-lt}
use Rattle.keys.specs.declared.Key.{Key}
use Rattle.layout.specs.Layout.{firsts_word, seconds_word, header_words, entry_words, size_of}
use Rattle.room.specs.Room.{slots_of, ring_of, length_of, entry_of, start_of, holder_of, use_of, key_at, body_from, body_of}
use Rattle.frame.specs.Frame.{Changed}
use Rattle.frame.specs.Distinct.{holder-ext}

-- ---- a word by its place

-- a body's word
body-word : (v : List ℕ) (i m : ℕ) → m < size_of (ring_of v) → get_or (body_of v i) m 0 ≡ get_or v (start_of v i + m) 0
unfolding body_from
body-word v i m h = get_or-take (size_of (ring_of v)) (drop (start_of v i) v) m 0 h ∙ get_or-drop (start_of v i) v m 0

-- equal bodies at equal places
body-words : (v x : List ℕ) (i m : ℕ) → slots_of x ≡ slots_of v → ring_of x ≡ ring_of v → body_of x i ≡ body_of v i → m < size_of (ring_of v) →
    get_or x (start_of v i + m) 0 ≡ get_or v (start_of v i + m) 0
body-words v x i m n r e h =
    let p : start_of x i ≡ start_of v i = ap₂ (λ (n r : ℕ). header_words + entry_words * n + i * size_of r) n r in
    ap (λ (a : ℕ). get_or x (a + m) 0) (sym p) ∙ sym (body-word x i m (omega (arith, r))) ∙ ap (λ (b : List ℕ). get_or b m 0) e ∙ body-word v i m h

-- equal uses and keys
entry-words : (v x : List ℕ) (i m : ℕ) → use_of x i ≡ use_of v i → key_at x i ≡ key_at v i → m < entry_words → get_or x (entry_of i + m) 0 ≡ get_or v (entry_of i + m) 0
unfolding key_at
entry-words v x i zero u k h = let e : entry_of i + 0 ≡ entry_of i = omega arith in rw e u
entry-words v x i (suc zero) u k h = ap (λ (k : Key). k.len) k
entry-words v x i (suc (suc zero)) u k h = ap (λ (k : Key). k.a) k
entry-words v x i (suc (suc (suc zero))) u k h = ap (λ (k : Key). k.b) k
entry-words v x i (suc (suc (suc (suc zero)))) u k h = ap (λ (k : Key). k.c) k
entry-words v x i (suc (suc (suc (suc (suc zero))))) u k h = ap (λ (k : Key). k.d) k
entry-words v x i (suc (suc (suc (suc (suc (suc m)))))) u k h = absurd (omega arith)

-- equal holders: the two words have the same bits
module _ (v x : List ℕ) (f : (i : ℕ) → holder_of x i ≡ holder_of v i) where
  word_same : (j : ℕ) → ((i : ℕ) → bit_at (get_or x j 0) i ≡ bit_at (get_or v j 0) i) → get_or x j 0 ≡ get_or v j 0
  word_same j g = bits-same (get_or x j 0 + get_or v j 0) (get_or x j 0) (get_or v j 0) (omega arith) (omega arith) g

  firsts_same : get_or x firsts_word 0 ≡ get_or v firsts_word 0
  unfolding holder_of
  firsts_same = word_same firsts_word (λ i. omega (arith, f i, bit-lt (get_or x firsts_word 0) i, bit-lt (get_or v firsts_word 0) i))

  seconds-same : get_or x seconds_word 0 ≡ get_or v seconds_word 0
  unfolding holder_of
  seconds-same = word_same seconds_word (λ i. omega (arith, f i, bit-lt (get_or x firsts_word 0) i, bit-lt (get_or v firsts_word 0) i))

-- a place past a by q groups of z words and some
place : (a z j : ℕ) → 0 < z → a ≤ j → j ≡ a + (j - a) / z * z + (j - a) % z
place a z j p h = omega (arith, div-add-mod' (j - a) z)

module _ (w v x : List ℕ) (s u : ℕ) (k : Key) (b : List ℕ) (t : ℕ) (c : Changed w v s u k b t) (d : Changed w x s u k b t) where
  slots : slots_of x ≡ slots_of v
  slots = d.slots ∙ sym c.slots

  ring : ring_of x ≡ ring_of v
  ring = d.ring ∙ sym c.ring

  long : length x ≡ length v
  long = d.room.long ∙ ap₂ (λ (n r : ℕ). length_of n r) slots ring ∙ sym c.room.long

  -- a word of slot i's entry, and of its body
  entry : (i m : ℕ) → i < slots_of w → m < entry_words → get_or x (entry_of i + m) 0 ≡ get_or v (entry_of i + m) 0
  entry i m h l = go (ℕ_discrete i s)
    where
      go : Dec (i ≡ s) → get_or x (entry_of i + m) 0 ≡ get_or v (entry_of i + m) 0
      go (yes p) =
          entry-words v x i m (ap (use_of x) p ∙ d.used ∙ sym c.used ∙ ap (use_of v) (sym p))
          (ap (key_at x) p ∙ d.key ∙ sym c.key ∙ ap (key_at v) (sym p)) l
      go (no p) = d.entries i (entry_of i + m) h p (omega arith) (omega arith) ∙ sym (c.entries i (entry_of i + m) h p (omega arith) (omega arith))

  body : (i m : ℕ) → i < slots_of w → m < size_of (ring_of v) → get_or x (start_of v i + m) 0 ≡ get_or v (start_of v i + m) 0
  unfolding slots ring
  body i m h l = body-words v x i m slots ring (go (ℕ_discrete i s)) l
    where
      go : Dec (i ≡ s) → body_of x i ≡ body_of v i
      go (yes p) = ap (body_of x) p ∙ d.body ∙ sym c.body ∙ ap (body_of v) (sym p)
      go (no p) = d.bodies i h p ∙ sym (c.bodies i h p)

  -- who holds a slot, or one that the room does not have
  holder : (i : ℕ) → holder_of x i ≡ holder_of v i
  holder i = go (ℕ_discrete i s)
    where
      go : Dec (i ≡ s) → holder_of x i ≡ holder_of v i
      go (yes p) = ap (holder_of x) p ∙ holder-ext v x s (d.key ∙ sym c.key) ∙ ap (holder_of v) (sym p)
      go (no p) = d.holders i p ∙ sym (c.holders i p)

  header : (j : ℕ) → j < header_words → get_or x j 0 ≡ get_or v j 0
  unfolding slots ring
  header zero h = slots
  header (suc zero) h = ring
  header (suc (suc zero)) h = d.last ∙ sym c.last
  header (suc (suc (suc zero))) h = firsts_same v x holder
  header (suc (suc (suc (suc zero)))) h = seconds-same v x holder
  header (suc (suc (suc (suc (suc j))))) h = absurd (omega arith)

  word : (j : ℕ) → j < length v → get_or x j 0 ≡ get_or v j 0
  word j h = one (dec_lt j header_words)
    where
      e : ℕ
      e = header_words + entry_words * slots_of v

      z : ℕ
      z = size_of (ring_of v)

      three : e ≤ j → get_or x j 0 ≡ get_or v j 0
      three g =
          let q = (j - e) / z in
          let m = (j - e) % z in
          let at : j ≡ start_of v q + m = place e z j (omega arith) g in
          let lt : j - e < slots_of v * z = omega (arith, c.room.long) in
          let inside : q < slots_of w = omega (arith, (div-lt_iff_lt-mul {k = z} {x = j - e} {y = slots_of v} (omega arith)).1 lt, c.slots) in
          ap (λ (a : ℕ). get_or x a 0) at ∙ body q m inside (mod-lt (j - e) (omega arith)) ∙ ap (λ (a : ℕ). get_or v a 0) (sym at)

      two : Dec (j < e) → header_words ≤ j → get_or x j 0 ≡ get_or v j 0
      two (yes l) g =
          let q = (j - header_words) / entry_words in
          let m = (j - header_words) % entry_words in
          let ml : m < entry_words = mod-lt (j - header_words) (omega arith) in
          let p = place header_words entry_words j (omega arith) g in
          let at : j ≡ entry_of q + m = omega arith in
          let inside : q < slots_of w = omega (arith, c.slots) in
          ap (λ (a : ℕ). get_or x a 0) at ∙ entry q m inside ml ∙ ap (λ (a : ℕ). get_or v a 0) (sym at)
      two (no l) g = three (omega arith)

      one : Dec (j < header_words) → get_or x j 0 ≡ get_or v j 0
      one (yes l) = header j l
      one (no l) = two (dec_lt j e) (omega arith)
