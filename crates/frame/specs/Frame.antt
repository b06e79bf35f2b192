-- What stands in a room after a change of one slot: everything the room has, in one record, with a law for each change and for each run of
-- them that a call makes.
-- Assumes nothing.
use Rattle.std.specs.Prelude.{◌≡◌, refl, ◌≢◌, ◌⊎◌, ℕ, ◌+◌, ◌*◌, ◌≤◌, ◌<◌, drop}
use Rattle.std.proofs.Common.{sym, ◌∙◌, inl, inr, length-set, get_or-set_same}
use Rattle.std.proofs.Math.Path.{ap, ap₂}
use mathlib.Core.List.{List, [], ◌∷◌}
use Rattle.std.proofs.Math.Decide.{dec_lt}
use native.Mathlib.Omega.{arith}
use Rattle.std.proofs.Math.ListN.{length, get_or, take, set}
use Rattle.std.proofs.Math.Seq.{get_or-set_other}
use Rattle.base.specs.Writes.{writes, Misses, length-writes, read_past, read-nth}
use Rattle.base.specs.Splice.{splice-part, splice-before, splice-after, part_ext}
use Rattle.keys.specs.declared.Key.{Key}
use Rattle.layout.specs.Layout.{slots_word, ring_word, last_word, firsts_word, seconds_word, len_word, a_word, b_word, c_word, d_word, header_words, entry_words}
use Rattle.layout.specs.Layout.{nobody, size_of}
use Rattle.room.specs.Room.{
  slots_of,
  ring_of,
  last_of,
  entry_of,
  start_of,
  end_of,
  Room,
  holder_of,
  use_of,
  key_at,
  body_from,
  body_of,
  with_body,
  entered,
  with_use,
}
use Rattle.room.specs.Room.{held, released, with_reading}
use Rattle.room.specs.Laws.{room-same, slot-in, body_end, body-header, body-room}
use Rattle.room.specs.Entries.{holder-same, held-length, held-other, held-here, held-else}

-- v is w but for slot s, which has use u, key k and body b, and for the last reading, which is t
pub record Changed (w v : List ℕ) (s u : ℕ) (k : Key) (b : List ℕ) (t : ℕ) : Type 0 where
  pub inside : s < slots_of w
  pub room : Room v
  pub slots : slots_of v ≡ slots_of w
  pub ring : ring_of v ≡ ring_of w
  pub last : last_of v ≡ t
  pub used : use_of v s ≡ u
  pub key : key_at v s ≡ k
  pub body : body_of v s ≡ b
  pub holders : (i : ℕ) → i ≢ s → holder_of v i ≡ holder_of w i
  pub entries : (i j : ℕ) → i < slots_of w → i ≢ s → entry_of i ≤ j → j < entry_of i + entry_words → get_or v j 0 ≡ get_or w j 0
  pub bodies : (i : ℕ) → i < slots_of w → i ≢ s → body_of v i ≡ body_of w i

-- ---- words and what they make

apart : (i s : ℕ) → i ≢ s → (i < s) ⊎ (s < i)
apart i s h = go (dec_lt i s)
  where
    go : Dec (i < s) → (i < s) ⊎ (s < i)
    go (yes p) = inl p
    go (no p) = inr (omega arith)

-- a key is its words
pub key-ext : (w v : List ℕ) (s : ℕ) → holder_of v s ≡ holder_of w s → ((j : ℕ) → entry_of s < j → j < entry_of s + entry_words → get_or v j 0 ≡ get_or w j 0) →
    key_at v s ≡ key_at w s
unfolding key_at
key-ext w v s e h =
    let len = h (entry_of s + len_word) (omega arith) (omega arith) in
    let a = h (entry_of s + a_word) (omega arith) (omega arith) in
    let b = h (entry_of s + b_word) (omega arith) (omega arith) in
    let c = h (entry_of s + c_word) (omega arith) (omega arith) in
    let d = h (entry_of s + d_word) (omega arith) (omega arith) in
    λ i. record { holder = e i; len = len i; a = a i; b = b i; c = c i; d = d i }

-- who holds a slot is a part of its key; a key that nobody holds
pub key-holder : (w : List ℕ) (s : ℕ) → (key_at w s).holder ≡ holder_of w s
unfolding key_at
key-holder w s = refl

abbrev pub unheld : Key → Key
unheld k = record { holder = nobody; len = k.len; a = k.a; b = k.b; c = k.c; d = k.d }

-- words below the bodies do not change a body
pub body_ext : (w v : List ℕ) → length v ≡ length w → slots_of v ≡ slots_of w → ring_of v ≡ ring_of w →
    ((j : ℕ) → header_words + entry_words * slots_of w ≤ j → get_or v j 0 ≡ get_or w j 0) → (i : ℕ) → body_of v i ≡ body_of w i
unfolding body_from
body_ext w v l n r f i =
    ap₂ (λ (n r : ℕ). take (size_of r) (drop (header_words + entry_words * n + i * size_of r) v)) n r ∙
    part_ext (start_of w i) (size_of (ring_of w)) v w l (λ j h. f (start_of w i + j) (omega arith))

-- ---- one change

-- in the last reading, in who holds slot s and in its entry
module _ (w v : List ℕ) (s u : ℕ) (k : Key) (t : ℕ) (o : Room w) (h : s < slots_of w) where
  pub low-change : length v ≡ length w →
      ((j : ℕ) → j ≢ last_word → j ≢ firsts_word → j ≢ seconds_word → (j < entry_of s) ⊎ (entry_of s + entry_words ≤ j) → get_or v j 0 ≡ get_or w j 0) →
      ((i : ℕ) → i ≢ s → holder_of v i ≡ holder_of w i) → use_of v s ≡ u → key_at v s ≡ k → last_of v ≡ t → Changed w v s u k (body_of w s) t
  low-change l f hs p q r =
      let n : slots_of v ≡ slots_of w = f slots_word (omega arith) (omega arith) (omega arith) (inl (omega arith)) in
      let m : ring_of v ≡ ring_of w = f ring_word (omega arith) (omega arith) (omega arith) (inl (omega arith)) in
      let body : (i : ℕ) → body_of v i ≡ body_of w i =
      body_ext w v l n m (λ j g. f j (omega arith) (omega arith) (omega arith) (inr (omega arith))) in
      record {
        inside = h;
        room = room-same w v n m l o;
        slots = n;
        ring = m;
        last = r;
        used = p;
        key = q;
        body = body s;
        holders = hs;
        entries = λ i j a ne g g'. f j (omega arith) (omega arith) (omega arith) (beside i j ne g g');
        bodies = λ i a ne. body i;
      }
    where
      beside : (i j : ℕ) → i ≢ s → entry_of i ≤ j → j < entry_of i + entry_words → (j < entry_of s) ⊎ (entry_of s + entry_words ≤ j)
      beside i j ne g g' = pick (apart i s ne)
        where
          pick : (i < s) ⊎ (s < i) → (j < entry_of s) ⊎ (entry_of s + entry_words ≤ j)
          pick (inl p) = inl (omega arith)
          pick (inr p) = inr (omega arith)

module _ (w : List ℕ) (s : ℕ) (o : Room w) (h : s < slots_of w) where
  -- none
  pub unchanged : Changed w w s (use_of w s) (key_at w s) (body_of w s) (last_of w)
  unchanged = low-change w w s (use_of w s) (key_at w s) (last_of w) o h refl (λ j n m k g. refl) (λ i n. refl) refl refl refl

  -- the last reading
  pub reading-change : (t : ℕ) → Changed w (with_reading w t) s (use_of w s) (key_at w s) (body_of w s) t
  unfolding with_reading
  reading-change t =
      let v = set w last_word t in
      let f : (j : ℕ) → j ≢ last_word → get_or v j 0 ≡ get_or w j 0 = λ j n. get_or-set_other w last_word j t 0 n in
      let hs : (i : ℕ) → holder_of v i ≡ holder_of w i = holder-same w v (f firsts_word (omega arith)) (f seconds_word (omega arith)) in
      low-change w v s (use_of w s) (key_at w s) t o h (length-set w last_word t) (λ j n m k g. f j n) (λ i n. hs i) (f (entry_of s) (omega arith))
      (key-ext w v s (hs s) (λ j a b. f j (omega arith))) (get_or-set_same w last_word t 0 (omega (arith, o.long)))

  -- a use
  pub use-change : (u : ℕ) → Changed w (with_use w s u) s u (key_at w s) (body_of w s) (last_of w)
  unfolding with_use
  use-change u =
      let v = set w (entry_of s) u in
      let f : (j : ℕ) → j ≢ entry_of s → get_or v j 0 ≡ get_or w j 0 = λ j n. get_or-set_other w (entry_of s) j u 0 n in
      let hs : (i : ℕ) → holder_of v i ≡ holder_of w i = holder-same w v (f firsts_word (omega arith)) (f seconds_word (omega arith)) in
      low-change w v s u (key_at w s) (last_of w) o h (length-set w (entry_of s) u) (λ j n m k g. f j (out j g)) (λ i n. hs i)
      (get_or-set_same w (entry_of s) u 0 (omega (arith, o.long))) (key-ext w v s (hs s) (λ j a b. f j (omega arith))) (f last_word (omega arith))
    where
      out : (j : ℕ) → (j < entry_of s) ⊎ (entry_of s + entry_words ≤ j) → j ≢ entry_of s
      out j (inl p) = omega arith
      out j (inr p) = omega arith

  -- nobody holds it any more
  pub release-change : Changed w (released w s) s (use_of w s) (unheld (key_at w s)) (body_of w s) (last_of w)
  unfolding released key_at
  release-change =
      let v = held w s nobody in
      let l : seconds_word < length w = omega (arith, o.long) in
      let f : (j : ℕ) → j ≢ firsts_word → j ≢ seconds_word → get_or v j 0 ≡ get_or w j 0 = held-other w s nobody in
      let e : holder_of v s ≡ nobody = held-here w s nobody l (omega arith) in
      let len = f (entry_of s + len_word) (omega arith) (omega arith) in
      let a = f (entry_of s + a_word) (omega arith) (omega arith) in
      let b = f (entry_of s + b_word) (omega arith) (omega arith) in
      let c = f (entry_of s + c_word) (omega arith) (omega arith) in
      let d = f (entry_of s + d_word) (omega arith) (omega arith) in
      low-change w v s (use_of w s) (unheld (key_at w s)) (last_of w) o h (held-length w s nobody) (λ j n m k g. f j m k) (held-else w s nobody l)
      (f (entry_of s) (omega arith) (omega arith)) (λ i. record { holder = e i; len = len i; a = a i; b = b i; c = c i; d = d i })
      (f last_word (omega arith) (omega arith))

  -- an entry, with a key that a slot can have
  pub entry-change : (u : ℕ) (k : Key) → k.holder < 4 → Changed w (entered w s u k) s u k (body_of w s) (last_of w)
  unfolding entered key_at
  entry-change u k small =
      let e = entry_of s in
      let y = held w s k.holder in
      let ws : List (ℕ × ℕ) = (e, u) ∷ (e + len_word, k.len) ∷ (e + a_word, k.a) ∷ (e + b_word, k.b) ∷ (e + c_word, k.c) ∷ (e + d_word, k.d) ∷ [] in
      let v = writes y ws in
      let l : seconds_word < length w = omega (arith, o.long) in
      let z : length y ≡ length w = held-length w s k.holder in
      let hs : (i : ℕ) → holder_of v i ≡ holder_of y i =
      holder-same y v (read_past ws y firsts_word (omega arith)) (read_past ws y seconds_word (omega arith)) in
      let holder : holder_of v s ≡ k.holder = hs s ∙ held-here w s k.holder l small in
      let len : get_or v (e + len_word) 0 ≡ k.len = read-nth ws 1 y (omega arith) (omega (arith, o.long, z)) (omega arith) in
      let a : get_or v (e + a_word) 0 ≡ k.a = read-nth ws 2 y (omega arith) (omega (arith, o.long, z)) (omega arith) in
      let b : get_or v (e + b_word) 0 ≡ k.b = read-nth ws 3 y (omega arith) (omega (arith, o.long, z)) (omega arith) in
      let c : get_or v (e + c_word) 0 ≡ k.c = read-nth ws 4 y (omega arith) (omega (arith, o.long, z)) (omega arith) in
      let d : get_or v (e + d_word) 0 ≡ k.d = read-nth ws 5 y (omega arith) (omega (arith, o.long, z)) tt in
      low-change w v s u k (last_of w) o h (length-writes ws y ∙ z)
      (λ j n m n' g. read_past ws y j (out j g) ∙ held-other w s k.holder j m n') (λ i ne. hs i ∙ held-else w s k.holder l i ne)
      (read-nth ws 0 y (omega arith) (omega (arith, o.long, z)) (omega arith))
      (λ i. record { holder = holder i; len = len i; a = a i; b = b i; c = c i; d = d i })
      (read_past ws y last_word (omega arith) ∙ held-other w s k.holder last_word (omega arith) (omega arith))
    where
      out : (j : ℕ) → (j < entry_of s) ⊎ (entry_of s + entry_words ≤ j) →
          Misses j ((entry_of s, u) ∷ (entry_of s + len_word, k.len) ∷ (entry_of s + a_word, k.a) ∷ (entry_of s + b_word, k.b) ∷ (entry_of s + c_word, k.c) ∷
          (entry_of s + d_word, k.d) ∷ [])
      out j (inl p) = omega arith
      out j (inr p) = omega arith

  -- a body
  pub body-change : (b : List ℕ) → length b ≡ size_of (ring_of w) → Changed w (with_body w s b) s (use_of w s) (key_at w s) b (last_of w)
  unfolding body_from
  body-change b l =
      let v = with_body w s b in
      let f = body-header w b s o h l in
      let n : slots_of v ≡ slots_of w = f slots_word (omega arith) in
      let r : ring_of v ≡ ring_of w = f ring_word (omega arith) in
      let hs : (i : ℕ) → holder_of v i ≡ holder_of w i = holder-same w v (f firsts_word (omega arith)) (f seconds_word (omega arith)) in
      let at : (i : ℕ) → body_of v i ≡ take (size_of (ring_of w)) (drop (start_of w i) v) =
      λ i. ap₂ (λ (n r : ℕ). take (size_of r) (drop (header_words + entry_words * n + i * size_of r) v)) n r in
      record {
        inside = h;
        room = body-room w b s o h l;
        slots = n;
        ring = r;
        last = f last_word (omega arith);
        used = f (entry_of s) (omega arith);
        key = key-ext w v s (hs s) (λ j p q. f j (omega arith));
        body = at s ∙ ap (λ (n : ℕ). take n (drop (start_of w s) v)) (sym l) ∙ splice-part (start_of w s) (end_of w s) w b fit (body_end w s o h);
        holders = λ i ne. hs i;
        entries = λ i j a ne p q. f j (omega arith);
        bodies = λ i a ne. at i ∙ other i (apart i s ne);
      }
    where
      fit : start_of w s + length b ≡ end_of w s
      fit = ap (λ (n : ℕ). start_of w s + n) l

      other : (i : ℕ) → (i < s) ⊎ (s < i) → take (size_of (ring_of w)) (drop (start_of w i) (with_body w s b)) ≡ take (size_of (ring_of w)) (drop (start_of w i) w)
      other i (inl p) = splice-before (start_of w s) (end_of w s) w b fit (body_end w s o h) (start_of w i) (size_of (ring_of w))
          (omega (arith, slot-in i s (size_of (ring_of w)) p))
      other i (inr p) = splice-after (start_of w s) (end_of w s) w b fit (body_end w s o h) (start_of w i) (size_of (ring_of w))
          (omega (arith, slot-in s i (size_of (ring_of w)) p))

-- ---- a change after changes

-- of the same slot: what is said of it last holds
then-changed : (w v x : List ℕ) (s u u' : ℕ) (k k' : Key) (b b' : List ℕ) (t t' : ℕ) → Changed w v s u k b t → Changed v x s u' k' b' t' →
    Changed w x s u' k' b' t'
then-changed w v x s u u' k k' b b' t t' c d = record {
  inside = c.inside;
  room = d.room;
  slots = d.slots ∙ c.slots;
  ring = d.ring ∙ c.ring;
  last = d.last;
  used = d.used;
  key = d.key;
  body = d.body;
  holders = λ i ne. d.holders i ne ∙ c.holders i ne;
  entries = λ i j a ne p q. d.entries i j (omega (arith, c.slots)) ne p q ∙ c.entries i j a ne p q;
  bodies = λ i a ne. d.bodies i (omega (arith, c.slots)) ne ∙ c.bodies i a ne;
}

-- equal slots are the same change
like : (w v : List ℕ) (s u u' : ℕ) (k k' : Key) (b b' : List ℕ) (t t' : ℕ) → u ≡ u' → k ≡ k' → b ≡ b' → t ≡ t' → Changed w v s u k b t →
    Changed w v s u' k' b' t'
like w v s u u' k k' b b' t t' p q r e c = record {
  inside = c.inside;
  room = c.room;
  slots = c.slots;
  ring = c.ring;
  last = c.last ∙ e;
  used = c.used ∙ p;
  key = c.key ∙ q;
  body = c.body ∙ r;
  holders = c.holders;
  entries = c.entries;
  bodies = c.bodies;
}

module _ {w v : List ℕ} {s u : ℕ} {k : Key} {b : List ℕ} {t : ℕ} (c : Changed w v s u k b t) where
  -- slot s is one of v's
  pub inside-after : s < slots_of v
  inside-after = omega (arith, c.inside, c.slots)

  pub put-reading : (t' : ℕ) → Changed w (with_reading v t') s u k b t'
  put-reading t' =
      then-changed w v (with_reading v t') s u u k k b b t t' c
      (like v (with_reading v t') s (use_of v s) u (key_at v s) k (body_of v s) b t' t' c.used c.key c.body refl
      (reading-change v s c.room inside-after t'))

  pub put-use : (u' : ℕ) → Changed w (with_use v s u') s u' k b t
  put-use u' =
      then-changed w v (with_use v s u') s u u' k k b b t t c
      (like v (with_use v s u') s u' u' (key_at v s) k (body_of v s) b (last_of v) t refl c.key c.body c.last (use-change v s c.room inside-after u'))

  pub put-release : Changed w (released v s) s u (unheld k) b t
  put-release =
      then-changed w v (released v s) s u u k (unheld k) b b t t c
      (like v (released v s) s (use_of v s) u (unheld (key_at v s)) (unheld k) (body_of v s) b (last_of v) t c.used (ap unheld c.key) c.body c.last
      (release-change v s c.room inside-after))

  pub put-entry : (u' : ℕ) (k' : Key) → k'.holder < 4 → Changed w (entered v s u' k') s u' k' b t
  put-entry u' k' small =
      then-changed w v (entered v s u' k') s u u' k k' b b t t c
      (like v (entered v s u' k') s u' u' k' k' (body_of v s) b (last_of v) t refl refl c.body c.last (entry-change v s c.room inside-after u' k' small))

  -- of another slot
  pub other-use : (i : ℕ) → i < slots_of w → i ≢ s → use_of v i ≡ use_of w i
  other-use i a ne = c.entries i (entry_of i) a ne (omega arith) (omega arith)

  pub other-holder : (i : ℕ) → i < slots_of w → i ≢ s → holder_of v i ≡ holder_of w i
  other-holder i a ne = c.holders i ne

  pub other_key : (i : ℕ) → i < slots_of w → i ≢ s → key_at v i ≡ key_at w i
  other_key i a ne = key-ext w v i (other-holder i a ne) (λ j p q. c.entries i j a ne (omega arith) q)

-- ---- the runs of changes that calls make

module _ (w : List ℕ) (s t : ℕ) (o : Room w) (h : s < slots_of w) where
  -- only the reading
  pub read-run : Changed w (with_reading w t) s (use_of w s) (key_at w s) (body_of w s) t
  read-run = put-reading (unchanged w s o h) t

  -- nobody's any more, and the reading
  pub release-run : Changed w (with_reading (released w s) t) s (use_of w s) (unheld (key_at w s)) (body_of w s) t
  release-run = put-reading (put-release (unchanged w s o h)) t
