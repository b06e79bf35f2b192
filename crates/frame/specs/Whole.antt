-- Changes of every slot at once: a room that was made, and one that was cleared.
-- Assumes nothing.
use Rattle.std.proofs.Math.Path.{◌≡◌, refl, ap}
use Rattle.std.proofs.Common.{sym, ◌∙◌, arith, eq-eqb, ne_eqb}
use Rattle.std.specs.Prelude.{true, List, ◌≢◌, replicate}
use Prim.Native.Nat.{ℕ, zero, suc, ◌+◌, ◌*◌, ◌≤◌, ◌<◌}
use Rattle.std.proofs.Math.Decide.{ℕ_discrete, dec_lt}
use Rattle.std.proofs.Math.ListN.{length, get_or, set, length-set, length-replicate, get_or-replicate, get_or-eq_default}
use Rattle.std.proofs.Math.Seq.{get_or-set_same, get_or-set_other}
use Rattle.layout.specs.Layout.{slots_word, ring_word, last_word, firsts_word, seconds_word, entry_words, size_of}
use Rattle.room.specs.Room.{
  slots_of,
  ring_of,
  last_of,
  length_of,
  entry_of,
  Room,
  empty,
  fits,
  holder_of,
  use_of,
  key_at,
  body_of,
  released,
  released_own,
  with_reading,
}
use Rattle.room.specs.Room.{freed, cleared}
use Rattle.room.specs.Laws.{room-same, fit-lengths}
use Rattle.room.specs.Entries.{holder-same, holder-none, held-here, own-else, freed-length, freed-other}
use Rattle.frame.specs.Frame.{key-ext, body_ext}
use Rattle.frame.specs.Distinct.{Distinct}

-- ---- where every slot is free

module _ (w : List ℕ) (f : (i : ℕ) → i < slots_of w → holder_of w i ≡ 0) where
  pub free-distinct : Distinct w
  free-distinct = record { once = λ i j p q a b e. absurd (a (f i p)) }

-- ---- a room that was made

module _ (n r : ℕ) where
  pub empty-word : (j : ℕ) → last_word ≤ j → get_or (empty n r) j 0 ≡ 0
  unfolding empty
  empty-word zero h = absurd (omega arith)
  empty-word (suc zero) h = absurd (omega arith)
  empty-word (suc (suc zero)) h = refl
  empty-word (suc (suc (suc zero))) h = refl
  empty-word (suc (suc (suc (suc zero)))) h = refl
  empty-word (suc (suc (suc (suc (suc j))))) h = go (dec_lt j (entry_words * n + n * size_of r))
    where
      go : Dec (j < entry_words * n + n * size_of r) → ◌≡◌ {A = ℕ} (get_or (replicate (entry_words * n + n * size_of r) 0) j 0) 0
      go (yes p) = get_or-replicate (entry_words * n + n * size_of r) j 0 0 p
      go (no p) = get_or-eq_default (replicate (entry_words * n + n * size_of r) 0) 0
          (omega (arith, length-replicate {A = ℕ} (entry_words * n + n * size_of r) 0))

  pub empty-length : length (empty n r) ≡ length_of n r
  unfolding empty
  empty-length = omega (arith, length-replicate {A = ℕ} (entry_words * n + n * size_of r) 0)

  pub empty-free : (i : ℕ) → holder_of (empty n r) i ≡ 0
  empty-free i = holder-none (empty n r) i (empty-word firsts_word (omega arith)) (empty-word seconds_word (omega arith))

  pub empty-room : (l : ℕ) → fits n r l ≡ true → Room (empty n r)
  unfolding empty
  empty-room l e =
      let o = fit-lengths n r l e in
      record { one = o.one; few = o.few; some = o.some; small = o.small; long = empty-length }

  pub empty-distinct : Distinct (empty n r)
  empty-distinct = free-distinct (empty n r) (λ i h. empty-free i)

-- ---- a room that was cleared

-- v is w without the slots that m holds, and with the last reading t
pub record Cleared (w v : List ℕ) (m t : ℕ) : Type 0 where
  pub room : Room v
  pub slots : slots_of v ≡ slots_of w
  pub ring : ring_of v ≡ ring_of w
  pub last : last_of v ≡ t
  pub free : (i : ℕ) → i < slots_of w → holder_of w i ≡ m → holder_of v i ≡ 0
  pub stays : (i : ℕ) → i < slots_of w → holder_of w i ≢ m → holder_of v i ≡ holder_of w i
  pub words : (j : ℕ) → j ≢ last_word → j ≢ firsts_word → j ≢ seconds_word → get_or v j 0 ≡ get_or w j 0
  pub uses : (i : ℕ) → use_of v i ≡ use_of w i
  pub keys : (i : ℕ) → i < slots_of w → holder_of w i ≢ m → key_at v i ≡ key_at w i
  pub bodies : (i : ℕ) → body_of v i ≡ body_of w i

module _ (w v : List ℕ) (m t : ℕ) (c : Cleared w v m t) where
  -- a slot in use was, and is not m's
  pub cleared-others : (i : ℕ) → i < slots_of w → holder_of v i ≢ 0 → holder_of w i ≢ m
  cleared-others i h n e = n (c.free i h e)

  pub cleared-distinct : Distinct w → Distinct v
  cleared-distinct d = record {
    once = λ i j p q a b e.
        let p' : i < slots_of w = omega (arith, c.slots) in
        let q' : j < slots_of w = omega (arith, c.slots) in
        let x = cleared-others i p' a in
        let y = cleared-others j q' b in
        d.once i j p' q' (λ z. a (c.stays i p' x ∙ z)) (λ z. b (c.stays j q' y ∙ z)) (sym (c.keys i p' x) ∙ e ∙ c.keys j q' y);
  }

-- who holds one of the first n slots
own-here : (w : List ℕ) (s m : ℕ) → seconds_word < length w → holder_of w s ≡ m → holder_of (released_own w s m) s ≡ 0
unfolding released_own released
own-here w s m l e = rw (eq-eqb (holder_of w s) m e) (held-here w s 0 l (omega arith))

own-kept : (w : List ℕ) (s m : ℕ) → holder_of w s ≢ m → holder_of (released_own w s m) s ≡ holder_of w s
unfolding released_own
own-kept w s m n = rw (ne_eqb (holder_of w s) m n)

module _ (w : List ℕ) (m : ℕ) (l : seconds_word < length w) where
  -- a slot that was not passed yet is as it was
  later-holder : (n i : ℕ) → n ≤ i → holder_of (freed w m n) i ≡ holder_of w i
  unfolding freed
  later-holder zero i h = refl
  later-holder (suc n) i h = own-else (freed w m n) n m i (omega (arith, freed-length w m n)) (omega arith) ∙ later-holder n i (omega arith)

  freed-holder : (n i : ℕ) → i < n → holder_of w i ≡ m → holder_of (freed w m n) i ≡ 0
  unfolding freed
  freed-holder zero i h e = absurd (omega arith)
  freed-holder (suc n) i h e = go (ℕ_discrete i n) (freed-holder n i)
    where
      go : Dec (i ≡ n) → (i < n → holder_of w i ≡ m → holder_of (freed w m n) i ≡ 0) → holder_of (released_own (freed w m n) n m) i ≡ 0
      go (yes p) f =
          ap (holder_of (released_own (freed w m n) n m)) p ∙
          own-here (freed w m n) n m (omega (arith, freed-length w m n)) (later-holder n n (omega arith) ∙ ap (holder_of w) (sym p) ∙ e)
      go (no p) f = own-else (freed w m n) n m i (omega (arith, freed-length w m n)) p ∙ f (omega arith) e

  kept-holder : (n i : ℕ) → holder_of w i ≢ m → holder_of (freed w m n) i ≡ holder_of w i
  unfolding freed
  kept-holder zero i e = refl
  kept-holder (suc n) i e = go (ℕ_discrete i n) (kept-holder n i e)
    where
      go : Dec (i ≡ n) → holder_of (freed w m n) i ≡ holder_of w i → holder_of (released_own (freed w m n) n m) i ≡ holder_of w i
      go (yes p) f =
          ap (holder_of (released_own (freed w m n) n m)) p ∙
          own-kept (freed w m n) n m (λ z. e (sym f ∙ ap (holder_of (freed w m n)) p ∙ z)) ∙ ap (holder_of (freed w m n)) (sym p) ∙ f
      go (no p) f = own-else (freed w m n) n m i (omega (arith, freed-length w m n)) p ∙ f

module _ (w : List ℕ) (m : ℕ) (o : Room w) where
  -- and the reading
  pub clear-read-run : (t : ℕ) → Cleared w (with_reading (cleared w m) t) m t
  unfolding with_reading
  clear-read-run t =
      let y = cleared w m in
      let v = set y last_word t in
      let l = freed-length w m (slots_of w) in
      let there : seconds_word < length w = omega (arith, o.long) in
      let long : length v ≡ length w = length-set y last_word t ∙ l in
      let f : (j : ℕ) → j ≢ last_word → get_or v j 0 ≡ get_or y j 0 = λ j n. get_or-set_other y last_word j t 0 n in
      let g : (j : ℕ) → j ≢ last_word → j ≢ firsts_word → j ≢ seconds_word → get_or v j 0 ≡ get_or w j 0 =
      λ j n p q. f j n ∙ freed-other w m (slots_of w) j p q in
      let n : slots_of v ≡ slots_of w = g slots_word (omega arith) (omega arith) (omega arith) in
      let r : ring_of v ≡ ring_of w = g ring_word (omega arith) (omega arith) (omega arith) in
      let hs : (i : ℕ) → holder_of v i ≡ holder_of y i = holder-same y v (f firsts_word (omega arith)) (f seconds_word (omega arith)) in
      let stays : (i : ℕ) → holder_of w i ≢ m → holder_of v i ≡ holder_of w i = λ i ne. hs i ∙ kept-holder w m there (slots_of w) i ne in
      record {
        room = room-same w v n r long o;
        slots = n;
        ring = r;
        last = get_or-set_same y last_word t 0 (omega (arith, o.long, l));
        free = λ i h e. hs i ∙ freed-holder w m there (slots_of w) i h e;
        stays = λ i h ne. stays i ne;
        words = g;
        uses = λ i. g (entry_of i) (omega arith) (omega arith) (omega arith);
        keys = λ i h ne. key-ext w v i (stays i ne) (λ j p q. g j (omega arith) (omega arith) (omega arith));
        bodies = body_ext w v long n r (λ j p. g j (omega arith) (omega arith) (omega arith));
      }
