-- The laws of sweeping: a slot's use is decided by its own words as they were, so it does not matter that slots before it have their new use already.
-- Assumes nothing.
use Rattle.std.specs.Prelude.{◌≡◌, Bool, cond, ◌≢◌, set, eqb}
use Rattle.std.proofs.Math.Path.{refl, ap, subst}
use Rattle.std.proofs.Common.{sym, ◌∙◌, add-one, arith, get_or-set_same, eq-eqb, ne_eqb}
use Rattle.std.proofs.Math.Bool.{true, false}
use mathlib.Core.List.{List}
use Prim.Native.Nat.{ℕ, zero, suc, ◌+◌, ◌≤◌, ◌<◌}
use Rattle.std.proofs.Math.Decide.{ℕ_discrete}
use Rattle.std.proofs.Math.ListN.{length, get_or, length-set}
use Rattle.std.proofs.Math.Seq.{get_or-set_other}
use Rattle.layout.specs.Layout.{slots_word, ring_word, firsts_word, seconds_word, nobody}
use Rattle.ring.specs.Ring.{Shape}
use Rattle.room.specs.Room.{slots_of, ring_of, entry_of, Room, holder_of, use_of, used_at, body_of, with_use, held, released}
use Rattle.room.specs.Entries.{holder-same, held-length, held-other, held-here, held-else, used-ext}
use Rattle.room.specs.Laws.{room-same}
use Rattle.frame.specs.Frame.{body_ext}
use Rattle.opened.specs.Sound.{has_series}
use Rattle.stale.specs.Uses.{use_after, use_next, settled, swept, Readable, Ready}

-- ---- one slot

module _ (w : List ℕ) (i u : ℕ) where
  pub settled-length : length (settled w i u) ≡ length w
  unfolding settled released with_use
  settled-length = go (eqb u 0)
    where
      go : (b : Bool) → length (cond b (held w i nobody) (set w (entry_of i) u)) ≡ length w
      go true = held-length w i nobody
      go false = length-set w (entry_of i) u

  -- every word but its use and the two of who holds the slots
  settled-other : (j : ℕ) → j ≢ firsts_word → j ≢ seconds_word → j ≢ entry_of i → get_or (settled w i u) j 0 ≡ get_or w j 0
  unfolding settled released with_use
  settled-other j p q n = go (eqb u 0)
    where
      go : (b : Bool) → get_or (cond b (held w i nobody) (set w (entry_of i) u)) j 0 ≡ get_or w j 0
      go true = held-other w i nobody j p q
      go false = get_or-set_other w (entry_of i) j u 0 n

  -- a use is none of the two words
  used-holder : (k : ℕ) → holder_of (set w (entry_of i) u) k ≡ holder_of w k
  used-holder k =
      holder-same w (set w (entry_of i) u) (get_or-set_other w (entry_of i) firsts_word u 0 (omega arith))
      (get_or-set_other w (entry_of i) seconds_word u 0 (omega arith)) k

  -- and who holds another slot
  settled-else : seconds_word < length w → (k : ℕ) → k ≢ i → holder_of (settled w i u) k ≡ holder_of w k
  unfolding settled released with_use
  settled-else l k n = go (eqb u 0)
    where
      go : (b : Bool) → holder_of (cond b (held w i nobody) (set w (entry_of i) u)) k ≡ holder_of w k
      go true = held-else w i nobody l k n
      go false = used-holder k

  -- free
  settled-free : u ≡ 0 → seconds_word < length w → holder_of (settled w i u) i ≡ 0
  unfolding settled released
  settled-free e l = rw (eq-eqb u 0 e) (held-here w i nobody l (omega arith))

  -- or in use as it was
  settled-held : u ≢ 0 → holder_of (settled w i u) i ≡ holder_of w i
  unfolding settled with_use
  settled-held n = rw (ne_eqb u 0 n) (used-holder i)

  settled-use : u ≢ 0 → entry_of i < length w → use_of (settled w i u) i ≡ u
  unfolding settled with_use
  settled-use n l = rw (ne_eqb u 0 n) (get_or-set_same w (entry_of i) u 0 l)

module _ (w : List ℕ) (t ticks stale : ℕ) where
  pub swept-length : (n : ℕ) → length (swept w t ticks stale n) ≡ length w
  unfolding swept
  swept-length zero = refl
  swept-length (suc n) = settled-length (swept w t ticks stale n) n (use_next w t ticks stale n) ∙ swept-length n

  -- every word but the uses of the first n slots, and the two of who holds them
  pub swept-other : (n j : ℕ) → j ≢ firsts_word → j ≢ seconds_word → ((i : ℕ) → i < n → j ≢ entry_of i) → get_or (swept w t ticks stale n) j 0 ≡ get_or w j 0
  unfolding swept
  swept-other zero j p q e = refl
  swept-other (suc n) j p q e =
      settled-other (swept w t ticks stale n) n (use_next w t ticks stale n) j p q (e n (omega arith)) ∙
      swept-other n j p q (λ i l. e i (omega arith))

  pub swept-slots : (n : ℕ) → slots_of (swept w t ticks stale n) ≡ slots_of w
  swept-slots n = swept-other n slots_word (omega arith) (omega arith) (λ i l. omega arith)

  pub swept-ring : (n : ℕ) → ring_of (swept w t ticks stale n) ≡ ring_of w
  swept-ring n = swept-other n ring_word (omega arith) (omega arith) (λ i l. omega arith)

  pub swept-room : (n : ℕ) → Room w → Room (swept w t ticks stale n)
  swept-room n o = room-same w (swept w t ticks stale n) (swept-slots n) (swept-ring n) (swept-length n) o

  pub swept-body : (n i : ℕ) → n ≤ slots_of w → body_of (swept w t ticks stale n) i ≡ body_of w i
  swept-body n i h =
      body_ext w (swept w t ticks stale n) (swept-length n) (swept-slots n) (swept-ring n)
      (λ j p. swept-other n j (omega arith) (omega arith) (λ k l. omega arith)) i

  -- of a slot that was not passed yet
  pub later-holder : (n i : ℕ) → n ≤ i → seconds_word < length w → holder_of (swept w t ticks stale n) i ≡ holder_of w i
  unfolding swept
  later-holder zero i h l = refl
  later-holder (suc n) i h l =
      settled-else (swept w t ticks stale n) n (use_next w t ticks stale n) (omega (arith, swept-length n)) i (omega arith) ∙
      later-holder n i (omega arith) l

  pub swept-later : (n i : ℕ) → n ≤ i → seconds_word < length w → used_at (swept w t ticks stale n) i ≡ used_at w i
  swept-later n i h l =
      used-ext w (swept w t ticks stale n) i (later-holder n i h l) (swept-other n (entry_of i) (omega arith) (omega arith) (λ k l. omega arith))

  -- of one that was: free where nothing stays, and else in use as it was, with what stays
  pub record Settled (v : List ℕ) (i : ℕ) : Type 0 where
    pub goes : use_next w t ticks stale i ≡ 0 → holder_of v i ≡ 0
    pub stays : use_next w t ticks stale i ≢ 0 → holder_of v i ≡ holder_of w i
    pub used : use_next w t ticks stale i ≢ 0 → use_of v i ≡ use_next w t ticks stale i

  pub swept-settled : (n i : ℕ) → i < n → entry_of n ≤ length w → Settled (swept w t ticks stale n) i
  unfolding swept
  swept-settled zero i h l = absurd (omega arith)
  swept-settled (suc n) i h l = go (ℕ_discrete i n) (swept-settled n i)
    where
      go : Dec (i ≡ n) → (i < n → entry_of n ≤ length w → Settled (swept w t ticks stale n) i) →
          Settled (settled (swept w t ticks stale n) n (use_next w t ticks stale n)) i
      go (yes p) f = subst (λ (j : ℕ). Settled (settled (swept w t ticks stale n) n (use_next w t ticks stale n)) j) (sym p) (record {
        goes = λ e. settled-free (swept w t ticks stale n) n (use_next w t ticks stale n) e (omega (arith, swept-length n));
        stays = λ e. settled-held (swept w t ticks stale n) n (use_next w t ticks stale n) e ∙ later-holder n n (omega arith) (omega arith);
        used = λ e. settled-use (swept w t ticks stale n) n (use_next w t ticks stale n) e (omega (arith, swept-length n));
      })
      go (no p) f =
          let s = f (omega arith) (omega arith) in
          let o : holder_of (settled (swept w t ticks stale n) n (use_next w t ticks stale n)) i ≡ holder_of (swept w t ticks stale n) i =
          settled-else (swept w t ticks stale n) n (use_next w t ticks stale n) (omega (arith, swept-length n)) i p in
          let q : use_of (settled (swept w t ticks stale n) n (use_next w t ticks stale n)) i ≡ use_of (swept w t ticks stale n) i =
          settled-other (swept w t ticks stale n) n (use_next w t ticks stale n) (entry_of i) (omega arith) (omega arith) (omega arith) in
          record { goes = λ e. o ∙ s.goes e; stays = λ e. o ∙ s.stays e; used = λ e. q ∙ s.used e }

  -- ---- a turn of the loop: what it asks for, and what it leaves

  -- the next slot is as it was
  pub swept-next : (n : ℕ) → n < slots_of w → seconds_word < length w → use_next (swept w t ticks stale n) t ticks stale n ≡ use_next w t ticks stale n
  swept-next n h l =
      ap (λ (r : ℕ). use_after r (used_at (swept w t ticks stale n) n) (body_of (swept w t ticks stale n) n) t ticks stale) (swept-ring n) ∙
      ap (λ (u : ℕ). use_after (ring_of w) u (body_of (swept w t ticks stale n) n) t ticks stale) (swept-later n n (omega arith) l) ∙
      ap (λ (b : List ℕ). use_after (ring_of w) (used_at w n) b t ticks stale) (swept-body n n (omega arith))

  pub swept-readable : (v : List ℕ) (n : ℕ) → v ≡ swept w t ticks stale n → Ready w → n < slots_of w → Readable v n
  swept-readable v n e o h = subst (λ (y : List ℕ). Readable y n) (sym e) (record {
    room = swept-room n o.room;
    inside = omega (arith, swept-slots n);
    shape = λ p.
        let q : has_series (used_at w n) ≡ true = ap has_series (sym (swept-later n n (omega arith) (omega (arith, o.room.long)))) ∙ p in
        subst (λ (r : ℕ). Shape r (body_of (swept w t ticks stale n) n)) (sym (swept-ring n))
        (subst (λ (b : List ℕ). Shape (ring_of w) b) (sym (swept-body n n (omega arith))) (o.shapes n h q));
  })

  pub swept-turn : (v x : List ℕ) (n u : ℕ) → n < slots_of w → seconds_word < length w → v ≡ swept w t ticks stale n → u ≡ use_next v t ticks stale n →
      x ≡ settled v n u → x ≡ swept w t ticks stale (n + 1)
  unfolding swept
  swept-turn v x n u h l e f g =
      let k : u ≡ use_next w t ticks stale n = f ∙ ap (λ (y : List ℕ). use_next y t ticks stale n) e ∙ swept-next n h l in
      g ∙ ap (λ (y : List ℕ). settled y n u) e ∙ ap (settled (swept w t ticks stale n) n) k ∙ ap (swept w t ticks stale) (sym (add-one n))
