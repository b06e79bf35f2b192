-- A key stands in at most one slot: which changes keep that, and which slot is found after a change.
-- Assumes nothing.
use Rattle.std.specs.Prelude.{◌≡◌, refl, true, false, not, ◌&&◌, List, ◌≢◌, ℕ, ◌≤◌, ◌<◌, length, eqb}
use Rattle.std.proofs.Common.{sym, ap, ap₂, ◌∙◌, arith, eq-eqb, eqb-true}
use Rattle.std.proofs.lemmas.Bool.{false≢true}
use Rattle.std.proofs.Math.Decide.{ℕ_discrete}
use Rattle.base.specs.Decides.{and-true, not_so, so-not}
use Rattle.base.specs.Seek.{seek, seek-le, seek-passes, seek-before, seek-only, seek-ext}
use Rattle.keys.specs.declared.Key.{Key}
use Rattle.room.specs.Room.{slots_of, holder_of, key_at, key_sound, free, has, find, vacant}
use Rattle.keys.specs.Keys.{key_of, key_fits, same_key}
use Rattle.room.specs.Entries.{free-use, has-free, has-used}
use Rattle.frame.specs.Keys.{Bytes, key-fits}
use Rattle.frame.specs.Frame.{Changed, key-holder, other-holder, other_key}

-- ---- equal keys

key-path : (k l : Key) → k.len ≡ l.len → k.a ≡ l.a → k.b ≡ l.b → k.c ≡ l.c → k.d ≡ l.d → k.holder ≡ l.holder → k ≡ l
key-path k l n p q r s h = λ i. record { holder = h i; len = n i; a = p i; b = q i; c = r i; d = s i }

pub same-key : (k l : Key) → same_key k l ≡ true → k ≡ l
unfolding same_key
same-key k l e =
    let p = and-true (eqb k.len l.len) _ e in
    let q = and-true (eqb k.a l.a) _ p.1 in
    let r = and-true (eqb k.b l.b) _ q.1 in
    let s = and-true (eqb k.c l.c) _ r.1 in
    let t = and-true (eqb k.d l.d) _ s.1 in
    key-path k l (eqb-true _ _ p.0) (eqb-true _ _ q.0) (eqb-true _ _ r.0) (eqb-true _ _ s.0) (eqb-true _ _ t.0) (eqb-true _ _ t.1)

pub key-same : (k : Key) → same_key k k ≡ true
unfolding same_key
key-same k =
    rw (
      eq-eqb k.len k.len refl,
      eq-eqb k.a k.a refl,
      eq-eqb k.b k.b refl,
      eq-eqb k.c k.c refl,
      eq-eqb k.d k.d refl,
      eq-eqb k.holder k.holder refl,
    )

-- ---- slots in use, by their facts

module _ (w : List ℕ) (k : Key) (i : ℕ) where
  pub has-held : has w k i ≡ true → holder_of w i ≢ 0
  has-held e z = false≢true (sym (has-free w k i z) ∙ e)

  pub has_key : has w k i ≡ true → key_at w i ≡ k
  has_key e = same-key (key_at w i) k (sym (has-used w k i (has-held e)) ∙ e)

  pub has-it : holder_of w i ≢ 0 → key_at w i ≡ k → has w k i ≡ true
  has-it u e = has-used w k i u ∙ ap (λ (x : Key). same_key x k) e ∙ key-same k

  pub has-not : key_at w i ≢ k → has w k i ≡ false
  has-not ne = not_so (has w k i) (λ e. ne (has_key e))

-- an entry that has a packed key of at most 32 bytes is right
pub has-sound : (w : List ℕ) (m : ℕ) (key : List ℕ) (i : ℕ) → Bytes key → length key ≤ 32 → has w (key_of m key) i ≡ true → key_sound w i ≡ true
has-sound w m key i h l e = ap key_fits (has_key w (key_of m key) i e) ∙ key-fits m key h l

-- the same entry has the same
pub holder-ext : (w v : List ℕ) (i : ℕ) → key_at v i ≡ key_at w i → holder_of v i ≡ holder_of w i
holder-ext w v i e = sym (key-holder v i) ∙ ap (λ (k : Key). k.holder) e ∙ key-holder w i

pub has-ext : (w v : List ℕ) (k : Key) (i : ℕ) → key_at v i ≡ key_at w i → has v k i ≡ has w k i
unfolding has free
has-ext w v k i q = ap₂ (λ (u : ℕ) (x : Key). not (eqb u 0) && same_key x k) (holder-ext w v i q) q

-- ---- what is found

module _ (w : List ℕ) (k : Key) where
  pub find-le : find w k ≤ slots_of w
  find-le = omega (arith, seek-le (has w k) (slots_of w) 0)

  pub find-has : find w k < slots_of w → has w k (find w k) ≡ true
  find-has h = seek-passes (has w k) (slots_of w) 0 (omega arith)

  pub find-held : find w k < slots_of w → holder_of w (find w k) ≢ 0
  find-held h = has-held w k (find w k) (find-has h)

  pub find-key : find w k < slots_of w → key_at w (find w k) ≡ k
  find-key h = has_key w k (find w k) (find-has h)

  -- not found: no slot in use has the key
  pub find_none : slots_of w ≤ find w k → (i : ℕ) → i < slots_of w → holder_of w i ≢ 0 → key_at w i ≢ k
  find_none h i l u e = so-not (has w k i) (seek-before (has w k) (slots_of w) 0 i (omega arith) (omega arith)) (has-it w k i u e)

module _ (w : List ℕ) where
  pub vacant-free : vacant w < slots_of w → holder_of w (vacant w) ≡ 0
  vacant-free h = free-use w (vacant w) (seek-passes (free w) (slots_of w) 0 (omega arith))

-- finding reads the directory only
pub find-ext : (w v : List ℕ) (k : Key) → slots_of v ≡ slots_of w → ((i : ℕ) → i < slots_of w → has v k i ≡ has w k i) → find v k ≡ find w k
find-ext w v k n f = ap (seek (has v k) 0) n ∙ seek-ext (has v k) (has w k) (slots_of w) 0 (λ j p q. f j (omega arith))

-- ---- a key stands in at most one slot

pub record Distinct (w : List ℕ) : Type 0 where
  pub once : (i j : ℕ) → i < slots_of w → j < slots_of w → holder_of w i ≢ 0 → holder_of w j ≢ 0 → key_at w i ≡ key_at w j → i ≡ j

-- so it is found there
pub find-where : (w : List ℕ) (k : Key) (i : ℕ) → Distinct w → i < slots_of w → holder_of w i ≢ 0 → key_at w i ≡ k → find w k ≡ i
find-where w k i d h u e =
    seek-only (has w k) (slots_of w) i h (has-it w k i u e) (λ j l p. d.once j i l h (has-held w k j p) u (has_key w k j p ∙ sym e))

module _ {w v : List ℕ} {s u : ℕ} {k : Key} {b : List ℕ} {t : ℕ} (c : Changed w v s u k b t) where
  -- slot s is held as its new key is
  pub changed-holder : holder_of v s ≡ k.holder
  changed-holder = sym (key-holder v s) ∙ ap (λ (x : Key). x.holder) c.key

  -- kept, where no other slot in use has slot s's new key
  pub distinct-by : Distinct w → ((i : ℕ) → i < slots_of w → i ≢ s → k.holder ≢ 0 → holder_of w i ≢ 0 → key_at w i ≢ k) → Distinct v
  distinct-by d f = record { once = λ i j p q a b e. go i j (omega (arith, c.slots)) (omega (arith, c.slots)) a b e (ℕ_discrete i s) (ℕ_discrete j s) }
    where
      -- slot s and another one
      clash : (j : ℕ) → j < slots_of w → j ≢ s → holder_of v s ≢ 0 → holder_of v j ≢ 0 → key_at v j ≡ key_at v s → ⊥
      clash j q n a b e =
          f j q n (λ z. a (changed-holder ∙ z)) (λ z. b (other-holder c j q n ∙ z)) (sym (other_key c j q n) ∙ e ∙ c.key)

      go : (i j : ℕ) → i < slots_of w → j < slots_of w → holder_of v i ≢ 0 → holder_of v j ≢ 0 → key_at v i ≡ key_at v j → Dec (i ≡ s) → Dec (j ≡ s) → i ≡ j
      go i j p q a b e (yes x) (yes y) = x ∙ sym y
      go i j p q a b e (yes x) (no y) =
          absurd (clash j q y (λ z. a (ap (holder_of v) x ∙ z)) b (sym e ∙ ap (key_at v) x))
      go i j p q a b e (no x) (yes y) =
          absurd (clash i p x (λ z. b (ap (holder_of v) y ∙ z)) a (e ∙ ap (key_at v) y))
      go i j p q a b e (no x) (no y) =
          d.once i j p q (λ z. a (other-holder c i p x ∙ z)) (λ z. b (other-holder c j q y ∙ z)) (sym (other_key c i p x) ∙ e ∙ other_key c j q y)

  -- a slot taken for a key that was not found
  pub distinct-taken : Distinct w → slots_of w ≤ find w k → Distinct v
  distinct-taken d h = distinct-by d (λ i l n x y. find_none w k h i l y)

  -- a slot in use that keeps its key: another body, another use
  pub distinct-kept : Distinct w → holder_of w s ≢ 0 → key_at w s ≡ k → Distinct v
  distinct-kept d a e = distinct-by d (λ i l n x y z. n (d.once i s l c.inside y a (z ∙ sym e)))

  -- a slot that is free now
  pub distinct-freed : Distinct w → k.holder ≡ 0 → Distinct v
  distinct-freed d e = distinct-by d (λ i l n x y z. x e)

  -- a slot that keeps its key, in use or not: another body, another reading
  pub distinct-still : Distinct w → key_at w s ≡ k → Distinct v
  distinct-still d e = go (ℕ_discrete k.holder 0)
    where
      go : Dec (k.holder ≡ 0) → Distinct v
      go (yes z) = distinct-freed d z
      go (no z) = distinct-kept d (λ y. z (ap (λ (x : Key). x.holder) (sym e) ∙ key-holder w s ∙ y)) e

  -- ---- what is found after a change

  other-has : (q : Key) (i : ℕ) → i < slots_of w → i ≢ s → has v q i ≡ has w q i
  other-has q i h n = has-ext w v q i (other_key c i h n)

  find-by : (q : Key) → has v q s ≡ has w q s → find v q ≡ find w q
  find-by q e = find-ext w v q c.slots (λ i h. go i h (ℕ_discrete i s))
    where
      go : (i : ℕ) → i < slots_of w → Dec (i ≡ s) → has v q i ≡ has w q i
      go i h (yes p) = ap (has v q) p ∙ e ∙ ap (has w q) (sym p)
      go i h (no p) = other-has q i h p

  had-not : (q : Key) → (holder_of w s ≢ 0 → key_at w s ≢ q) → has w q s ≡ false
  had-not q m = not_so (has w q s) (λ e. m (has-held w q s e) (has_key w q s e))

  -- the same as before, for a key that slot s neither had nor has
  pub find-beside : (q : Key) → k ≢ q → (holder_of w s ≢ 0 → key_at w s ≢ q) → find v q ≡ find w q
  find-beside q n m = find-by q (has-not v q s (λ e. n (sym c.key ∙ e)) ∙ sym (had-not q m))

  -- or for one that it did not have, where it is free now
  pub find-freed : (q : Key) → k.holder ≡ 0 → (holder_of w s ≢ 0 → key_at w s ≢ q) → find v q ≡ find w q
  find-freed q z m = find-by q (has-free v q s (changed-holder ∙ z) ∙ sym (had-not q m))

  -- the same too where it keeps its key, in use or not
  pub find-still : key_at w s ≡ k → (q : Key) → find v q ≡ find w q
  find-still e q = find-by q (has-ext w v q s (c.key ∙ sym e))
