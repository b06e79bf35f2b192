-- Which slot has a key's series; and that it stands where a call changes another slot, or none.
-- Assumes nothing.
use Rattle.std.specs.Prelude.{◌≡◌, refl, Bool, true, false, List, ◌≢◌, ℕ, ◌<◌}
use Rattle.std.proofs.Common.{sym, ap, subst, ◌∙◌, arith}
use Rattle.std.proofs.lemmas.Bool.{false≢true}
use Rattle.std.proofs.Math.Decide.{ℕ_discrete, dec_lt}
use Rattle.keys.specs.declared.Key.{Key}
use Rattle.room.specs.Room.{slots_of, ring_of, last_of, holder_of, use_of, used_at, key_at, find, body_of}
use Rattle.room.specs.Entries.{used-free, used-ext}
use Rattle.frame.specs.Distinct.{Distinct, holder-ext, find-key, find-where}
use Rattle.frame.specs.Frame.{Changed, other-holder, other-use, other_key}
use Rattle.opened.specs.Sound.{has_series}

-- slot i has key k's series
pub record Has (w : List ℕ) (k : Key) (i : ℕ) : Type 0 where
  pub inside : i < slots_of w
  pub key : key_at w i ≡ k
  pub series : has_series (used_at w i) ≡ true

pub free-has : {w : List ℕ} {k : Key} {i : ℕ} → holder_of w i ≡ 0 → Has w k i → ⊥
free-has {w} {k} {i} e h = false≢true (sym (ap has_series (used-free w i e)) ∙ h.series)

-- k has a series or not
pub has-or : {A : Type 0} (w : List ℕ) (k : Key) → Distinct w → ((i : ℕ) → Has w k i → A) → (((i : ℕ) → Has w k i → ⊥) → A) → A
has-or {A} w k d f g = go (dec_lt (find w k) (slots_of w)) (has_series (used_at w (find w k))) refl
  where
    none : (find w k < slots_of w → has_series (used_at w (find w k)) ≡ true → ⊥) → (i : ℕ) → Has w k i → ⊥
    none n i h =
        let e : find w k ≡ i = find-where w k i d h.inside (λ z. free-has z h) h.key in
        n (omega (arith, h.inside)) (ap (λ (j : ℕ). has_series (used_at w j)) e ∙ h.series)

    go : Dec (find w k < slots_of w) → (z : Bool) → has_series (used_at w (find w k)) ≡ z → A
    go (yes n) true e = f (find w k) (record { inside = n; key = find-key w k n; series = e })
    go (yes n) false e = g (none (λ m h. false≢true (sym e ∙ h)))
    go (no n) z e = g (none (λ m h. n m))

-- ---- k's slot stands

-- v has k's series where w has it, with the same body; the last reading is t
pub record Same (k : Key) (w v : List ℕ) (t : ℕ) : Type 0 where
  pub last : last_of v ≡ t
  pub ring : ring_of v ≡ ring_of w
  pub back : (i : ℕ) → Has v k i → Has w k i
  pub forth : (i : ℕ) → Has w k i → Has v k i
  pub body : (i : ℕ) → Has v k i → body_of v i ≡ body_of w i

has-by : (w v : List ℕ) (k : Key) (i : ℕ) → slots_of v ≡ slots_of w → key_at v i ≡ key_at w i → use_of v i ≡ use_of w i → Has v k i → Has w k i
has-by w v k i n p q h =
    record { inside = omega (arith, h.inside); key = sym p ∙ h.key; series = ap has_series (sym (used-ext w v i (holder-ext w v i p) q)) ∙ h.series }

module _ {w v : List ℕ} {at u : ℕ} {k' : Key} {b : List ℕ} {t : ℕ} (c : Changed w v at u k' b t) where
  pub other-back : (k : Key) (i : ℕ) → i ≢ at → Has v k i → Has w k i
  other-back k i n h =
      let l : i < slots_of w = omega (arith, h.inside, c.slots) in
      has-by w v k i c.slots (other_key c i l n) (other-use c i l n) h

  other-forth : (k : Key) (i : ℕ) → i ≢ at → Has w k i → Has v k i
  other-forth k i n h = has-by v w k i (sym c.slots) (sym (other_key c i h.inside n)) (sym (other-use c i h.inside n)) h

  -- slot at is changed, which neither had nor has k's series
  pub changed-same : (k : Key) → (Has w k at → ⊥) → (Has v k at → ⊥) → Same k w v t
  changed-same k f g = record {
    last = c.last;
    ring = c.ring;
    back = λ i h. go i (ℕ_discrete i at) h;
    forth = λ i h. on i (ℕ_discrete i at) h;
    body = λ i h. c.bodies i (omega (arith, h.inside, c.slots)) (λ e. g (subst (λ (j : ℕ). Has v k j) e h));
  }
    where
      go : (i : ℕ) → Dec (i ≡ at) → Has v k i → Has w k i
      go i (yes e) h = absurd (g (subst (λ (j : ℕ). Has v k j) e h))
      go i (no n) h = other-back k i n h

      on : (i : ℕ) → Dec (i ≡ at) → Has w k i → Has v k i
      on i (yes e) h = absurd (f (subst (λ (j : ℕ). Has w k j) e h))
      on i (no n) h = other-forth k i n h

-- every slot stands
pub still-same : {w v : List ℕ} {at t : ℕ} → Changed w v at (use_of w at) (key_at w at) (body_of w at) t → (k : Key) → Same k w v t
still-same {w} {v} {at} {t} c k = record {
  last = c.last;
  ring = c.ring;
  back = λ i h. go i (ℕ_discrete i at) h;
  forth = λ i h. on i (ℕ_discrete i at) h;
  body = λ i h. same i (omega (arith, h.inside, c.slots)) (ℕ_discrete i at);
}
  where
    go : (i : ℕ) → Dec (i ≡ at) → Has v k i → Has w k i
    go i (yes e) h = subst (λ (j : ℕ). Has w k j) (sym e) (has-by w v k at c.slots c.key c.used (subst (λ (j : ℕ). Has v k j) e h))
    go i (no n) h = other-back c k i n h

    on : (i : ℕ) → Dec (i ≡ at) → Has w k i → Has v k i
    on i (yes e) h = subst (λ (j : ℕ). Has v k j) (sym e) (has-by v w k at (sym c.slots) (sym c.key) (sym c.used) (subst (λ (j : ℕ). Has w k j) e h))
    on i (no n) h = other-forth c k i n h

    same : (i : ℕ) → i < slots_of w → Dec (i ≡ at) → body_of v i ≡ body_of w i
    same i l (yes e) = ap (body_of v) e ∙ c.body ∙ ap (body_of w) (sym e)
    same i l (no n) = c.bodies i l n

-- ---- slots that a change does not address

pub record Untouched (w v : List ℕ) (i : ℕ) : Type 0 where
  pub holder : holder_of v i ≡ holder_of w i
  pub used : use_of v i ≡ use_of w i
  pub key : key_at v i ≡ key_at w i
  pub body : body_of v i ≡ body_of w i

pub changed-untouched : {w v : List ℕ} {at u : ℕ} {k : Key} {b : List ℕ} {t : ℕ} → Changed w v at u k b t → (i : ℕ) → i < slots_of w → i ≢ at → Untouched w v i
changed-untouched c i h n = record { holder = other-holder c i h n; used = other-use c i h n; key = other_key c i h n; body = c.bodies i h n }
