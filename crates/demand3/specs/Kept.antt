-- What holds of a room's words and a key's log from call to call: the key has at most one slot, its series has its limit, and its buckets are good for the log.
-- It stays where the key's slot stands, and where the slot is changed as its rules say.
-- Assumes nothing.
use Rattle.std.specs.Prelude.{◌≡◌, refl, Bool, true, false, List, [], ◌≢◌, ℕ, ◌≤◌}
use Rattle.std.proofs.Common.{sym, ap, ap₂, subst, ◌∙◌, arith}
use Rattle.std.proofs.Math.Decide.{ℕ_discrete}
use Rattle.common.specs.Limits.{cut_word}
use Rattle.settings.specs.Clock.{window_ticks, join_ticks}
use Rattle.settings.specs.declared.Settings.{Settings}
use Rattle.ring.specs.declared.Bucket.{Bucket}
use Rattle.ring.specs.Ring.{buckets}
use Rattle.keys.specs.declared.Key.{Key}
use Rattle.room.specs.Room.{ring_of, last_of, used_at, body_of}
use Rattle.room.specs.Entries.{used-held}
use Rattle.frame.specs.Distinct.{Distinct, changed-holder}
use Rattle.frame.specs.Frame.{Changed}
use Rattle.opened.specs.Sound.{limit_of, has_series}
use Rattle.admissions.specs.Good.{Good}
use Rattle.admissions.proofs.Good.{good-later}
use Rattle.admissions.specs.Log.{Entry}
use Rattle.places.specs.Has.{Has, Same, other-back}

-- good for settings and a limit
abbrev pub GoodAt : Settings → ℕ → ℕ → List Bucket → List Entry → Type 0
GoodAt s limit t xs log = Good (window_ticks s) (join_ticks s) (cut_word limit) t xs log

pub record Kept (s : Settings) (k : Key) (limit : ℕ) (w : List ℕ) (log : List Entry) : Type 0 where
  pub distinct : Distinct w
  pub limits : (i : ℕ) → Has w k i → limit_of (body_of w i) ≡ limit
  pub good : (i : ℕ) → Has w k i → GoodAt s limit (last_of w) (buckets (ring_of w) (body_of w i)) log
  pub bare : ((i : ℕ) → Has w k i → ⊥) → GoodAt s limit (last_of w) [] log

-- ---- k's slot stands

module _ (s : Settings) (le : join_ticks s ≤ window_ticks s) (k : Key) (limit : ℕ) where
  at-later : (t t' : ℕ) (xs : List Bucket) (log : List Entry) → t ≤ t' → GoodAt s limit t xs log → GoodAt s limit t' xs log
  at-later t t' xs log h g = good-later (window_ticks s) (join_ticks s) (cut_word limit) le t' h g

  pub kept_same : (w v : List ℕ) (t : ℕ) (log : List Entry) → Same k w v t → last_of w ≤ t → Distinct v → Kept s k limit w log → Kept s k limit v log
  kept_same w v t log m h d a = record {
    distinct = d;
    limits = λ i p. ap (λ (y : List ℕ). limit_of y) (m.body i p) ∙ a.limits i (m.back i p);
    good = λ i p.
        subst (λ (xs : List Bucket). GoodAt s limit (last_of v) xs log) (sym (ap₂ buckets m.ring (m.body i p)))
        (subst (λ (n : ℕ). GoodAt s limit n (buckets (ring_of w) (body_of w i)) log) (sym m.last) (at-later (last_of w) t _ log h (a.good i (m.back i p))));
    bare = λ f. subst (λ (n : ℕ). GoodAt s limit n [] log) (sym m.last) (at-later (last_of w) t [] log h (a.bare (λ i p. f i (m.forth i p))));
  }

  -- ---- k's slot is changed: what it has now is good, or it has no series now

  pub record Stored (r : ℕ) (b : List ℕ) (t : ℕ) (log : List Entry) : Type 0 where
    pub limit_is : limit_of b ≡ limit
    pub good : GoodAt s limit t (buckets r b) log

  pub kept-own : k.holder ≢ 0 → (w v : List ℕ) (at u : ℕ) (b : List ℕ) (t : ℕ) (log : List Entry) → Changed w v at u k b t → Distinct v →
      ((i : ℕ) → i ≢ at → Has w k i → ⊥) →
      (has_series u ≡ true → Stored (ring_of w) b t log) → (has_series u ≡ false → GoodAt s limit t [] log) → Kept s k limit v log
  kept-own m w v at u b t log c d only f g = record {
    distinct = d;
    limits = λ i p. own-limit i p (here i p);
    good = λ i p. own-good i p (here i p);
    bare = λ n. subst (λ (m : ℕ). GoodAt s limit m [] log) (sym c.last) (g (none n (has_series u) refl));
  }
    where
      here : (i : ℕ) → Has v k i → i ≡ at
      here i p = go (ℕ_discrete i at)
        where
          go : Dec (i ≡ at) → i ≡ at
          go (yes e) = e
          go (no n) = absurd (only i n (other-back c k i n p))

      used-here : used_at v at ≡ u
      used-here = used-held v at (λ z. m (sym (changed-holder c) ∙ z)) ∙ c.used

      stored : (i : ℕ) → Has v k i → i ≡ at → Stored (ring_of w) b t log
      stored i p e = f (ap has_series (sym used-here) ∙ ap (λ (j : ℕ). has_series (used_at v j)) (sym e) ∙ p.series)

      body_is : (i : ℕ) → i ≡ at → body_of v i ≡ b
      body_is i e = ap (body_of v) e ∙ c.body

      own-limit : (i : ℕ) → Has v k i → i ≡ at → limit_of (body_of v i) ≡ limit
      own-limit i p e = ap (λ (y : List ℕ). limit_of y) (body_is i e) ∙ (stored i p e).limit_is

      own-good : (i : ℕ) → Has v k i → i ≡ at → GoodAt s limit (last_of v) (buckets (ring_of v) (body_of v i)) log
      own-good i p e =
          subst (λ (xs : List Bucket). GoodAt s limit (last_of v) xs log) (sym (ap₂ buckets c.ring (body_is i e)))
          (subst (λ (m : ℕ). GoodAt s limit m (buckets (ring_of w) b) log) (sym c.last) (stored i p e).good)

      none : ((i : ℕ) → Has v k i → ⊥) → (z : Bool) → has_series u ≡ z → has_series u ≡ false
      none n true e = absurd (n at (record { inside = omega (arith, c.inside, c.slots); key = c.key; series = ap has_series used-here ∙ e }))
      none n false e = e
