-- What a first look leaves of an opened slot: the slot as it is, or with all its buckets. Only the pass differs.
-- Assumes nothing.
use Rattle.std.specs.Prelude.{◌≡◌, refl, Bool, not, ◌||◌, ◌≢◌, List, ℕ, leb, ltb}
use Rattle.std.proofs.Math.Path.{sym}
use Rattle.std.proofs.Common.{ap, ◌∙◌, eq-eqb, ne_eqb, leb-true, leb-false, lt-ltb, le-ltb}
use Rattle.std.proofs.Math.Bool.{true, false, cond}
use Rattle.settings.specs.Clock.{age}
use Rattle.opened.specs.declared.Slot.{Slot}
use Rattle.sweep.specs.Sweep.{unsound, pass_of, leaves, all_in, looked, looked_pass}
use Rattle.sweep.specs.Looked.{plain-look}
use Rattle.sweep.specs.declared.tally.Pass.{Pass}
use Rattle.room.specs.Room.{slots_of, ring_of, last_of, use_of, body_of}
use Rattle.opened.specs.Sound.{has_series}
use Rattle.opened.specs.Slot.{no_slot, pick_pass, opened, pick_slot, slot_of, passing, all_stay, leaves_expired, first_look}

module _ (look t : ℕ) (x : Slot) where
  -- ---- where it leaves what is expired, and where not

  pub look-leaves : leaves_expired look t x ≡ true → all_stay x ≡ first_look look t x
  unfolding first_look
  look-leaves e = sym (ap (λ (z : Bool). cond z (all_stay x) x) e)

  pub look-else : leaves_expired look t x ≡ false → x ≡ first_look look t x
  unfolding first_look
  look-else e = sym (ap (λ (z : Bool). cond z (all_stay x) x) e)

  pub leaves_none : x.pass.expired ≡ 0 → leaves_expired look t x ≡ false
  leaves_none e = rw (eq-eqb x.pass.expired 0 e)

  pub leaves_by : x.pass.expired ≢ 0 → leaves_expired look t x ≡ leb (age t x.pass.eldest.time) look
  leaves_by n = ap (λ (z : Bool). not (z || ltb look (age t x.pass.eldest.time))) (ne_eqb x.pass.expired 0 n) ∙ go
      (leb (age t x.pass.eldest.time) look) refl
    where
      go : (z : Bool) → leb (age t x.pass.eldest.time) look ≡ z → not (ltb look (age t x.pass.eldest.time)) ≡ z
      go true e = ap not (le-ltb look (age t x.pass.eldest.time) (leb-true (age t x.pass.eldest.time) look e))
      go false e = ap not (lt-ltb look (age t x.pass.eldest.time) (leb-false (age t x.pass.eldest.time) look e))

  pub look_none : x.pass.expired ≡ 0 → x ≡ first_look look t x
  look_none e = look-else (leaves_none e)

  -- ---- what stays

  pub by-look : (P : Slot → Type 0) → P x → P (all_stay x) → P (first_look look t x)
  unfolding first_look
  by-look P p q = go (leaves_expired look t x)
    where
      go : (z : Bool) → P (cond z (all_stay x) x)
      go true = q
      go false = p

  pub look_at : (first_look look t x).at ≡ x.at
  look_at = by-look (λ (y : Slot). y.at ≡ x.at) refl refl

  pub look-series : (first_look look t x).series ≡ x.series
  look-series = by-look (λ (y : Slot). y.series ≡ x.series) refl refl

  pub look-total : (first_look look t x).total ≡ x.total
  look-total = by-look (λ (y : Slot). y.total ≡ x.total) refl refl

  pub look-cached : (first_look look t x).cached ≡ x.cached
  look-cached = by-look (λ (y : Slot). y.cached ≡ x.cached) refl refl

  pub look-used : (first_look look t x).used ≡ x.used
  look-used = by-look (λ (y : Slot). y.used ≡ x.used) refl refl

  pub look-limit : (first_look look t x).limit ≡ x.limit
  look-limit = by-look (λ (y : Slot). y.limit ≡ x.limit) refl refl

  pub look-factor : (first_look look t x).factor ≡ x.factor
  look-factor = by-look (λ (y : Slot). y.factor ≡ x.factor) refl refl

  pub look-time : (first_look look t x).factor_time ≡ x.factor_time
  look-time = by-look (λ (y : Slot). y.factor_time ≡ x.factor_time) refl refl

-- ---- the pass may take it

look-passing : (look t : ℕ) (p : Pass) (y : Slot) → passing (looked look t y.total y.declined p) y ≡ first_look look t (passing p y)
unfolding first_look
look-passing look t p y = go (leaves look t p)
  where
    go : (z : Bool) → passing (cond z (all_in y.total y.declined p) p) y ≡ cond z (all_stay (passing p y)) (passing p y)
    go true = refl
    go false = refl

pub opened-look : (look W r last t at u : ℕ) (b : List ℕ) →
    passing (pick_pass (has_series u) (looked_pass look t b (pass_of r b last t W))) (opened W r last t at u b) ≡ first_look look t (opened W r last t at u b)
unfolding opened looked_pass
opened-look look W r last t at u b = go (has_series u)
  where
    y : Slot
    y = opened W r last t at u b

    go : (s : Bool) → passing (pick_pass s (looked_pass look t b (pass_of r b last t W))) y ≡ first_look look t (passing (pick_pass s (pass_of r b last t W)) y)
    go true = look-passing look t (pass_of r b last t W) y
    go false = look-passing look t unsound y

pub no-slot-look : (look t n : ℕ) → no_slot n ≡ first_look look t (no_slot n)
no-slot-look look t n = look_none look t (no_slot n) refl

-- ---- a look at the window leaves nothing that is expired

pub plain-slot : (W : ℕ) (w : List ℕ) (t at : ℕ) → first_look W t (slot_of W w t at) ≡ slot_of W w t at
unfolding slot_of opened
plain-slot W w t at = go (ltb at (slots_of w)) (has_series (use_of w at))
  where
    y : Slot
    y = opened W (ring_of w) (last_of w) t at (use_of w at) (body_of w at)

    go : (a s : Bool) → first_look W t (pick_slot a (passing (pick_pass s (pass_of (ring_of w) (body_of w at) (last_of w) t W)) y) (no_slot (slots_of w))) ≡
        pick_slot a (passing (pick_pass s (pass_of (ring_of w) (body_of w at) (last_of w) t W)) y) (no_slot (slots_of w))
    go true true = sym (look-else W t _ (plain-look (ring_of w) (body_of w at) (last_of w) t W))
    go true false = sym (look-else W t _ refl)
    go false s = sym (no-slot-look W t (slots_of w))
