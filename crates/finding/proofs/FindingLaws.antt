-- What `judge` says at the room's own last reading, with what is held promised, is what the read-out finds; and what the found slot's buckets are: those
-- that the rules say the key holds, whose times do not fall.
-- Assumes nothing.
use Rattle.std.specs.Prelude.{◌≡◌, Bool, not, ◌||◌, List, [], ◌∷◌, length, get_or, ltb, Ok, Err}
use Rattle.std.proofs.Math.Path.{refl, ap₂}
use Rattle.std.proofs.Common.{sym, ap, ◌∙◌, not-suc-le-zero, le_of_suc-le-suc}
use Rattle.std.proofs.Math.Bool.{true, false, cond}
use Prim.Native.Nat.{ℕ, zero, suc, ◌+◌, ◌≤◌, ◌<◌}
use Rattle.std.proofs.Math.Decide.{ℕ_discrete}
use native.Mathlib.Omega.{arith}
use Rattle.std.proofs.Math.Dec.{eqb}
use borrow.Author.Tests.{ne_eqb, le-ltb, lt-ltb, ltb-true, eqb-true}
use Rattle.base.specs.Decides.{and-true}
use Rattle.common.specs.Refusals.{first}
use Rattle.settings.specs.Settings.{faults}
use Rattle.settings.specs.Clock.{window_ticks}
use Rattle.settings.specs.declared.Settings.{Settings}
use Rattle.sweep.specs.Sweep.{pass_of}
use Rattle.rules.specs.declared.RoomKind.{RoomKind}
use Rattle.judge.specs.declared.Judged.{Judged}
use Rattle.opened.specs.Sound.{has_series, right_use, sound_series, sound_slot, addressed, sound_at}
use Rattle.opened.specs.Slot.{opened, slot_of}
use Rattle.judge.specs.Judge.{misfits, early, judged, Passed}
use Rattle.judge.proofs.Laws.{passed, judged-ok, judged-err}
use Rattle.common.proofs.Ruled.{unless-at, unless-none}
use Rattle.common.specs.declared.refusal.Refusal.{Refusal}
use Rattle.opened.specs.declared.Slot.{Slot}
use Rattle.judge.specs.Held.{held_in}
use Rattle.opened.specs.Right.{slot-addressed}
use Rattle.layout.specs.Layout.{first_mark, second_mark}
use Rattle.ring.specs.declared.Bucket.{Bucket}
use Rattle.ring.specs.Ring.{no_bucket}
use Rattle.ring.specs.Order.{Fine}
use Rattle.ring.specs.Sound.{sound_buckets, sound-true}
use Rattle.ring.specs.View.{view-length}
use Rattle.room.specs.Room.{sized, slots_of, ring_of, last_of, use_of, holder_of, body_of, key_sound}
use Rattle.parties.specs.declared.Caller.{Caller}
use Rattle.parties.specs.Parties.{Sent, sent, ours, many, slots_held, overdrawn, turns}
use Rattle.parties.specs.Census.{census_of}
use Rattle.parties.proofs.Laws.{first-held, second-held}
use Rattle.finding.specs.declared.Found.{Found}
use Rattle.finding.specs.Finding.{as_held, refusal, buckets_of, found, Reads}

-- none is before the start, and none is before one that stands before it
from : (j lo : ℕ) (xs : List Bucket) (hi : ℕ) → j < length xs → Fine lo xs hi → lo ≤ (get_or xs j no_bucket).time
from j lo [] hi l f = absurd (not-suc-le-zero l)
from zero lo (x ∷ xs) hi l f = f.0
from (suc j) lo (x ∷ xs) hi l f = omega (arith, f.0, from j x.time xs hi (le_of_suc-le-suc l) f.3)

rises : (i j lo : ℕ) (xs : List Bucket) (hi : ℕ) → i ≤ j → j < length xs → Fine lo xs hi → (get_or xs i no_bucket).time ≤ (get_or xs j no_bucket).time
rises i j lo [] hi h l f = absurd (not-suc-le-zero l)
rises zero j lo (x ∷ xs) hi h l f = from j x.time (x ∷ xs) hi l (omega arith, f.1, f.2, f.3)
rises (suc i) zero lo (x ∷ xs) hi h l f = absurd (not-suc-le-zero h)
rises (suc i) (suc j) lo (x ∷ xs) hi h l f = rises i j x.time xs hi (le_of_suc-le-suc h) (le_of_suc-le-suc l) f.3

-- ---- who reads, as `judge` is told of it

module _ (w : List ℕ) where
  -- the two parties hold no more than there are
  both-few : (n : ℕ) → many (λ s. eqb (holder_of w s) first_mark) n + many (λ s. eqb (holder_of w s) second_mark) n ≤ n
  unfolding many
  both-few zero = omega arith
  both-few (suc n) = go (both-few n) (ℕ_discrete (holder_of w n) first_mark) (ℕ_discrete (holder_of w n) second_mark)
    where
      go : many (λ s. eqb (holder_of w s) first_mark) n + many (λ s. eqb (holder_of w s) second_mark) n ≤ n → Dec (holder_of w n ≡ first_mark) →
          Dec (holder_of w n ≡ second_mark) →
          many (λ s. eqb (holder_of w s) first_mark) n + cond (eqb (holder_of w n) first_mark) 1 0 +
          (many (λ s. eqb (holder_of w s) second_mark) n + cond (eqb (holder_of w n) second_mark) 1 0) ≤ suc n
      go h (yes p) b = rw p (omega (arith, h))
      go h (no p) (yes q) = rw q (omega (arith, h))
      go h (no p) (no q) = rw (ne_eqb (holder_of w n) first_mark p, ne_eqb (holder_of w n) second_mark q) (omega (arith, h))

  -- so promises of what is held are kept
  held_kept : (party : ℕ) → sized w ≡ true → ours w ≡ true → overdrawn w (as_held w party) ≡ false
  unfolding overdrawn census_of slots_held
  held_kept party e f =
      let a = many (λ s. eqb (holder_of w s) first_mark) (slots_of w) in
      let b = many (λ s. eqb (holder_of w s) second_mark) (slots_of w) in
      rw (e, first-held w f, second-held w f, le-ltb (slots_of w) (a + b) (both-few (slots_of w)), le-ltb a a (omega arith), le-ltb b b (omega arith))

module _ (kind : RoomKind) (s : Settings) (w : List ℕ) (key : Sent) where
  abbrev told : Sent
  told = sent (as_held w key.caller.party) key.bytes

  -- refusal 6 is not met at the last reading, nor 16 by what is held
  number-as : (x y : Bool) → sized w ≡ x → ours w ≡ y → early kind s w (last_of w) told ≡ refusal kind s w key
  unfolding misfits turns refusal faults first addressed
  number-as false y e f = rw e
  number-as true false e f = rw (e, f)
  number-as true true e f = rw (held_kept w key.caller.party e f, e, f, le-ltb (last_of w) (last_of w) (omega arith))

  number : early kind s w (last_of w) told ≡ refusal kind s w key
  number = number-as _ _ refl refl

  -- ---- the slot of a call that is not refused
  module _ (p : Passed kind s w (last_of w) told) where
    sound-there : sound_at kind s w (addressed w key) ≡ true
    unfolding addressed
    sound-there = p.sound

    -- a series that is there is sound
    series-sound : addressed w key < slots_of w → has_series (use_of w (addressed w key)) ≡ true →
        sound_buckets (ring_of w) (body_of w (addressed w key)) (last_of w) ≡ true
    unfolding sound_at sound_slot sound_series
    series-sound h e =
        let at = addressed w key in
        let a : sound_slot kind s w at ≡ true = rw (lt-ltb at (slots_of w) h) at sound-there in
        let b = and-true (key_sound w at) _ a in
        let c = and-true (right_use kind (use_of w at)) _ b.1 in
        let d = and-true (not (has_series (use_of w at)) || sound_series kind s (ring_of w) (last_of w) (body_of w at)) _ c.1 in
        let f : sound_series kind s (ring_of w) (last_of w) (body_of w at) ≡ true = rw e at d.0 in
        (and-true (sound_buckets (ring_of w) (body_of w at) (last_of w)) _ f).0

    slot_at : (slot_of (window_ticks s) w (last_of w) (addressed w key)).at ≡ addressed w key
    slot_at = slot-addressed (window_ticks s) (last_of w) w key

    slot-count : (x y : Bool) → ltb (addressed w key) (slots_of w) ≡ x → has_series (use_of w (addressed w key)) ≡ y →
        (slot_of (window_ticks s) w (last_of w) (addressed w key)).pass.buckets ≡ length (buckets_of w key)
    unfolding slot_of opened pass_of buckets_of
    slot-count false y e f = rw e
    slot-count true false e f = rw (e, f)
    slot-count true true e f = rw (e, f, series-sound (ltb-true _ _ e) f) (sym (view-length (ring_of w) (body_of w (addressed w key))))

  -- ---- what is found

  module _ (t : ℕ) (q : t ≡ last_of w) (c : Caller) (r : c ≡ as_held w key.caller.party) where
    asked-as : judged kind s w t (sent c key.bytes) ≡ judged kind s w (last_of w) told
    asked-as = ap₂ (λ (n : ℕ) (d : Caller). judged kind s w n (sent d key.bytes)) q r

    pub found-refused : (x : Refusal) → Err x ≡ judged kind s w t (sent c key.bytes) → Err x ≡ found kind s w key
    unfolding found
    found-refused x e =
        let o = judged-err kind s w (last_of w) told false x (e ∙ asked-as) in
        ap Err o.1 ∙ unless-at _ _ _ number o.0

    pub found-is : (j : Judged) → Ok j ≡ judged kind s w t (sent c key.bytes) → Ok (record { slot = j.slot.at; count = j.slot.pass.buckets }) ≡ found kind s w key
    unfolding found addressed
    found-is j e =
        let o = judged-ok kind s w (last_of w) told false j (e ∙ asked-as) in
        let p = passed kind s w (last_of w) told o.0 in
        ap₂ (λ (at n : ℕ). Ok (record { slot = at; count = n })) (ap (λ (x : Slot). x.at) o.1 ∙ slot_at p)
        (ap (λ (x : Slot). x.pass.buckets) o.1 ∙ slot-count p _ _ refl refl) ∙
        unless-none _ _ (sym number ∙ o.0)

  -- ---- what is read of it

  -- the first bucket is there: so the slot can be read, and its buckets are those to show
  pub readable : (x y : Bool) → refusal kind s w key ≡ 0 → ltb (addressed w key) (slots_of w) ≡ x → has_series (use_of w (addressed w key)) ≡ y →
      0 < length (buckets_of w key) → Reads w (addressed w key) (buckets_of w key)
  unfolding buckets_of
  readable false y e f g h = absurd (omega (arith, rw f at h))
  readable true false e f g h = absurd (omega (arith, rw (f, g) at h))
  readable true true e f g h =
      let p = passed kind s w (last_of w) told (number ∙ e) in
      let l = ltb-true (addressed w key) (slots_of w) f in
      rw (f, g) (record {
        readable =
            record { room = p.room; inside = l; shape = (sound-true (ring_of w) (body_of w (addressed w key)) (last_of w) (series-sound p l g)).shape };
        view =
            refl;
      })

  -- ---- what the rules say the key holds

  held-as : (x : Bool) → ltb (addressed w key) (slots_of w) ≡ x → buckets_of w key ≡ (held_in w key).buckets
  unfolding buckets_of held_in
  held-as true e = rw e
  held-as false e = rw e

  pub buckets-held : buckets_of w key ≡ (held_in w key).buckets
  buckets-held = held-as _ refl

  fine-as : (x y : Bool) → refusal kind s w key ≡ 0 → ltb (addressed w key) (slots_of w) ≡ x → has_series (use_of w (addressed w key)) ≡ y →
      Fine 0 (buckets_of w key) (last_of w)
  unfolding buckets_of
  fine-as false y n e f = rw e tt
  fine-as true false n e f = rw (e, f) tt
  fine-as true true n e f =
      rw (e, f) (sound-true (ring_of w) (body_of w (addressed w key)) (last_of w)
      (series-sound (passed kind s w (last_of w) told (number ∙ n)) (ltb-true _ _ e) f)).each

  -- "oldest first": times do not fall
  pub buckets-rise : refusal kind s w key ≡ 0 → (i j : ℕ) → i ≤ j → j < length (buckets_of w key) →
      (get_or (buckets_of w key) i no_bucket).time ≤ (get_or (buckets_of w key) j no_bucket).time
  buckets-rise n i j h l = rises i j 0 (buckets_of w key) (last_of w) h l (fine-as _ _ n refl refl)
