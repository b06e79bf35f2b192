-- What the code has tested, turned into what the definitions say; and what is known of a cleanup that is not refused.
-- Assumes nothing.
use Rattle.std.specs.Prelude.{◌≡◌, refl, Bool, true, false, not, ◌&&◌, ◌||◌, List, ◌≢◌, ℕ, ◌≤◌, ◌<◌, eqb, Ok}
use Rattle.std.proofs.Math.Path.{sym}
use Rattle.std.proofs.Common.{ap, ◌∙◌, arith}
use Rattle.std.proofs.lemmas.Bool.{false≢true}
use borrow.Author.Tests.{eqb-true, eqb-false, lt-ltb, le-ltb, ltb-false, not-false}
use Rattle.base.specs.Decides.{other-true, and-true, not_so}
use Rattle.common.specs.Refusals.{first, Positive, first_found, first-none, all-false, refuse}
use Rattle.settings.specs.Settings.{faults, Proper, proper, unrefused}
use Rattle.settings.specs.Clock.{ticks_in, window_ticks}
use Rattle.settings.specs.declared.Settings.{Settings}
use Rattle.ring.specs.Ring.{Shape}
use Rattle.ring.specs.Sound.{sound_buckets, sound-true}
use Rattle.room.specs.Room.{Room, slots_of, ring_of, last_of, holder_of, use_of, used_at, key_sound, body_of, sized}
use Rattle.room.specs.Entries.{free-yes, free-no, used-held, held-used}
use Rattle.parties.specs.declared.Caller.{Caller}
use Rattle.parties.specs.Parties.{is_party, ours, overdrawn, turns}
use Rattle.room.specs.Laws.{room-sized, sized-room}
use Rattle.rules.specs.declared.RoomKind.{RoomKind}
use Rattle.opened.specs.declared.Slot.{Slot}
use Rattle.judge.proofs.Laws.{faults-positive}
use Rattle.opened.specs.Right.{slot_right, slot-here, right_is}
use Rattle.opened.specs.Slot.{slot_of}
use Rattle.opened.specs.Sound.{has_series, has_cached, right_use, sound_series, sound_cached, sound_slot}
use Rattle.base.specs.Every.{every-at}
use Rattle.judge.specs.Verdict.{verdict, Told}
use Rattle.judge.proofs.Verdict.{told-turned, told-done}
use Rattle.cleanup.specs.Cleanup.{slot_passes, all_pass, misfits, refusal, cleanup}
use Rattle.stale.specs.Uses.{cleaned, Ready}

-- ---- one slot

module _ (kind : RoomKind) (s : Settings) (w : List ℕ) (i : ℕ) where
  pub passes-free : holder_of w i ≡ 0 → true ≡ slot_passes kind s w i
  unfolding slot_passes
  passes-free e = sym (rw (free-yes w i e))

  pub passes-used : holder_of w i ≢ 0 → slot_passes kind s w i ≡ sound_slot kind s w i
  unfolding slot_passes
  passes-used h = rw (free-no w i h)

  pub fails-key : holder_of w i ≢ 0 → key_sound w i ≡ false → false ≡ slot_passes kind s w i
  unfolding sound_slot
  fails-key h k = sym (passes-used h ∙ rw k)

  -- the slot opened and judged
  pub passes-right : (t u : ℕ) (x : Slot) (y : Bool) → i < slots_of w → holder_of w i ≢ 0 → key_sound w i ≡ true → u ≡ use_of w i →
      x ≡ slot_of (window_ticks s) w t i → y ≡ slot_right kind s (last_of w) u x → y ≡ slot_passes kind s w i
  passes-right t u x y l h k p q e =
      e ∙
      ap (λ (n : ℕ). slot_right kind s (last_of w) n x) p ∙
      ap (slot_right kind s (last_of w) (use_of w i)) (q ∙ slot-here (window_ticks s) t w i l) ∙
      right_is kind s (window_ticks s) t w i k ∙
      sym (passes-used h)

-- ---- the number

misfits-positive : (kind : RoomKind) (s : Settings) (w : List ℕ) (t : ℕ) (c : Caller) → Positive (misfits kind s w t c)
unfolding misfits turns
misfits-positive kind s w t c = omega arith

-- what holds of a cleanup that is not refused
pub record Passed (kind : RoomKind) (s : Settings) (w : List ℕ) (t : ℕ) (c : Caller) : Type 0 where
  pub settings : Proper s
  pub room : Room w
  pub sound : all_pass kind s w ≡ true
  pub later : last_of w ≤ t
  pub theirs : ours w ≡ true
  pub party : is_party c.party ≡ true
  pub within : overdrawn w c ≡ false

module _ (kind : RoomKind) (s : Settings) (w : List ℕ) (t : ℕ) (c : Caller) where
  pub number-fault : (n : ℕ) → n ≡ first (faults s) → n ≢ 0 → n ≡ refusal kind s w t c
  number-fault n e z = e ∙ sym (first_found (faults s) (misfits kind s w t c) (λ f. z (e ∙ f)))

  after : Proper s → refusal kind s w t c ≡ first (misfits kind s w t c)
  after p = first-none (faults s) (misfits kind s w t c) (faults-positive s) (unrefused s p)

  pub number-lengths : Proper s → (Room w → ⊥) → 5 ≡ refusal kind s w t c
  unfolding misfits first
  number-lengths p f = sym (after p ∙ rw (not_so (sized w) (λ e. f (sized-room w e))))

  pub number-stray : Proper s → Room w → ours w ≡ false → 5 ≡ refusal kind s w t c
  unfolding misfits first
  number-stray p o a = sym (after p ∙ rw (room-sized w o, a))

  pub number-unsound : Proper s → Room w → ours w ≡ true → all_pass kind s w ≡ false → 5 ≡ refusal kind s w t c
  unfolding misfits first
  number-unsound p o a e = sym (after p ∙ rw (room-sized w o, a, e))

  pub number-reading : Proper s → Room w → ours w ≡ true → all_pass kind s w ≡ true → t < last_of w → 6 ≡ refusal kind s w t c
  unfolding misfits first
  number-reading p o a e l = sym (after p ∙ rw (room-sized w o, a, e, lt-ltb t (last_of w) l))

  -- past 6
  pub number-late : Proper s → Room w → ours w ≡ true → all_pass kind s w ≡ true → last_of w ≤ t → refusal kind s w t c ≡ first (turns w c)
  unfolding misfits first
  number-late p o a e l = after p ∙ rw (room-sized w o, a, e, le-ltb t (last_of w) l)

  -- ---- not refused

  fault-none : refusal kind s w t c ≡ 0 → first (faults s) ≡ 0
  fault-none e = go (eqb (first (faults s)) 0) refl
    where
      go : (b : Bool) → eqb (first (faults s)) 0 ≡ b → first (faults s) ≡ 0
      go true h = eqb-true _ _ h
      go false h = sym (first_found (faults s) (misfits kind s w t c) (eqb-false _ _ h)) ∙ e

  pub passed : refusal kind s w t c ≡ 0 → Passed kind s w t c
  unfolding misfits turns
  passed e =
      let p = proper s (fault-none e) in
      let f = all-false (misfits kind s w t c) (misfits-positive kind s w t c) (sym (after p) ∙ e) in
      let q = and-true (sized w) (ours w && all_pass kind s w) (not-false _ f.0) in
      let r = and-true (ours w) (all_pass kind s w) q.1 in
      record {
        settings = p;
        room = sized-room w q.0;
        sound = r.1;
        later = ltb-false _ _ f.1.0;
        theirs = r.0;
        party = not-false _ f.1.1.0;
        within = f.1.1.1.0;
      }

  -- a slot in use is sound
  pub passed-sound : Passed kind s w t c → (i : ℕ) → i < slots_of w → holder_of w i ≢ 0 → sound_slot kind s w i ≡ true
  passed-sound p i h u = sym (passes-used kind s w i u) ∙ every-at (slot_passes kind s w) (slots_of w) i h p.sound

-- ---- a sound slot's parts

-- what a slot with a series, or a cached factor, has
pub record SoundParts (kind : RoomKind) (s : Settings) (w : List ℕ) (i : ℕ) : Type 0 where
  pub key : key_sound w i ≡ true
  pub uses : right_use kind (use_of w i) ≡ true
  pub series : not (has_series (use_of w i)) || sound_series kind s (ring_of w) (last_of w) (body_of w i) ≡ true
  pub cached : not (has_cached (use_of w i)) || sound_cached (last_of w) (body_of w i) ≡ true

pub sound-parts : (kind : RoomKind) (s : Settings) (w : List ℕ) (i : ℕ) → sound_slot kind s w i ≡ true → SoundParts kind s w i
unfolding sound_slot
sound-parts kind s w i e =
    let p = and-true (key_sound w i) _ e in
    let q = and-true (right_use kind (use_of w i)) _ p.1 in
    let r = and-true (not (has_series (use_of w i)) || sound_series kind s (ring_of w) (last_of w) (body_of w i)) _ q.1 in
    record { key = p.0; uses = q.0; series = r.0; cached = r.1 }

pub parts-sound : (kind : RoomKind) (s : Settings) (w : List ℕ) (i : ℕ) → SoundParts kind s w i → sound_slot kind s w i ≡ true
unfolding sound_slot
parts-sound kind s w i p = rw (p.key, p.uses, p.series, p.cached)

has_some : (u : ℕ) → has_series u ≡ true → u ≢ 0
has_some u e z = false≢true (sym (ap has_series z) ∙ e)

series-shape : (kind : RoomKind) (s : Settings) (r last : ℕ) (b : List ℕ) → sound_series kind s r last b ≡ true → Shape r b
unfolding sound_series
series-shape kind s r last b e = (sound-true r b last (and-true (sound_buckets r b last) _ e).0).shape

pub passed-ready : (kind : RoomKind) (s : Settings) (w : List ℕ) (t : ℕ) (c : Caller) → Passed kind s w t c → Ready w
passed-ready kind s w t c p = record {
  room = p.room;
  shapes = λ i h e.
      let n = held-used w i (has_some (used_at w i) e) in
      let q = sound-parts kind s w i (passed-sound kind s w t c p i h n) in
      series-shape kind s (ring_of w) (last_of w) (body_of w i) (other-true (has_series (use_of w i)) _ (ap has_series (sym (used-held w i n)) ∙ e) q.series);
}

-- ---- the answer and the words

module _ (kind : RoomKind) (s : Settings) (w : List ℕ) (t : ℕ) (c : Caller) (stale : ℕ) where
  pub cleanup-refused : (n : ℕ) → n ≡ refusal kind s w t c → n ≢ 0 → Told (cleanup kind s w t c stale) (refuse n) w
  unfolding cleanup
  cleanup-refused n e z = rw (sym e) (told-turned refuse n w (verdict (Ok tt) (cleaned w t (ticks_in s) stale)) z)

  pub cleanup-done : (v : List ℕ) → refusal kind s w t c ≡ 0 → v ≡ cleaned w t (ticks_in s) stale → Told (cleanup kind s w t c stale) (Ok tt) v
  unfolding cleanup
  cleanup-done v e f = told-done refuse (refusal kind s w t c) w (verdict (Ok tt) (cleaned w t (ticks_in s) stale)) (Ok tt) v e (record { answer = refl; words = f })
