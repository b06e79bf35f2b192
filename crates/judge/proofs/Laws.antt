-- What the code has tested, turned into what `judged` says; and what callers know of a call that passes, or does not.
-- Assumes nothing.
use Rattle.std.specs.Prelude.{◌≡◌, ◌≢◌, Bool, ◌&&◌, List, [], ◌∷◌, ◌++◌, ℕ, ◌≤◌, ◌<◌, length, Ok, Err}
use Rattle.std.proofs.Math.Path.{refl, sym}
use Rattle.std.proofs.Common.{ap, ap₂, ◌∙◌, append_assoc, arith}
use Rattle.std.proofs.Math.Bool.{true, false}
use Rattle.std.proofs.Math.Dec.{eqb}
use borrow.Author.Tests.{ne_eqb, eqb-true, eqb-false, lt-ltb, le-ltb, ltb-false, not-false}
use Rattle.base.specs.Decides.{and-true}
use Rattle.common.specs.Refusals.{ruled, first, Positive, first_found, first-none, all-false, refusal}
use Rattle.common.specs.declared.refusal.Refusal.{Refusal}
use Rattle.common.proofs.Ruled.{ruled-ok, unless-err, unless-ok}
use Rattle.settings.specs.Settings.{window_in, bucket_in, faults, Proper, proper, unrefused}
use Rattle.settings.specs.Clock.{window_ticks, look_ticks}
use Rattle.settings.specs.declared.Settings.{Settings}
use Rattle.room.specs.Room.{Room, slots_of, sized, last_of, vacant}
use Rattle.room.specs.Laws.{room-sized, sized-room}
use Rattle.parties.specs.Parties.{Sent, ours, none_left, turns, standing_of}
use Rattle.parties.specs.declared.Standing.{Standing}
use Rattle.parties.proofs.Laws.{standing-none, left-free}
use Rattle.rules.specs.declared.RoomKind.{RoomKind}
use Rattle.opened.specs.declared.Slot.{Slot}
use Rattle.opened.specs.Sound.{addressed, sound_at}
use Rattle.opened.specs.Slot.{slot_of, first_look}
use Rattle.opened.specs.Look.{plain-slot}
use Rattle.judge.specs.declared.Judged.{Judged}
use Rattle.judge.specs.Judge.{misfits, refusals, early, fault_of, judged_by, look_by, slot_in, looked_in, slot_by, Passed}

pub faults-positive : (s : Settings) → Positive (faults s)
unfolding faults
faults-positive s = omega arith

misfits-positive : (kind : RoomKind) (s : Settings) (w : List ℕ) (t : ℕ) (key : Sent) → Positive (misfits kind s w t key)
unfolding misfits turns
misfits-positive kind s w t key = omega arith

-- positive lists, one after the other
joined-positive : (xs ys : List (ℕ × Bool)) → Positive xs → Positive ys → Positive (xs ++ ys)
joined-positive [] ys p q = q
joined-positive (x ∷ xs) ys p q = (p.0, joined-positive xs ys p.1 q)

five-none : (n : ℕ) → n ≡ 5 → n ≡ 0 → ⊥
five-none n p q = omega (arith, p, q)

-- ---- what a call knows past `fault`
unfaulted : (s : Settings) (w : List ℕ) → fault_of s w ≡ 0 → Room w × Proper s
unfolding fault_of
unfaulted s w e = go (eqb (first (faults s)) 0) refl (sized w) refl
  where
    go : (a : Bool) → eqb (first (faults s)) 0 ≡ a → (b : Bool) → sized w ≡ b → Room w × Proper s
    go true p true q = (sized-room w q, proper s (eqb-true (first (faults s)) 0 p))
    go true p false q = absurd (five-none (fault_of s w) (rw (p, q)) e)
    go false p b q = absurd (eqb-false (first (faults s)) 0 p (sym (rw p) ∙ e))

module _ (s : Settings) (w : List ℕ) (e : Ok tt ≡ ruled (fault_of s w)) where
  pub room_there : Room w
  room_there = (unfaulted s w (ruled-ok _ e)).0

  pub window_fits : window_in s ≤ 33554432
  window_fits = (unfaulted s w (ruled-ok _ e)).1.window-high

  pub bucket_fits : bucket_in s ≤ 4294967296
  bucket_fits = (unfaulted s w (ruled-ok _ e)).1.bucket-high

module _ (kind : RoomKind) (s : Settings) (w : List ℕ) (t : ℕ) (key : Sent) where
  -- ---- the answer
  pub refused-is : (b : Bool) (r : Refusal) (n : ℕ) → early kind s w t key ≡ n → n ≢ 0 → r ≡ refusal n → Err r ≡ judged_by b kind s w t key
  unfolding judged_by
  refused-is b r n e z p = rw (p, e, ne_eqb n 0 z)

  pub passed_is : (b : Bool) (none : Bool) (y : Slot) → early kind s w t key ≡ 0 → none ≡ none_left w key.caller → y ≡ slot_by b s w t key →
      Ok (record { slot = y; none = none }) ≡ judged_by b kind s w t key
  unfolding judged_by
  passed_is b none y e q p = sym (rw (e, ← p, ← q))

  -- ---- and what it says
  pub judged-err : (b : Bool) (r : Refusal) → Err r ≡ judged_by b kind s w t key → (early kind s w t key ≢ 0) × (r ≡ refusal (early kind s w t key))
  unfolding judged_by
  judged-err b r e = unless-err _ _ r e

  pub judged-ok : (b : Bool) (j : Judged) → Ok j ≡ judged_by b kind s w t key →
      (early kind s w t key ≡ 0) × (j.slot ≡ slot_by b s w t key) × (j.none ≡ none_left w key.caller)
  unfolding judged_by
  judged-ok b j e =
      let o = unless-ok _ _ j e in
      (o.0, ap (λ (y : Judged). y.slot) o.1, ap (λ (y : Judged). y.none) o.1)

  -- ---- the slot, opened with a look
  pub opened-is : (look W at : ℕ) (x : Slot) → x ≡ first_look look t (slot_of W w t at) → W ≡ window_ticks s → at ≡ addressed w key →
      x ≡ first_look look t (slot_in s w t key)
  opened-is look W at x e p q = e ∙ ap₂ (λ (W at : ℕ). first_look look t (slot_of W w t at)) p q

  pub looked-is : (look W at : ℕ) (x : Slot) → x ≡ first_look look t (slot_of W w t at) → look ≡ look_ticks s → W ≡ window_ticks s → at ≡ addressed w key →
      x ≡ looked_in s w t key
  looked-is look W at x e l p q = opened-is look W at x e p q ∙ ap (λ (look : ℕ). first_look look t (slot_in s w t key)) l

  pub plain-is : (W at : ℕ) (x : Slot) → x ≡ first_look W t (slot_of W w t at) → W ≡ window_ticks s → at ≡ addressed w key → x ≡ slot_in s w t key
  plain-is W at x e p q = e ∙ plain-slot W w t at ∙ ap₂ (λ (W at : ℕ). slot_of W w t at) p q

  -- by whether a first look is taken
  pub slot-by : (first : Bool) → first_look (look_by first s) t (slot_in s w t key) ≡ slot_by first s w t key
  slot-by true = refl
  slot-by false = plain-slot (window_ticks s) w t (addressed w key)

  -- ---- its number
  pub early-fault : (n : ℕ) → n ≡ first (faults s) → (n ≡ 0 → ⊥) → early kind s w t key ≡ n
  early-fault n e z = first_found (faults s) (misfits kind s w t key) (λ f. z (e ∙ f)) ∙ sym e

  after : Proper s → early kind s w t key ≡ first (misfits kind s w t key)
  after p = first-none (faults s) (misfits kind s w t key) (faults-positive s) (unrefused s p)

  pub early-lengths : Proper s → sized w ≡ false → early kind s w t key ≡ 5
  unfolding misfits first
  early-lengths p e = after p ∙ rw e

  -- ---- its number in two steps: of the settings and lengths, and of the rest
  pub fault-early : (n : ℕ) → n ≡ fault_of s w → (n ≡ 0 → ⊥) → early kind s w t key ≡ n
  unfolding fault_of
  fault-early n e z = go (eqb (first (faults s)) 0) refl (sized w) refl
    where
      go : (a : Bool) → eqb (first (faults s)) 0 ≡ a → (b : Bool) → sized w ≡ b → early kind s w t key ≡ n
      go true p true q = absurd (z (e ∙ rw (p, q)))
      go true p false q = early-lengths (proper s (eqb-true (first (faults s)) 0 p)) q ∙ sym (e ∙ rw (p, q))
      go false p b q = early-fault n (e ∙ rw p) z

  pub no-fault : fault_of s w ≡ 0 → Room w × Proper s
  no-fault e = unfaulted s w e

  pub early-stray : Proper s → Room w → ours w ≡ false → early kind s w t key ≡ 5
  unfolding misfits first
  early-stray p o a = after p ∙ rw (room-sized w o, a)

  pub early-unsound : Proper s → Room w → ours w ≡ true → sound_at kind s w (addressed w key) ≡ false → early kind s w t key ≡ 5
  unfolding misfits first
  early-unsound p o a e = after p ∙ rw (room-sized w o, a, e)

  pub early-reading : Proper s → Room w → ours w ≡ true → sound_at kind s w (addressed w key) ≡ true → t < last_of w → early kind s w t key ≡ 6
  unfolding misfits first
  early-reading p o a e l = after p ∙ rw (room-sized w o, a, e, lt-ltb t (last_of w) l)

  pub early-key : Proper s → Room w → ours w ≡ true → sound_at kind s w (addressed w key) ≡ true → last_of w ≤ t → 32 < length key.bytes →
      early kind s w t key ≡ 7
  unfolding misfits first
  early-key p o a e l k = after p ∙ rw (room-sized w o, a, e, le-ltb t (last_of w) l, lt-ltb 32 (length key.bytes) k)

  -- past 7
  pub early-late : Proper s → Room w → ours w ≡ true → sound_at kind s w (addressed w key) ≡ true → last_of w ≤ t → length key.bytes ≤ 32 →
      early kind s w t key ≡ first (turns w key.caller)
  unfolding misfits first
  early-late p o a e l k = after p ∙ rw (room-sized w o, a, e, le-ltb t (last_of w) l, le-ltb 32 (length key.bytes) k)

  pub early-none : Passed kind s w t key → early kind s w t key ≡ 0
  unfolding turns first
  early-none p = early-late p.settings p.room p.theirs p.sound p.later p.short ∙ rw (p.party, p.within)

  -- ---- what callers know
  fault-none : early kind s w t key ≡ 0 → first (faults s) ≡ 0
  fault-none e = go (eqb (first (faults s)) 0) refl
    where
      go : (b : Bool) → eqb (first (faults s)) 0 ≡ b → first (faults s) ≡ 0
      go true h = eqb-true _ _ h
      go false h = sym (first_found (faults s) (misfits kind s w t key) (eqb-false _ _ h)) ∙ e

  pub passed : early kind s w t key ≡ 0 → Passed kind s w t key
  unfolding misfits turns
  passed e =
      let p = proper s (fault-none e) in
      let f = all-false (misfits kind s w t key) (misfits-positive kind s w t key) (sym (after p) ∙ e) in
      let q = and-true (sized w) (ours w && sound_at kind s w (addressed w key)) (not-false _ f.0) in
      let r = and-true (ours w) (sound_at kind s w (addressed w key)) q.1 in
      record {
        settings = p;
        room = sized-room w q.0;
        sound = r.1;
        later = ltb-false _ _ f.1.0;
        short = ltb-false _ _ f.1.1.0;
        theirs = r.0;
        party = not-false _ f.1.1.1.0;
        within = f.1.1.1.1.0;
      }

  -- what the parties' side tells a call that passes
  pub standing-left : (z : Standing) → z ≡ standing_of w key.caller → early kind s w t key ≡ 0 → z.none ≡ none_left w key.caller
  standing-left z e f = standing-none w key.caller z e (passed f).theirs

  -- the lowest free slot is there, where the party has a slot left
  pub free-there : Passed kind s w t key → none_left w key.caller ≡ false → vacant w < slots_of w
  free-there p n = left-free w key.caller p.theirs p.party p.within n

  -- a call's refusals: an early one is the call's; where there is none its own decide
  pub refused-early : (own : List (ℕ × Bool)) → (early kind s w t key ≡ 0 → ⊥) → first (refusals kind s w t key own) ≡ early kind s w t key
  refused-early own z = ap first (sym (append_assoc (faults s) (misfits kind s w t key) own)) ∙ first_found (faults s ++ misfits kind s w t key) own z

  pub refused-own : (own : List (ℕ × Bool)) → early kind s w t key ≡ 0 → first (refusals kind s w t key own) ≡ first own
  refused-own own e =
      ap first (sym (append_assoc (faults s) (misfits kind s w t key) own)) ∙
      first-none (faults s ++ misfits kind s w t key) own
      (joined-positive (faults s) (misfits kind s w t key) (faults-positive s) (misfits-positive kind s w t key)) e
