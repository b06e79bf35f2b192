-- (b) A sound room stays sound, whatever the step.
-- Assumes nothing.
use Rattle.std.specs.Prelude.{◌≡◌, Bool, true, false, cond, ◌≢◌, ℕ, ◌≤◌, ◌<◌, drop}
use Rattle.std.proofs.Math.Path.{refl, ap, subst}
use Rattle.std.proofs.Common.{sym, ◌∙◌, arith, eq-eqb, eqb-true}
use mathlib.Core.List.{List, []}
use Rattle.std.proofs.Math.Decide.{ℕ_discrete}
use Rattle.settings.specs.Clock.{ticks_in, join_ticks}
use Rattle.settings.specs.declared.Settings.{Settings}
use Rattle.history.specs.Changes.{joined-declineds}
use Rattle.preserve.proofs.Preserves.{preserved-comes}
use Rattle.rules.specs.Buckets.{joined}
use Rattle.ring.specs.declared.Bucket.{Bucket}
use Rattle.ring.specs.Ring.{bucket, denied_of, declineds, buckets}
use Rattle.ring.specs.Sums.{sum_one, sum-none, sum-split}
use Rattle.keys.specs.declared.Key.{Key}
use Rattle.room.specs.Room.{Room, slots_of, ring_of, holder_of, key_at, body_of, with_reading, cleared}
use Rattle.parties.proofs.Laws.{Holds, none, ours_at, all-ours, mark-holds}
use Rattle.keys.specs.Keys.{key_fits}
use Rattle.frame.specs.Distinct.{changed-holder}
use Rattle.frame.specs.Frame.{Changed, key-holder}
use Rattle.frame.specs.Whole.{clear-read-run, cleared-others}
use Rattle.parties.specs.Parties.{Sent, key_for}
use Rattle.change.specs.declared.Change.{Change}
use Rattle.change.specs.declared.Change.TheVariants.{Keep, Free, Update, Take}
use Rattle.edit.specs.declared.Edit.{Edit}
use Rattle.edit.specs.declared.Then.{Then}
use Rattle.edit.specs.declared.Then.TheVariants as then
use Rattle.change.specs.Words.{applied, EditsAt}
use Rattle.edit.specs.Bodies.{edited, started_view, acted_view, edited_view}
use Rattle.rules.specs.declared.RoomKind.{RoomKind}
use Rattle.rules.specs.declared.RoomKind.TheVariants.{Absolute, Suppressed}
use Rattle.opened.specs.declared.Slot.{Slot}
use Rattle.judge.specs.Judge.{Passed, slot_in}
use Rattle.opened.specs.Sound.{declined_right, sound_slot}
use Rattle.calls.specs.Calls.{known_at}
use Rattle.cleanup.specs.Laws.{sound-parts}
use Rattle.leaves.specs.Calls.{none_right, stands-so, free-changed, update-changed, take-changed}
use Rattle.leaves.specs.Cleanup.{Cleaned}
use Rattle.leaves.proofs.Cleanup.{clean_run, clean-sound, same-holder}
use Rattle.places.specs.SoundRoom.{SoundRoom, slot-later}
use Rattle.steps.specs.Moves.{From, opens, keeps, evicts, Quiet, Right, Does}
use Rattle.steps.specs.Ops.{Op}
use Rattle.steps.specs.Step as Steps
use Rattle.steps.specs.Step.{Step, refused, changed, cleaned}
use Rattle.steps.specs.Leaves.{sent-holder, keep-untouched, others, around}
use Rattle.steps.specs.Sound.{Kept, gone, same}

-- ---- what is declined

fewer : (kind : RoomKind) (d n : ℕ) → n ≤ d → declined_right kind d ≡ true → declined_right kind n ≡ true
fewer Absolute d n h e = eq-eqb n 0 (omega (arith, eqb-true d 0 e))
fewer Suppressed d n h e = refl

quiet-acts : (kind : RoomKind) (b t : ℕ) (then : Then) (zs : List Bucket) → Quiet kind then → declined_right kind (declineds zs) ≡ true →
    declined_right kind (declineds (acted_view b t then zs)) ≡ true
unfolding acted_view
quiet-acts Suppressed b t then zs q e = refl
quiet-acts Absolute b t then.Nothing zs q e = e
quiet-acts Absolute b t (then.Increment c d) zs q e =
    fewer Absolute (declineds zs) (declineds (joined b t c d zs)) (omega (arith, joined-declineds b t c d zs, q)) e
quiet-acts Absolute b t (then.Replace n) zs q e = none_right Absolute _ (sum_one denied_of (bucket n 0 t))
quiet-acts Absolute b t (then.Preserve p n) zs q e = fewer Absolute (declineds zs) _ (preserved-comes p t n zs).fewer e

module _ (kind : RoomKind) (s : Settings) (w : List ℕ) (t : ℕ) (key : Sent) (at : ℕ) where
  abbrev x : Slot
  x = slot_in s w t key

  abbrev b : ℕ
  b = join_ticks s

  abbrev view : List Bucket
  view = buckets (ring_of w) (body_of w at)

  abbrev after : Change → List ℕ
  after change = applied w at key (join_ticks s) t change

  none-declined : (e : Edit) → e.begins ≡ true → declined_right kind (declineds (started_view e view)) ≡ true
  unfolding started_view
  none-declined e z = none_right kind _ (ap (λ (y : Bool). declineds (cond y [] (drop e.gone view))) z ∙ sum-none denied_of)

  some-declined : Passed kind s w t key → (e : Edit) → x.series ≡ true → x.at ≡ at → e.begins ≡ false →
      declined_right kind (declineds (started_view e view)) ≡ true
  unfolding started_view
  some-declined p e h q z =
      let k = known_at kind s w t key p h in
      let f : x.declined ≡ declineds view =
      subst (λ (i : ℕ). x.declined ≡ declineds (buckets (ring_of w) (body_of w i))) q (k.declined-is ∙ k.now.declined) in
      fewer kind x.declined (declineds (cond e.begins [] (drop e.gone view)))
      (omega (arith, f, sum-split denied_of e.gone view, ap (λ (y : Bool). declineds (cond y [] (drop e.gone view))) z)) k.right

  from-declined : Passed kind s w t key → (e : Edit) → x.at ≡ at → From x e → declined_right kind (declineds (started_view e view)) ≡ true
  from-declined p e q (opens z n) = none-declined e z
  from-declined p e q (keeps h z g n) = some-declined p e h q z
  from-declined p e q (evicts h z g) = some-declined p e h q z

  edit-sound : (v : List ℕ) (k : Key) (e : Edit) → EditsAt w at b t e → Changed w v at e.used k (edited (ring_of w) b t (body_of w at) e) t →
      Right kind s t e → key_fits k ≡ true →
      declined_right kind (declineds (started_view e view)) ≡ true → sound_slot kind s v at ≡ true
  unfolding edited_view
  edit-sound v k e o c r f d =
      (stands-so kind s w v at b t k e o c _ refl f r.uses (quiet-acts kind b t e.then (started_view e view) r.quiet d) r.limit r.factor).sound

  -- the addressed slot
  module _ (o : SoundRoom kind s w) where
    here : (change : Change) → Does kind s w t key at change → at < slots_of w → holder_of (after change) at ≢ 0 → sound_slot kind s (after change) at ≡ true
    here Keep d h n =
        let a = around kind s w t key at Keep d in
        let u = keep-untouched kind s w t key at d.applies at h in
        slot-later kind s w (after Keep) a.ring (omega (arith, a.last, d.passed.later)) at u (o.slots at h (λ z. n (u.holder ∙ z)))
    here Free d h n = absurd (n (changed-holder (free-changed w at key b t d.applies.room d.applies.inside)))
    here (Update e) d h n =
        edit-sound (after (Update e)) (key_at w at) e d.applies (update-changed w at key b t e d.applies) d.stores
        (sound-parts kind s w at (o.slots at h d.moves.owns.held)).key
        (from-declined d.passed e d.moves.place d.moves.from)
    here (Take e) d h n =
        edit-sound (after (Take e)) (key_for key) e d.applies (take-changed w at key b t e d.applies) d.stores d.moves.fits
        (none-declined e d.moves.begins)

    -- whose it is
    mine : (change : Change) → Does kind s w t key at change → at < slots_of w → Holds (holder_of (after change) at)
    mine Keep d h = subst Holds (sym (keep-untouched kind s w t key at d.applies at h).holder) (ours_at w o.theirs at h)
    mine Free d h = none (changed-holder (free-changed w at key b t d.applies.room d.applies.inside))
    mine (Update e) d h =
        subst Holds (sym (changed-holder (update-changed w at key b t e d.applies) ∙ key-holder w at)) (ours_at w o.theirs at h)
    mine (Take e) d h =
        subst Holds (sym (changed-holder (take-changed w at key b t e d.applies) ∙ sent-holder key)) (mark-holds key.caller.party d.passed.party)

    pub change-sound : (change : Change) → Does kind s w t key at change → SoundRoom kind s (after change)
    change-sound change d = record {
      room = (around kind s w t key at change d).room;
      theirs = all-ours (after change) (λ i h. whose i (omega (arith, h, (around kind s w t key at change d).slots)) (ℕ_discrete i at));
      slots = λ i h n. go i h n (ℕ_discrete i at);
    }
      where
        whose : (i : ℕ) → i < slots_of w → Dec (i ≡ at) → Holds (holder_of (after change) i)
        whose i h (yes q) = subst (λ (j : ℕ). Holds (holder_of (after change) j)) (sym q) (mine change d (subst (λ (j : ℕ). j < slots_of w) q h))
        whose i h (no q) = subst Holds (sym (others kind s w t key at change d i h q).holder) (ours_at w o.theirs i h)

        go : (i : ℕ) → i < slots_of (after change) → holder_of (after change) i ≢ 0 → Dec (i ≡ at) → sound_slot kind s (after change) i ≡ true
        go i h n (yes q) =
            subst (λ (j : ℕ). sound_slot kind s (after change) j ≡ true) (sym q)
            (here change d (omega (arith, (around kind s w t key at change d).slots)) (subst (λ (j : ℕ). holder_of (after change) j ≢ 0) q n))
        go i h n (no q) =
            let a = around kind s w t key at change d in
            let l : i < slots_of w = omega (arith, h, a.slots) in
            let u = others kind s w t key at change d i l q in
            slot-later kind s w (after change) a.ring (omega (arith, a.last, d.passed.later)) i u (o.slots i l (λ z. n (u.holder ∙ z)))

kept-holds : {m n : ℕ} → Kept m n → Holds m → Holds n
kept-holds (gone e) h = none e
kept-holds (same e) h = subst Holds (sym e) h

pub cleaned-holder : {w v : List ℕ} {t ticks stale : ℕ} → Cleaned w v t ticks stale → (i : ℕ) → i < slots_of w → Kept (holder_of w i) (holder_of v i)
cleaned-holder {w} {v} c i h = go (ℕ_discrete (holder_of v i) 0)
  where
    go : Dec (holder_of v i ≡ 0) → Kept (holder_of w i) (holder_of v i)
    go (yes e) = gone e
    go (no n) = same (same-holder c i h n)

pub cleared-holder : (w : List ℕ) (m t : ℕ) (o : Room w) (i : ℕ) → i < slots_of w → Kept (holder_of w i) (holder_of (with_reading (cleared w m) t) i)
cleared-holder w m t o i h = go (ℕ_discrete (holder_of w i) m)
  where
    go : Dec (holder_of w i ≡ m) → Kept (holder_of w i) (holder_of (with_reading (cleared w m) t) i)
    go (yes e) = gone ((clear-read-run w m o t).free i h e)
    go (no n) = same ((clear-read-run w m o t).stays i h n)

pub step-sound : (kind : RoomKind) (s : Settings) (w : List ℕ) (t : ℕ) (op : Op kind) (v : List ℕ) → SoundRoom kind s w → Step kind s w t op v →
    SoundRoom kind s v
step-sound kind s w t op v o (refused e) = subst (SoundRoom kind s) (sym e) o
step-sound kind s w t op v o (changed key who at change d e) = subst (SoundRoom kind s) (sym e) (change-sound kind s w t key at o change d)
step-sound kind s w t op v o (cleaned stale who z p e) =
    let c = clean_run w t (ticks_in s) stale p.room in
    subst (SoundRoom kind s) (sym e) (record {
      room = c.room;
      theirs = all-ours _ (λ i h. kept-holds (cleaned-holder c i (omega (arith, h, c.slots))) (ours_at w o.theirs i (omega (arith, h, c.slots))));
      slots = λ i h n. clean-sound kind s w _ t (ticks_in s) stale who c p i
          (omega (arith, h, c.slots)) n;
    })
step-sound kind s w t op v o (Steps.cleared m z r l e) =
    let c = clear-read-run w m r t in
    subst (SoundRoom kind s) (sym e) (record {
      room = c.room;
      theirs = all-ours _ (λ i h. kept-holds (cleared-holder w m t r i (omega (arith, h, c.slots))) (ours_at w o.theirs i (omega (arith, h, c.slots))));
      slots = λ i h n.
          let g : i < slots_of w = omega (arith, h, c.slots) in
          let q = cleared-others w _ m t c i g n in
          slot-later kind s w _ c.ring (omega (arith, c.last, l)) i
          (record { holder = c.stays i g q; used = c.uses i; key = c.keys i g q; body = c.bodies i }) (o.slots i g (λ a. n (c.stays i g q ∙ a)));
    })
