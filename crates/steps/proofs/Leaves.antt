-- What a step leaves, whatever the call was: the slots it does not address stand, keys stay distinct, and the buckets of each slot's series are what one of
-- the four rules makes of all of them, of the live ones, or of none.
-- Assumes nothing.
use Rattle.std.specs.Prelude.{◌≡◌, Bool, true, false, ◌&&◌, ℕ, ◌<◌}
use Rattle.std.proofs.Math.Path.{refl, sym, ap, subst}
use Rattle.std.proofs.Common.{ap₂, ◌∙◌, arith}
use Rattle.std.proofs.Math.Bool.{cond}
use mathlib.Core.List.{List, []}
use Rattle.std.proofs.Math.Decide.{ℕ_discrete}
use Rattle.settings.specs.Clock.{ticks_in, window_ticks, join_ticks}
use Rattle.settings.specs.declared.Settings.{Settings}
use Rattle.rules.specs.Buckets.{live, preserved}
use Rattle.ring.specs.declared.Bucket.{Bucket}
use Rattle.ring.specs.Ring.{buckets}
use Rattle.room.specs.Room.{Room, slots_of, ring_of, holder_of, used_at, body_of, with_reading, cleared as cleared_words}
use Rattle.room.specs.Entries.{used-free}
use Rattle.frame.specs.Whole.{clear-read-run, cleared-distinct}
use Rattle.parties.specs.Parties.{key_for}
use Rattle.edit.specs.declared.Then.{Then}
use Rattle.edit.specs.declared.Then.TheVariants as then
use Rattle.edit.specs.Bodies.{acted_view}
use Rattle.rules.specs.declared.RoomKind.{RoomKind}
use Rattle.judge.specs.Judge.{slot_in}
use Rattle.opened.specs.Sound.{has_series}
use Rattle.rules.specs.Stale.{series_stays}
use Rattle.stale.specs.Uses as Uses
use Rattle.leaves.proofs.Cleanup.{clean_run, series-kept, clean-distinct}
use Rattle.places.specs.Placed.{placed-distinct}
use Rattle.steps.proofs.Moves.{moves-placed}
use Rattle.steps.specs.Ops.{Op}
use Rattle.steps.specs.Step.{Step, refused, changed, cleaned, cleared}
use Rattle.steps.specs.Leaves.{Starts, all, lives, none, Preserving, Becomes, Fate, unchanged, evicted, emptied, counted, replaces, preserves, stays, goes, series_at, untouched-series, around, change-becomes, Leaves}

-- ---- what becomes of a series' buckets

fate-by : (W b t : ℕ) (xs ys zs : List Bucket) (then : Then) → Starts W t xs zs → ys ≡ acted_view b t then zs → Preserving then (zs ≡ live W t xs) →
    Fate W b t xs ys
unfolding acted_view
fate-by W b t xs ys zs then.Nothing (all q) e o = unchanged (e ∙ q)
fate-by W b t xs ys zs then.Nothing (lives q) e o = evicted (e ∙ q)
fate-by W b t xs ys zs then.Nothing (none q) e o = emptied (e ∙ q)
fate-by W b t xs ys zs (then.Increment c d) f e o = counted zs c d f e
fate-by W b t xs ys zs (then.Replace n) f e o = replaces n e
fate-by W b t xs ys zs (then.Preserve p n) f e o = preserves p n (e ∙ ap (preserved p t n) o)

pub fate : {W b t : ℕ} {xs ys : List Bucket} → Becomes W b t xs ys → Fate W b t xs ys
fate {W} {b} {t} {xs} {ys} h = fate-by W b t xs ys h.from h.then h.starts h.acts h.only

-- ---- any step

clean-goes : (W b t : ℕ) (a z : Bool) (xs ys : List Bucket) → ys ≡ xs → Becomes W b t (cond a xs []) (cond (a && z) ys [])
clean-goes W b t true true xs ys e = stays W b t _ _ e
clean-goes W b t true false xs ys e = goes W b t _ _ refl
clean-goes W b t false z xs ys e = goes W b t _ _ refl

module _ (kind : RoomKind) (s : Settings) (w : List ℕ) (t : ℕ) (op : Op kind) (v : List ℕ) where
  pub step-leaves : Room w → Step kind s w t op v → Leaves w v
  step-leaves o (refused e) =
      subst (λ (y : List ℕ). Leaves w y) (sym e) (record { room = o; slots = refl; ring = refl; later = omega arith; distinct = λ d. d })
  step-leaves o (changed key who at change d e) =
      let a = around kind s w t key at change d in
      subst (λ (y : List ℕ). Leaves w y) (sym e)
      (record {
        room = a.room;
        slots = a.slots;
        ring = a.ring;
        later = omega (arith, a.last, d.passed.later);
        distinct = λ q. placed-distinct w at key (join_ticks s) t q change d.applies (moves-placed (slot_in s w t key) w (key_for key) at change d.moves);
      })
  step-leaves o (cleaned stale who z p e) =
      let c = clean_run w t (ticks_in s) stale p.room in
      subst (λ (y : List ℕ). Leaves w y) (sym e)
      (record { room = c.room; slots = c.slots; ring = c.ring; later = omega (arith, c.last, p.later); distinct = clean-distinct c })
  step-leaves o (cleared m z r l e) =
      let c = clear-read-run w m r t in
      subst (λ (y : List ℕ). Leaves w y) (sym e)
      (record { room = c.room; slots = c.slots; ring = c.ring; later = omega (arith, c.last); distinct = cleared-distinct w _ m t c })

  pub step-becomes : Step kind s w t op v → (i : ℕ) → i < slots_of w → Becomes (window_ticks s) (join_ticks s) t (series_at w i) (series_at v i)
  step-becomes (refused e) i h = stays (window_ticks s) (join_ticks s) t _ _ (ap (λ (y : List ℕ). series_at y i) e)
  step-becomes (changed key who at change d e) i h =
      subst (λ (y : List ℕ). Becomes (window_ticks s) (join_ticks s) t (series_at w i) (series_at y i)) (sym e) (change-becomes kind s w t key at change d i h)
  step-becomes (cleaned stale who z p e) i h =
      let y = Uses.cleaned w t (ticks_in s) stale in
      let c = clean_run w t (ticks_in s) stale p.room in
      let stood = series_stays (buckets (ring_of w) (body_of w i)) t (ticks_in s) stale in
      let q : series_at y i ≡ cond (has_series (used_at w i) && stood) (buckets (ring_of y) (body_of y i)) [] =
      ap (λ (z : Bool). cond z (buckets (ring_of y) (body_of y i)) []) (series-kept c i h) in
      subst (λ (ys : List Bucket). Becomes (window_ticks s) (join_ticks s) t (series_at w i) ys) (sym (ap (λ (y : List ℕ). series_at y i) e ∙ q))
      (clean-goes (window_ticks s) (join_ticks s) t (has_series (used_at w i)) stood _ _ (ap₂ buckets c.ring (c.bodies i)))
  step-becomes (cleared m z r l e) i h = go (ℕ_discrete (holder_of w i) m)
    where
      go : Dec (holder_of w i ≡ m) → Becomes (window_ticks s) (join_ticks s) t (series_at w i) (series_at v i)
      go (yes q) =
          let y = with_reading (cleared_words w m) t in
          let c = clear-read-run w m r t in
          goes (window_ticks s) (join_ticks s) t _ _
          (ap (λ (y : List ℕ). series_at y i) e ∙ ap (λ (u : ℕ). cond (has_series u) (buckets (ring_of y) (body_of y i)) []) (used-free y i (c.free i h q)))
      go (no q) =
          let y = with_reading (cleared_words w m) t in
          let c = clear-read-run w m r t in
          stays (window_ticks s) (join_ticks s) t _ _
          (ap (λ (y : List ℕ). series_at y i) e ∙
          untouched-series w y i c.ring (record { holder = c.stays i h q; used = c.uses i; key = c.keys i h q; body = c.bodies i }))
