-- By keys: whatever the step, each key's buckets are what one of the four rules makes of all of its buckets before, of the live ones, or of none. A slot
-- in use has its key still, or has entered a key that no slot had.
-- Assumes nothing.
use Rattle.std.specs.Prelude.{◌≡◌, refl, Bool, true, false, cond, List, [], ◌≢◌, ℕ, ◌≤◌, ◌<◌, ltb}
use Rattle.std.proofs.Common.{sym, ap, ap₂, subst, ◌∙◌, arith, lt-ltb, le-ltb, ltb-true}
use Rattle.std.proofs.Math.Decide.{ℕ_discrete}
use Rattle.settings.specs.Clock.{ticks_in, window_ticks, join_ticks}
use Rattle.settings.specs.declared.Settings.{Settings}
use Rattle.ring.specs.declared.Bucket.{Bucket}
use Rattle.ring.specs.Ring.{buckets}
use Rattle.keys.specs.declared.Key.{Key}
use Rattle.room.specs.Room.{slots_of, ring_of, holder_of, key_at, find, body_of}
use Rattle.room.specs.Entries.{used-free}
use Rattle.frame.specs.Distinct.{Distinct, changed-holder, find-held, find-key, find-where, find-beside, find-freed, find-still}
use Rattle.frame.specs.Frame.{read-run}
use Rattle.frame.specs.Whole.{clear-read-run, cleared-others}
use Rattle.parties.specs.Parties.{Sent, key_for}
use Rattle.change.specs.declared.Change.{Change}
use Rattle.change.specs.declared.Change.TheVariants.{Keep, Free, Update, Take}
use Rattle.change.specs.Words.{applied}
use Rattle.rules.specs.declared.RoomKind.{RoomKind}
use Rattle.opened.specs.Sound.{has_series}
use Rattle.leaves.specs.Calls.{keep-words, free-changed, update-changed, take-changed}
use Rattle.leaves.proofs.Cleanup.{clean_run, was-held, same-key}
use Rattle.places.specs.Placed.{Lacks, placed_same}
use Rattle.places.specs.Has.{Same, Untouched}
use Rattle.judge.specs.Judge.{slot_in}
use Rattle.steps.specs.Leaves.{Becomes, goes, series_at, untouched-series, keep-untouched, others, around}
use Rattle.steps.proofs.Leaves.{step-leaves, step-becomes}
use Rattle.steps.specs.Moves.{Does}
use Rattle.steps.proofs.Moves.{moves-placed}
use Rattle.steps.specs.Ops.{Op}
use Rattle.steps.specs.Step.{Step, refused, changed, cleaned, cleared}
use Rattle.steps.specs.History.{Sane}
use Rattle.steps.specs.Keys.{Entry, still, enters, series_of}

untouched-entry : {w v : List ℕ} {i : ℕ} → Untouched w v i → holder_of v i ≢ 0 → Entry w v i
untouched-entry u n = still (λ z. n (u.holder ∙ z)) u.key

module _ (kind : RoomKind) (s : Settings) (w : List ℕ) (t : ℕ) (key : Sent) (at : ℕ) where
  abbrev after : Change → List ℕ
  after change = applied w at key (join_ticks s) t change

  here-entry : (change : Change) → Does kind s w t key at change → at < slots_of w → holder_of (after change) at ≢ 0 → Entry w (after change) at
  here-entry Keep d h n = untouched-entry (keep-untouched kind s w t key at d.applies at h) n
  here-entry Free d h n = absurd (n (changed-holder (free-changed w at key (join_ticks s) t d.applies.room d.applies.inside)))
  here-entry (Update e) d h n = still d.moves.owns.held (update-changed w at key (join_ticks s) t e d.applies).key
  here-entry (Take e) d h n = enters (subst (λ (k : Key). Lacks w at k) (sym (take-changed w at key (join_ticks s) t e d.applies).key) d.moves.lacks)

  change-entry : (change : Change) → Does kind s w t key at change → (i : ℕ) → i < slots_of w → holder_of (after change) i ≢ 0 → Entry w (after change) i
  change-entry change d i h n = go (ℕ_discrete i at)
    where
      go : Dec (i ≡ at) → Entry w (after change) i
      go (yes q) = subst (λ (j : ℕ). Entry w (after change) j) (sym q)
          (here-entry change d (omega arith) (subst (λ (j : ℕ). holder_of (after change) j ≢ 0) q n))
      go (no q) = untouched-entry (others kind s w t key at change d i h q) n

  -- another key's slot stands
  pub change-same : (change : Change) → Does kind s w t key at change → Distinct w → (k : Key) → k ≢ key_for key → Same k w (after change) t
  change-same change d q k n =
      placed_same w at key (join_ticks s) t q change d.applies (moves-placed (slot_in s w t key) w (key_for key) at change d.moves) k n

module _ (kind : RoomKind) (s : Settings) (w : List ℕ) (t : ℕ) (op : Op kind) (v : List ℕ) where
  pub step-entry : Step kind s w t op v → (i : ℕ) → i < slots_of w → holder_of v i ≢ 0 → Entry w v i
  step-entry (refused e) i h n = still (λ z. n (ap (λ (y : List ℕ). holder_of y i) e ∙ z)) (ap (λ (y : List ℕ). key_at y i) e)
  step-entry (changed key who at change d e) i h n =
      subst (λ (y : List ℕ). Entry w y i) (sym e) (change-entry kind s w t key at change d i h (subst (λ (y : List ℕ). holder_of y i ≢ 0) e n))
  step-entry (cleaned stale who z p e) i h n =
      let c = clean_run w t (ticks_in s) stale p.room in
      let m = subst (λ (y : List ℕ). holder_of y i ≢ 0) e n in
      still (was-held c i h m) (ap (λ (y : List ℕ). key_at y i) e ∙ same-key c i h m)
  step-entry (cleared m z r l e) i h n =
      let c = clear-read-run w m r t in
      let q = cleared-others w _ m t c i h (subst (λ (y : List ℕ). holder_of y i ≢ 0) e n) in
      still (λ a. n (ap (λ (y : List ℕ). holder_of y i) e ∙ c.stays i h q ∙ a)) (ap (λ (y : List ℕ). key_at y i) e ∙ c.keys i h q)

-- ---- a key's buckets

series-here : (w : List ℕ) (k : Key) (i : ℕ) → i < slots_of w → find w k ≡ i → series_of w k ≡ series_at w i
series-here w k i h e = ap (λ (z : Bool). cond z (series_at w (find w k)) []) (lt-ltb (find w k) (slots_of w) (omega arith)) ∙ ap (series_at w) e

series-none : (w : List ℕ) (k : Key) → slots_of w ≤ find w k → series_of w k ≡ []
series-none w k h = ap (λ (z : Bool). cond z (series_at w (find w k)) []) (le-ltb (find w k) (slots_of w) h)

pub step-key : (kind : RoomKind) (s : Settings) (w : List ℕ) (t : ℕ) (op : Op kind) (v : List ℕ) → Sane kind s w → Step kind s w t op v → (k : Key) →
    Becomes (window_ticks s) (join_ticks s) t (series_of w k) (series_of v k)
step-key kind s w t op v o m k = go (ltb (find v k) (slots_of v)) refl
  where
    found : (h : find v k < slots_of v) → Entry w v (find v k) → Becomes (window_ticks s) (join_ticks s) t (series_of w k) (series_at v (find v k))
    found h (still u e) =
        let l : find v k < slots_of w = omega (arith, h, (step-leaves kind s w t op v o.sound.room m).slots) in
        let q : find w k ≡ find v k = find-where w k (find v k) o.distinct l u (sym e ∙ find-key v k h) in
        subst (λ (xs : List Bucket). Becomes (window_ticks s) (join_ticks s) t xs (series_at v (find v k))) (sym (series-here w k (find v k) l q))
        (step-becomes kind s w t op v m (find v k) l)
    found h (enters c) =
        let l : find v k < slots_of w = omega (arith, h, (step-leaves kind s w t op v o.sound.room m).slots) in
        let a : series_at w (find v k) ≡ [] = ap (λ (u : ℕ). cond (has_series u) (buckets (ring_of w) (body_of w (find v k))) [])
        (used-free w (find v k) c.free) in
        let b : series_of w k ≡ [] = series-none w k (subst (λ (j : Key). slots_of w ≤ find w j) (find-key v k h) c.none) in
        subst (λ (xs : List Bucket). Becomes (window_ticks s) (join_ticks s) t xs (series_at v (find v k))) (a ∙ sym b)
        (step-becomes kind s w t op v m (find v k) l)

    go : (z : Bool) → ltb (find v k) (slots_of v) ≡ z → Becomes (window_ticks s) (join_ticks s) t (series_of w k) (cond z (series_at v (find v k)) [])
    go true e =
        let h : find v k < slots_of v = ltb-true _ _ e in
        found h (step-entry kind s w t op v m (find v k) (omega (arith, h, (step-leaves kind s w t op v o.sound.room m).slots)) (find-held v k h))
    go false e = goes (window_ticks s) (join_ticks s) t _ _ refl

-- ---- a call of another key leaves a key's buckets: this is where the step's key counts

module _ (kind : RoomKind) (s : Settings) (w : List ℕ) (t : ℕ) (key : Sent) (at : ℕ) (k : Key) (n : key_for key ≢ k) where
  abbrev left : Change → List ℕ
  left change = applied w at key (join_ticks s) t change

  -- a slot with the named key is not k's
  away : key_at w at ≡ key_for key → find w k < slots_of w → find w k ≢ at
  away e h q = n (sym e ∙ ap (key_at w) (sym q) ∙ find-key w k h)

  pub stands : (change : Change) → Does kind s w t key at change → find w k < slots_of w → Untouched w (left change) (find w k)
  stands Keep d h = keep-untouched kind s w t key at d.applies (find w k) h
  stands Free d h = others kind s w t key at Free d (find w k) h (away d.moves.key h)
  stands (Update e) d h = others kind s w t key at (Update e) d (find w k) h (away d.moves.owns.key h)
  stands (Take e) d h = others kind s w t key at (Take e) d (find w k) h (λ q. find-held w k h (ap (holder_of w) q ∙ d.moves.lacks.free))

  pub finds : (change : Change) → Does kind s w t key at change → find (left change) k ≡ find w k
  finds Keep d = ap (λ (v : List ℕ). find v k) (keep-words w at key (join_ticks s) t) ∙ find-still (read-run w 0 t d.applies d.applies.one) refl k
  finds Free d =
      let e = d.moves.key in
      find-freed (free-changed w at key (join_ticks s) t d.applies.room d.applies.inside) k refl (λ u q. n (sym e ∙ q))
  finds (Update c) d =
      let e = d.moves.owns.key in
      find-beside (update-changed w at key (join_ticks s) t c d.applies) k (λ q. n (sym e ∙ q)) (λ u q. n (sym e ∙ q))
  finds (Take c) d = find-beside (take-changed w at key (join_ticks s) t c d.applies) k n (λ u q. u d.moves.lacks.free)

  pub change-other : (change : Change) → Does kind s w t key at change → series_of (left change) k ≡ series_of w k
  change-other change d =
      let a = around kind s w t key at change d in
      let f = finds change d in
      ap₂ (λ (i m : ℕ). cond (ltb i m) (series_at (left change) i) []) f a.slots ∙ go (ltb (find w k) (slots_of w)) refl
    where
      go : (z : Bool) → ltb (find w k) (slots_of w) ≡ z → cond z (series_at (left change) (find w k)) [] ≡ cond z (series_at w (find w k)) []
      go true e = untouched-series w (left change) (find w k) (around kind s w t key at change d).ring (stands change d (ltb-true _ _ e))
      go false e = refl
