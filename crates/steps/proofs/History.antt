-- Induction over histories: what each step keeps holds after any history. An empty room is sound, its keys are distinct and it has no buckets.
-- Assumes nothing.
use Rattle.std.specs.Prelude.{◌≡◌, true, cond, List, [], ◌∷◌, ℕ, ◌<◌}
use Rattle.std.proofs.Common.{sym, ap, subst, arith}
use Rattle.settings.specs.Clock.{window_ticks, join_ticks}
use Rattle.settings.specs.declared.Settings.{Settings}
use Rattle.ring.specs.declared.Bucket.{Bucket}
use Rattle.ring.specs.Ring.{buckets}
use Rattle.room.specs.Room.{slots_of, ring_of, body_of, fits, empty}
use Rattle.room.specs.Entries.{used-free}
use Rattle.frame.specs.Whole.{empty-free, empty-distinct}
use Rattle.rules.specs.declared.RoomKind.{RoomKind}
use Rattle.opened.specs.Sound.{has_series}
use Rattle.places.specs.SoundRoom.{empty-sound}
use Rattle.steps.specs.Ops.{Op, Call, after, words, AllKeyed}
use Rattle.steps.proofs.Each.{step}
use Rattle.steps.specs.Leaves.{Starts, all, lives, none, Becomes, series_at}
use Rattle.steps.proofs.Leaves.{step-leaves, step-becomes}
use Rattle.steps.proofs.Sound.{step-sound}
use Rattle.steps.specs.Step.{Step}
use Rattle.steps.specs.History.{Sane, Closed}

pub step-sane : (kind : RoomKind) (s : Settings) (w : List ℕ) (t : ℕ) (op : Op kind) (v : List ℕ) → Sane kind s w → Step kind s w t op v → Sane kind s v
step-sane kind s w t op v o p =
    record { sound = step-sound kind s w t op v o.sound p; distinct = (step-leaves kind s w t op v o.sound.room p).distinct o.distinct }

pub empty-sane : (kind : RoomKind) (s : Settings) (slots ring l : ℕ) → fits slots ring l ≡ true → Sane kind s (empty slots ring)
empty-sane kind s slots ring l e = record { sound = empty-sound kind s slots ring l e; distinct = empty-distinct slots ring }

-- no slot has a series
empty-series : (slots ring i : ℕ) → series_at (empty slots ring) i ≡ []
empty-series slots ring i =
    let w = empty slots ring in
    ap (λ (u : ℕ). cond (has_series u) (buckets (ring_of w) (body_of w i)) []) (used-free w i (empty-free slots ring i))

-- ---- any invariant of the words

module _ (kind : RoomKind) (s : Settings) (P : List ℕ → Type 0)
    (keeps : (w : List ℕ) (t : ℕ) (op : Op kind) (v : List ℕ) → Sane kind s w → P w → Step kind s w t op v → P v) where
  pub history : (w : List ℕ) → Sane kind s w → P w → (calls : List (Call kind)) → AllKeyed calls → Sane kind s (words kind s w calls) × P (words kind s w calls)
  history w o p [] k = (o, p)
  history w o p (c ∷ cs) k =
      let h = history w o p cs k.1 in
      let m = step kind s (words kind s w cs) c.reading c.op k.0 in (
        step-sane kind s (words kind s w cs) c.reading c.op (after kind s (words kind s w cs) c.reading c.op) h.0 m,
        keeps (words kind s w cs) c.reading c.op (after kind s (words kind s w cs) c.reading c.op) h.0 h.1 m,
      )

module _ (s : Settings) (I : List Bucket → Type 0) (c : Closed s I) where
  starts-closed : (t : ℕ) (xs zs : List Bucket) → Starts (window_ticks s) t xs zs → I xs → I zs
  starts-closed t xs zs (all e) p = subst I (sym e) p
  starts-closed t xs zs (lives e) p = subst I (sym e) (c.live t xs p)
  starts-closed t xs zs (none e) p = subst I (sym e) c.none

  pub becomes-closed : (t : ℕ) (xs ys : List Bucket) → Becomes (window_ticks s) (join_ticks s) t xs ys → I xs → I ys
  becomes-closed t xs ys h p = subst I (sym h.acts) (c.acts t h.then h.from (starts-closed t xs h.from h.starts p))

  abbrev pub Everywhere : List ℕ → Type 0
  Everywhere w = (i : ℕ) → i < slots_of w → I (series_at w i)

  module _ (kind : RoomKind) where
    pub everywhere-keeps : (w : List ℕ) (t : ℕ) (op : Op kind) (v : List ℕ) → Sane kind s w → Everywhere w → Step kind s w t op v → Everywhere v
    everywhere-keeps w t op v o p m i h =
        let l : i < slots_of w = omega (arith, h, (step-leaves kind s w t op v o.sound.room m).slots) in
        becomes-closed t (series_at w i) (series_at v i) (step-becomes kind s w t op v m i l) (p i l)

    -- after any history from an empty room
    pub from_empty : (slots ring l : ℕ) → fits slots ring l ≡ true → (calls : List (Call kind)) → AllKeyed calls →
        Sane kind s (words kind s (empty slots ring) calls) × Everywhere (words kind s (empty slots ring) calls)
    from_empty slots ring l e calls k =
        history kind s Everywhere everywhere-keeps (empty slots ring) (empty-sane kind s slots ring l e)
        (λ i h. subst I (sym (empty-series slots ring i)) c.none) calls k
