-- A clear of the other party keeps what holds of a key: it frees slots with the other mark alone.
-- Assumes nothing.
use Rattle.std.proofs.Common.{sym, ap, ◌∙◌, arith}
use Rattle.std.specs.Prelude.{List, ◌≢◌, ℕ, ◌≤◌, ◌<◌}
use Rattle.settings.specs.Clock.{window_ticks, join_ticks}
use Rattle.settings.specs.declared.Settings.{Settings}
use Rattle.keys.specs.declared.Key.{Key}
use Rattle.room.specs.Room.{slots_of, last_of, holder_of}
use Rattle.room.specs.Entries.{used-ext}
use Rattle.frame.specs.Frame.{key-holder}
use Rattle.frame.specs.Whole.{Cleared, cleared-others, cleared-distinct}
use Rattle.opened.specs.Sound.{has_series}
use Rattle.admissions.specs.Log.{Entry}
use Rattle.places.specs.Has.{Has, free-has, Same}
use Rattle.demand3.specs.Kept.{Kept, kept_same}

module _ (k : Key) (w v : List ℕ) (m t : ℕ) (c : Cleared w v m t) where
  -- a slot that is not m's has what it had
  back : (i : ℕ) → Has v k i → Has w k i
  back i h =
      let l : i < slots_of w = omega (arith, h.inside, c.slots) in
      let n = cleared-others w v m t c i l (λ z. free-has z h) in
      record {
        inside = l;
        key = sym (c.keys i l n) ∙ h.key;
        series = ap has_series (sym (used-ext w v i (c.stays i l n) (c.uses i))) ∙ h.series;
      }

  forth : k.holder ≢ m → (i : ℕ) → Has w k i → Has v k i
  forth o i h =
      let n : holder_of w i ≢ m = λ z. o (ap (λ (y : Key). y.holder) (sym h.key) ∙ key-holder w i ∙ z) in
      record {
        inside = omega (arith, h.inside, c.slots);
        key = c.keys i h.inside n ∙ h.key;
        series = ap has_series (used-ext w v i (c.stays i h.inside n) (c.uses i)) ∙ h.series;
      }

  cleared-same : k.holder ≢ m → Same k w v t
  cleared-same o = record { last = c.last; ring = c.ring; back = back; forth = forth o; body = λ i h. c.bodies i }

  pub cleared-kept : (s : Settings) → join_ticks s ≤ window_ticks s → (limit : ℕ) (log : List Entry) → k.holder ≢ m → last_of w ≤ t → Kept s k limit w log →
      Kept s k limit v log
  cleared-kept s le limit log o l a = kept_same s le k limit w v t log (cleared-same o) l (cleared-distinct w v m t c a.distinct) a
