-- In a room whose ring is long enough and in which every key's buckets lie b + 1 milliseconds apart no call is told 12, and every call leaves it so.
-- Assumes nothing.
use Rattle.std.specs.Prelude.{◌≡◌, refl, Bool, false, ◌&&◌, ◌||◌, cond, List, [], ◌≢◌, ℕ, ◌≤◌, ◌<◌}
use Rattle.std.proofs.Common.{sym, ap, subst, ◌∙◌, arith}
use Rattle.std.proofs.Math.Decide.{dec_lt}
use Rattle.common.specs.Ranges.{and_no}
use Rattle.settings.specs.Clock.{window_ticks, join_ticks}
use Rattle.settings.specs.Settings.{faults}
use Rattle.settings.specs.declared.Settings.{Settings}
use Rattle.ring_length.specs.RingLength.{sufficient_ring}
use Rattle.ring.specs.Ring.{buckets}
use Rattle.rules.specs.Buckets.{gone}
use Rattle.rules.specs.Held.{Held}
use Rattle.rules.specs.Absolute.{allowed}
use Rattle.rules.specs.Sets.{rate_turns}
use Rattle.rules.specs.declared.RoomKind.{RoomKind}
use Rattle.rules.specs.declared.RoomKind.TheVariants as kind
use Rattle.room.specs.Room.{slots_of, ring_of, body_of}
use Rattle.room.specs.Entries.{used-held}
use Rattle.parties.specs.declared.Caller.{Caller}
use Rattle.parties.specs.Parties.{Sent, turns}
use Rattle.opened.specs.Sound.{has_series, addressed}
use Rattle.judge.specs.Held.{held_in}
use Rattle.judge.proofs.Held.{held-here, held_none}
use Rattle.judge.specs.Judge.{misfits}
use Rattle.clearing.specs.Clear as Clear
use Rattle.cleanup.specs.Cleanup as Cleanup
use Rattle.places.specs.SoundRoom.{addressed-held}
use Rattle.steps.specs.Ops.{Op, inc, is_allowed, get, draws, snapshot, get_factor, set_rate, set, delete, cleanup, cleanup_both, clear, answer_number}
use Rattle.steps.specs.Order.{met}
use Rattle.steps.specs.Table.{table_of, both_table}
use Rattle.steps.proofs.Table.{unmet}
use Rattle.steps.specs.Leaves.{series_at}
use Rattle.steps.proofs.Leaves.{step-leaves}
use Rattle.steps.specs.History.{Sane, Closed}
use Rattle.steps.proofs.History.{everywhere-keeps}
use Rattle.steps.specs.Step.{Step}
use Rattle.rings.proofs.Spaced.{spaced-drop, acted-kept}
use Rattle.rings.specs.Window.{apart_ticks, BucketsApart}
use Rattle.rings.proofs.Window.{apart-joins, looked-room, found-room}
use Rattle.rings.specs.Roomy.{Roomy}

-- whatever a call does to a key's buckets, they lie apart
pub apart-closed : (s : Settings) → Closed s (BucketsApart s)
apart-closed s = record {
  none = tt;
  live = λ t xs f. spaced-drop (gone (window_ticks s) t xs) (apart_ticks s) 0 xs f;
  acts = acted-kept (apart_ticks s) (join_ticks s) (apart-joins s);
}

pub roomy-keeps : (k : RoomKind) (s : Settings) (w : List ℕ) (t : ℕ) (op : Op k) (v : List ℕ) → Sane k s w → Roomy s w → Step k s w t op v → Roomy s v
roomy-keeps k s w t op v o p m = record {
  apart = everywhere-keeps s (BucketsApart s) (apart-closed s) k w t op v o p.apart m;
  ring = subst (λ (r : ℕ). sufficient_ring s ≤ r) (sym (step-leaves k s w t op v o.sound.room m).ring) p.ring;
}

-- so do the buckets of any key
pub key_apart : (s : Settings) (w : List ℕ) → ((i : ℕ) → i < slots_of w → BucketsApart s (series_at w i)) → (key : Sent) → BucketsApart s (held_in w key).buckets
key_apart s w p key = go (dec_lt (addressed w key) (slots_of w))
  where
    go : Dec (addressed w key < slots_of w) → BucketsApart s (held_in w key).buckets
    go (yes h) =
        let at = addressed w key in
        subst (λ (x : Held). BucketsApart s x.buckets) (sym (held-here w key h))
        (subst (λ (u : ℕ). BucketsApart s (cond (has_series u) (buckets (ring_of w) (body_of w at)) [])) (used-held w at (addressed-held w key h)) (p at h))
    go (no n) = subst (λ (x : Held). BucketsApart s x.buckets) (sym (held_none w key (omega arith))) tt

-- ---- 12

both-unmet : (k : RoomKind) (s : Settings) (w : List ℕ) (who : Caller) (other : List ℕ) (whose : Caller) (t : ℕ) →
    met (both_table k s w who other whose t) 12 ≡ false
unfolding faults met
both-unmet kind.Absolute s w who other whose t = refl
both-unmet kind.Suppressed s w who other whose t = refl

-- of all calls the two increments alone can be told it
pub roomy-unmet : (k : RoomKind) (s : Settings) (w : List ℕ) (t : ℕ) → Roomy s w → (op : Op k) → met (table_of k s w t op) 12 ≡ false
unfolding faults misfits turns met Clear.unclear Cleanup.misfits rate_turns
roomy-unmet k s w t p (inc key rate count) =
    ap (λ (z : Bool). (allowed s t (held_in w key) && z) || false) (found-room s t (ring_of w) p.ring count (held_in w key) (key_apart s w p.apart key)) ∙
    ap (λ (z : Bool). z || false) (and_no (allowed s t (held_in w key)))
roomy-unmet k s w t p (draws key rate count draw) =
    ap (λ (z : Bool). z || false) (looked-room s t (ring_of w) p.ring (held_in w key) (key_apart s w p.apart key))
roomy-unmet k s w t p (is_allowed key) = refl
roomy-unmet k s w t p (get key) = refl
roomy-unmet k s w t p (snapshot key) = refl
roomy-unmet k s w t p (get_factor key) = refl
roomy-unmet k s w t p (set_rate key rate) = refl
roomy-unmet k s w t p (set key rate comparator count mode) = refl
roomy-unmet k s w t p (delete key) = refl
roomy-unmet k s w t p (cleanup who stale) = refl
roomy-unmet k s w t p (cleanup_both who other whose stale) = both-unmet k s w who other whose t
roomy-unmet k s w t p (clear who) = refl

pub roomy-untold : (k : RoomKind) (s : Settings) (w : List ℕ) (t : ℕ) → Roomy s w → (op : Op k) → answer_number k s w t op ≢ 12
roomy-untold k s w t p op = unmet k s w t op 12 (λ z. omega arith) (roomy-unmet k s w t p op)
