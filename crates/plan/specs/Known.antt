-- What a call that passes refusals 1 to 7, 15 and 16 knows of its key's slot, in the buckets' own terms; and that the planned edits can be carried out.
-- Assumes nothing.
use Rattle.std.specs.Prelude.{◌≡◌, Bool, false, not, ◌||◌, List, [], ℕ, ◌≤◌, ◌<◌, length, drop}
use Rattle.std.proofs.Math.Path.{sym, ap}
use Rattle.std.proofs.Common.{◌∙◌, arith}
use Rattle.std.proofs.Math.Bool.{true}
use Rattle.std.proofs.lemmas.Bool.{false≢true}
use borrow.Author.Tests.{lt-ltb, leb-true}
use Rattle.base.specs.Decides.{other-true, and-true}
use Rattle.suppression.specs.Factor.{factor_word_ok}
use Rattle.common.specs.Limits.{limit_ok}
use Rattle.settings.specs.Settings.{window_in, factor_in}
use Rattle.settings.specs.Clock.{window_ticks}
use Rattle.settings.specs.declared.Settings.{Settings}
use Rattle.rules.specs.Buckets.{gone_if}
use Rattle.sweep.specs.Measured.{Measured, pass-judges, pass-measures}
use Rattle.sweep.specs.Sweep.{pass_of}
use Rattle.ring.specs.declared.Bucket.{Bucket}
use Rattle.layout.specs.Layout.{size_of}
use Rattle.ring.specs.Ring.{counts, declineds, total_of, declined_of, buckets}
use Rattle.ring.specs.Sound.{Sound, sound_buckets, sound-true, sound-later}
use Rattle.room.specs.Room.{Room, slots_of, ring_of, last_of, use_of, body_of, key_sound}
use Rattle.room.specs.Laws.{body-length}
use Rattle.parties.specs.Parties.{Sent}
use Rattle.edit.specs.declared.Edit.{Edit}
use Rattle.edit.specs.declared.Then.{Then}
use Rattle.change.specs.Words.{EditsAt}
use Rattle.edit.specs.Bodies.{ActsOn, started_view}
use Rattle.rules.specs.declared.RoomKind.{RoomKind}
use Rattle.opened.specs.declared.Slot.{Slot}
use Rattle.opened.specs.Sound.{limit_of, factor_of, factor_time_of, has_series, has_cached, right_use, declined_right, sound_series, sound_cached, sound_slot, addressed}
use Rattle.opened.specs.Sound.{sound_at}
use Rattle.rules.specs.Both.{divisor}
use Rattle.opened.specs.Slot.{no_slot, pick_pass, opened, slot_of}
use Rattle.judge.specs.Judge.{Passed}
use Rattle.opened.specs.Right.{slot-here, slot-none}
use Rattle.plan.specs.Plan.{opening}

-- the slot of a key that has a slot
pub record Found (kind : RoomKind) (s : Settings) (w : List ℕ) (t at : ℕ) (x : Slot) : Type 0 where
  pub inside : at < slots_of w
  pub is : x ≡ opened (window_ticks s) (ring_of w) (last_of w) t at (use_of w at) (body_of w at)
  pub sound : sound_slot kind s w at ≡ true

-- and of one that has a series: its words, and what the pass found of its buckets; out says whether the expired ones are out
pub record Known (kind : RoomKind) (s : Settings) (w : List ℕ) (t at : ℕ) (out : Bool) (x : Slot) : Type 0 where
  pub inside : at < slots_of w
  pub measured : Measured (ring_of w) (body_of w at) (last_of w) (gone_if out (window_ticks s) t (buckets (ring_of w) (body_of w at))) x.pass
  pub now : Sound (ring_of w) (body_of w at) t
  pub at-is : x.at ≡ at
  pub used-is : x.used ≡ use_of w at
  pub limit_is : x.limit ≡ limit_of (body_of w at)
  pub total-is : x.total ≡ total_of (body_of w at)
  pub declined-is : x.declined ≡ declined_of (body_of w at)
  pub factor-is : x.factor ≡ factor_of (body_of w at)
  pub time-is : x.factor_time ≡ factor_time_of (body_of w at)
  pub right : declined_right kind x.declined ≡ true
  pub limit-ok : limit_ok (window_in s) (divisor kind (factor_in s)) x.limit ≡ true

-- a cached factor that is sound
pub record Cached (last : ℕ) (x : Slot) : Type 0 where
  pub factor-ok : factor_word_ok x.factor ≡ true
  pub earlier : x.factor_time ≤ last

sound-there : (kind : RoomKind) (s : Settings) (w : List ℕ) (at : ℕ) → at < slots_of w → sound_at kind s w at ≡ true → sound_slot kind s w at ≡ true
unfolding sound_at
sound-there kind s w at h e = rw (lt-ltb at (slots_of w) h) at e

module _ (kind : RoomKind) (s : Settings) (w : List ℕ) (t : ℕ) (key : Sent) (p : Passed kind s w t key) where
  pub found : addressed w key < slots_of w → Found kind s w t (addressed w key) (slot_of (window_ticks s) w t (addressed w key))
  found h = record { inside = h; is = slot-here (window_ticks s) t w (addressed w key) h; sound = sound-there kind s w (addressed w key) h p.sound }

  pub none : slots_of w ≤ addressed w key → slot_of (window_ticks s) w t (addressed w key) ≡ no_slot (slots_of w)
  none h = slot-none (window_ticks s) t w (addressed w key) h

-- ---- what is sound

module _ (kind : RoomKind) (s : Settings) (w : List ℕ) (t at : ℕ) (x : Slot) (f : Found kind s w t at x) where
  parts : (right_use kind (use_of w at) ≡ true) ×
      ((not (has_series (use_of w at)) || sound_series kind s (ring_of w) (last_of w) (body_of w at) ≡ true) ×
      (not (has_cached (use_of w at)) || sound_cached (last_of w) (body_of w at) ≡ true))
  unfolding sound_slot
  parts =
      let a = and-true (key_sound w at) _ f.sound in
      let b = and-true (right_use kind (use_of w at)) _ a.1 in
      let c = and-true (not (has_series (use_of w at)) || sound_series kind s (ring_of w) (last_of w) (body_of w at)) _ b.1 in
      (b.0, (c.0, c.1))

  pub use-right : right_use kind (use_of w at) ≡ true
  use-right = parts.0

  pub series-is : x.series ≡ has_series (use_of w at)
  unfolding opened
  series-is = ap (λ (y : Slot). y.series) f.is

  pub cached-is : x.cached ≡ has_cached (use_of w at)
  unfolding opened
  cached-is = ap (λ (y : Slot). y.cached) f.is

  pub used-as : x.used ≡ use_of w at
  unfolding opened
  used-as = ap (λ (y : Slot). y.used) f.is

  pub at-as : x.at ≡ at
  unfolding opened
  at-as = ap (λ (y : Slot). y.at) f.is

  pub cached-known : x.cached ≡ true → Cached (last_of w) x
  unfolding sound_cached opened
  cached-known e =
      let c = other-true (has_cached (use_of w at)) _ (sym cached-is ∙ e) parts.1.1 in
      let d = and-true (factor_word_ok (factor_of (body_of w at))) _ c in
      record {
        factor-ok = ap (λ (y : Slot). factor_word_ok y.factor) f.is ∙ d.0;
        earlier = omega (arith, leb-true (factor_time_of (body_of w at)) (last_of w) d.1, ap (λ (y : Slot). y.factor_time) f.is);
      }

  pub series-known : last_of w ≤ t → x.series ≡ true → Known kind s w t at true x
  unfolding sound_series opened
  series-known later e =
      let h : has_series (use_of w at) ≡ true = sym series-is ∙ e in
      let q = other-true (has_series (use_of w at)) _ h parts.1.0 in
      let a = and-true (sound_buckets (ring_of w) (body_of w at) (last_of w)) _ q in
      let c = and-true (declined_right kind (declined_of (body_of w at))) _ a.1 in
      let m : x.pass ≡ pass_of (ring_of w) (body_of w at) (last_of w) t (window_ticks s) =
      ap (λ (y : Slot). y.pass) f.is ∙ ap (λ (z : Bool). pick_pass z (pass_of (ring_of w) (body_of w at) (last_of w) t (window_ticks s))) h in
      record {
        inside = f.inside;
        measured = pass-measures (ring_of w) (body_of w at) (last_of w) t (window_ticks s) x.pass m
            (pass-judges (ring_of w) (body_of w at) (last_of w) t (window_ticks s) x.pass m ∙ a.0);
        now = sound-later t later (sound-true (ring_of w) (body_of w at) (last_of w) a.0);
        at-is = at-as;
        used-is = used-as;
        limit_is = ap (λ (y : Slot). y.limit) f.is;
        total-is = ap (λ (y : Slot). y.total) f.is;
        declined-is = ap (λ (y : Slot). y.declined) f.is;
        factor-is = ap (λ (y : Slot). y.factor) f.is;
        time-is = ap (λ (y : Slot). y.factor_time) f.is;
        right = ap (λ (y : Slot). declined_right kind y.declined) f.is ∙ c.0;
        limit-ok = ap (λ (y : Slot). limit_ok (window_in s) (divisor kind (factor_in s)) y.limit) f.is ∙ c.1;
      }

-- ---- the planned edits

module _ (w : List ℕ) (at : ℕ) (o : Room w) (h : at < slots_of w) where
  pub room-long : length (body_of w at) ≡ size_of (ring_of w)
  room-long = body-length w at o h

  -- a series that begins: nothing is asked of the body
  pub opening-edits : (b t limit factor time used : ℕ) (then : Then) → ActsOn (ring_of w) b t then [] → EditsAt w at b t (opening limit then factor time used)
  unfolding started_view
  opening-edits b t limit factor time used then a = record {
    room = o;
    inside = h;
    edits = record { long = room-long; one = o.some; small = o.small; stays = λ e. absurd (false≢true (sym e)); acts = a };
  }

module _ (kind : RoomKind) (s : Settings) (w : List ℕ) (t at : ℕ) (out : Bool) (x : Slot) (o : Room w) (k : Known kind s w t at out x) where
  -- the buckets, and those that are live
  pub view : List Bucket
  view = buckets (ring_of w) (body_of w at)

  pub live : List Bucket
  live = drop x.pass.expired view

  -- an edit that keeps all, or evicts, may have another limit, factor and use
  pub keeping-edits : (b : ℕ) (e : Edit) → e.begins ≡ false → e.gone ≡ 0 → e.total ≡ x.total → e.declined ≡ x.declined →
      ActsOn (ring_of w) b t e.then (buckets (ring_of w) (body_of w at)) → EditsAt w at b t e
  unfolding started_view
  keeping-edits b e p q u v a = record {
    room = o;
    inside = k.inside;
    edits = record {
      long = room-long w at o k.inside;
      one = o.some;
      small = o.small;
      stays = λ z. record {
        sound = k.now;
        some = omega arith;
        total = u ∙ k.total-is ∙ k.now.total ∙
            ap (λ (n : ℕ). counts (drop n (buckets (ring_of w) (body_of w at)))) (sym q);
        declined =
            v ∙ k.declined-is ∙ k.now.declined ∙ ap (λ (n : ℕ). declineds (drop n (buckets (ring_of w) (body_of w at)))) (sym q);
      };
      acts = rw (p, q) a;
    };
  }

  pub evicting-edits : (b : ℕ) (e : Edit) → e.begins ≡ false → e.gone ≡ x.pass.expired → e.total ≡ x.pass.live_total →
      e.declined ≡ x.pass.live_declined →
      ActsOn (ring_of w) b t e.then (drop x.pass.expired (buckets (ring_of w) (body_of w at))) → EditsAt w at b t e
  unfolding started_view
  evicting-edits b e p q u v a = record {
    room = o;
    inside = k.inside;
    edits = record {
      long = room-long w at o k.inside;
      one = o.some;
      small = o.small;
      stays = λ z. record {
        sound = k.now;
        some = omega (arith, k.measured.some);
        total = u ∙ k.measured.total ∙
            ap (λ (n : ℕ). counts (drop n (buckets (ring_of w) (body_of w at)))) (sym q);
        declined =
            v ∙ k.measured.declined ∙ ap (λ (n : ℕ). declineds (drop n (buckets (ring_of w) (body_of w at)))) (sym q);
      };
      acts = rw (p, q) a;
    };
  }
