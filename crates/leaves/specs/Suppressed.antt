-- A slot of the suppressed room after an edit whose use, limit and factor are right: it stands as the rules say (`Stands`); and the calls' edits are right.
-- Assumes nothing.
use Rattle.std.specs.Prelude.{◌≡◌, refl, Bool, ◌||◌, cond, List, ℕ, ◌≤◌, eqb, Option, Some, None}
use Rattle.std.proofs.Math.Path.{ap}
use Rattle.std.proofs.Common.{◌∙◌, sym, subst, le-leb}
use Rattle.std.proofs.Math.Bool.{true, false}
use Rattle.std.proofs.lemmas.Bool.{false≢true}
use native.Mathlib.Omega.{arith}
use Rattle.base.specs.Decides.{and-true, true-and}
use Rattle.suppression.specs.Factor.{factor_word_ok}
use Rattle.common_laws.specs.FactorLaws.{nil-ok}
use Rattle.common.specs.Limits.{limit_ok, hard_word}
use Rattle.common_laws.specs.LimitLaws.{hard-ok}
use Rattle.common.specs.Ranges.{rate_ok}
use Rattle.settings.specs.Settings.{window_in, factor_in}
use Rattle.settings.specs.Clock.{window_ticks, look_ticks, join_ticks}
use Rattle.settings.specs.declared.Settings.{Settings}
use Rattle.common.specs.declared.units.RateLimit.{RateLimit}
use Rattle.ring.specs.declared.Bucket.{Bucket}
use Rattle.ring.specs.Ring.{buckets}
use Rattle.keys.specs.declared.Key.{Key}
use Rattle.room.specs.Room.{ring_of, body_of}
use Rattle.keys.specs.Keys.{key_fits}
use Rattle.frame.specs.Frame.{Changed}
use Rattle.parties.specs.Parties.{Sent}
use Rattle.rules.specs.declared.RoomKind.TheVariants as kind
use Rattle.opened.specs.declared.Slot.{Slot}
use Rattle.judge.specs.Held.{held_in}
use Rattle.judge.specs.Judge.{Passed, slot_in, looked_in}
use Rattle.opened.specs.Look.{look_at, look-cached, look-factor, look-time}
use Rattle.opened.specs.Sound.{has_series, has_cached, right_use}
use Rattle.edit.specs.declared.Edit.{Edit}
use Rattle.edit.specs.declared.Then.TheVariants.{Nothing, Increment}
use Rattle.change.specs.Words.{EditsAt}
use Rattle.edit.specs.Bodies.{edited, edited_view}
use Rattle.plan.specs.Known.{cached-known}
use Rattle.plan.specs.Plan.{evicting, opening}
use Rattle.plan.specs.Seen.{Seen, seen}
use Rattle.rules.specs.Both.{overdue_in}
use Rattle.suppressed_verdicts.specs.Opened.{limit_at}
use Rattle.suppressed_edits.specs.Edits.{use_left, factor_after, time_after, use_after, recached, lone_edit}
use Rattle.factor_opened.specs.Opened.{stays_at}
use Rattle.suppressed_verdicts.specs.Seen.{looks}
use Rattle.suppressed_verdicts.specs.Standing.{used, Stood, stood-slot, stood-looked}
use Rattle.leaves.specs.Calls.{Stands, stands-so}
use Rattle.leaves.specs.Unit.{CachingOk}
use Rattle.suppression.specs.declared.CachedFactor.{CachedFactor}

-- a cached factor's words that are sound at reading t
pub record FactorOk (n u t : ℕ) : Type 0 where
  pub word : factor_word_ok n ≡ true
  pub earlier : u ≤ t

-- an edit whose use, limit and factor are right
pub record Right (s : Settings) (t : ℕ) (e : Edit) : Type 0 where
  pub use-right : right_use kind.Suppressed e.used ≡ true
  pub limit-right : has_series e.used ≡ true → limit_ok (window_in s) (factor_in s) e.limit ≡ true
  pub factor-right : has_cached e.used ≡ true → FactorOk e.factor e.factor_time t

-- a slot after a right edit, with key k: ys are the buckets that the rules say
pub stood : (s : Settings) (w v : List ℕ) (at t : ℕ) (k : Key) (e : Edit) (ys : List Bucket) → EditsAt w at (join_ticks s) t e →
    Changed w v at e.used k (edited (ring_of w) (join_ticks s) t (body_of w at) e) t →
    key_fits k ≡ true → Right s t e → edited_view (join_ticks s) t e (buckets (ring_of w) (body_of w at)) ≡ ys →
    Stands kind.Suppressed s w v at t k e.limit e.factor e.factor_time e.used ys
stood s w v at t k e ys h c f r y =
    stands-so kind.Suppressed s w v at (join_ticks s) t k e h c ys y f r.use-right refl r.limit-right
    (λ z. true-and (factor_word_ok e.factor) _ (r.factor-right z).word (le-leb e.factor_time t (r.factor-right z).earlier))

-- ---- the calls' edits are right

left-use : (z : Bool) → right_use kind.Suppressed (use_left z) ≡ true
unfolding right_use
left-use true = refl
left-use false = refl

use-after : (k : Option CachedFactor) (x : Slot) → right_use kind.Suppressed (use_after k x) ≡ true
unfolding right_use
use-after None x = left-use (stays_at x)
use-after (Some k) x = refl

left-cached : (z : Bool) → has_cached (use_left z) ≡ true → z ≡ true
left-cached true e = refl
left-cached false e = absurd (false≢true e)

stays-cached : (x : Slot) → stays_at x ≡ true → x.cached ≡ true
unfolding stays_at
stays-cached x e = (and-true x.cached (eqb x.pass.expired 0) e).0

factor-after : (t : ℕ) (x : Slot) (k : Option CachedFactor) → CachingOk t k → (x.cached ≡ true → FactorOk x.factor x.factor_time t) →
    has_cached (use_after k x) ≡ true →
    FactorOk (factor_after k x.factor) (time_after k x.factor_time) t
factor-after t x None o h y = h (stays-cached x (left-cached (stays_at x) y))
factor-after t x (Some k) o h y = record { word = o.0; earlier = o.1 }

or_right : (a b : Bool) → b ≡ true → a || b ≡ true
or_right true b e = refl
or_right false b e = e

-- ---- the key's slot x, as it is opened or as a first look leaves it; out says whether the expired buckets are out

pub record Opens (s : Settings) (w : List ℕ) (t : ℕ) (key : Sent) (out : Bool) (x : Slot) : Type 0 where
  pub at-is : x.at ≡ (slot_in s w t key).at
  pub stood : Stood s w t out x
  pub seen : Seen (window_ticks s) t out (held_in w key) x
  pub cached-there : x.cached ≡ true → FactorOk x.factor x.factor_time t

module _ (s : Settings) (w : List ℕ) (t : ℕ) (key : Sent) (q : Passed kind.Suppressed s w t key) where
  slot-cached : (slot_in s w t key).cached ≡ true → FactorOk (slot_in s w t key).factor (slot_in s w t key).factor_time t
  slot-cached e =
      let x = slot_in s w t key in
      let c = cached-known kind.Suppressed s w t x.at x (used s w t key q x refl (or_right x.series x.cached e)) e in
      record { word = c.factor-ok; earlier = omega (arith, c.earlier, q.later) }

  pub opens-slot : Opens s w t key true (slot_in s w t key)
  opens-slot =
      record { at-is = refl; stood = stood-slot s w t key q (slot_in s w t key) refl; seen = seen kind.Suppressed s w t key q; cached-there = slot-cached }

  pub opens-looked : Opens s w t key (overdue_in s t (held_in w key)) (looked_in s w t key)
  opens-looked =
      let x = slot_in s w t key in
      record {
        at-is = look_at (look_ticks s) t x;
        stood = stood-looked s w t key q (looked_in s w t key) refl;
        seen = looks s w t key q;
        cached-there = λ e.
            let f = slot-cached (sym (look-cached (look_ticks s) t x) ∙ e) in
            record {
              word = ap factor_word_ok (look-factor (look_ticks s) t x) ∙ f.word;
              earlier = subst (λ (n : ℕ). n ≤ t) (sym (look-time (look_ticks s) t x)) f.earlier;
            };
      }

module _ (s : Settings) (w : List ℕ) (t : ℕ) (key : Sent) (q : Passed kind.Suppressed s w t key) (out : Bool) (x : Slot) (u : Opens s w t key out x) where
  -- an increment's edit: of the buckets that are left, or of a series that begins
  pub inc-right : (rate : RateLimit) (c d : ℕ) (k : Option CachedFactor) → CachingOk t k → rate_ok rate.0 ≡ true → (z : Bool) → x.series ≡ z →
      Right s t (recached x k (cond z (evicting x (Increment c d)) (opening (limit_at s x rate) (Increment c d) x.factor x.factor_time x.used)))
  unfolding recached limit_at
  inc-right rate c d k o r true e =
      record { use-right = use-after k x; limit-right = λ y. (u.stood.known e).limit-ok; factor-right = factor-after t x k o u.cached-there }
  inc-right rate c d k o r false e = record {
    use-right = use-after k x;
    limit-right = λ y. ap (λ (z : Bool). limit_ok (window_in s) (factor_in s) (cond z x.limit (hard_word rate.0 (factor_in s) (window_in s)))) e ∙
        hard-ok rate.0 (factor_in s) (window_in s) r q.settings.factor q.settings.window-low q.settings.window-high;
    factor-right = factor-after t x k o u.cached-there;
  }

  -- a series without its expired buckets
  pub evicted-right : (k : Option CachedFactor) → CachingOk t k → x.series ≡ true → Right s t (recached x k (evicting x Nothing))
  unfolding recached
  evicted-right k o e =
      record { use-right = use-after k x; limit-right = λ y. (u.stood.known e).limit-ok; factor-right = factor-after t x k o u.cached-there }

  pub lone-right : Right s t (lone_edit t)
  unfolding right_use
  lone-right = record { use-right = refl; limit-right = λ y. absurd (false≢true y); factor-right = λ y. record { word = nil-ok; earlier = omega arith } }
