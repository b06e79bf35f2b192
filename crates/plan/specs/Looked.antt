-- What a first look leaves of a key's slot is what the rules say: with the expired buckets out where the oldest is overdue, else with all of them.
-- Assumes nothing.
use Rattle.std.specs.Prelude.{◌≡◌, Bool, ◌&&◌, ◌||◌, cond, not, ℕ, ◌-◌, ◌<◌, eqb, get_or}
use Rattle.std.proofs.Math.Path.{refl, ap, subst}
use Rattle.std.proofs.Common.{sym, ◌∙◌, lt-ltb, eqb-true}
use Rattle.std.proofs.Math.Bool.{true, false}
use mathlib.Core.List.{List, [], ◌∷◌}
use native.Mathlib.Omega.{arith}
use Rattle.std.proofs.Math.Dec.{ltb}
use Rattle.std.proofs.Math.ListN.{length}
use Rattle.std.proofs.lemmas.Bool.{eqb-false}
use Rattle.settings.specs.Clock.{window_ticks, look_ticks}
use Rattle.settings.specs.declared.Settings.{Settings}
use Rattle.ring.specs.declared.Bucket.{Bucket}
use Rattle.ring.specs.Ring.{no_bucket, buckets}
use Rattle.rules.specs.Buckets.{older, ahead, gone}
use Rattle.rules.specs.Both.{overdue}
use Rattle.rules.proofs.Ages.{overdue-ticks, none-overdue}
use Rattle.rules.specs.declared.RoomKind.{RoomKind}
use Rattle.room.specs.Room.{ring_of, last_of, body_of}
use Rattle.opened.specs.declared.Slot.{Slot}
use Rattle.sweep.specs.declared.tally.Mark.{Mark}
use Rattle.sweep.specs.declared.tally.Pass.{Pass}
use Rattle.sweep.specs.Sweep.{mark}
use Rattle.sweep.specs.Measured.{Measured}
use Rattle.opened.specs.Slot.{passing, all_stay, first_look}
use Rattle.plan.specs.Known.{Known}

-- of a slot whose pass is told: the oldest is overdue, or nothing is expired, or all stay
module _ (s : Settings) (t : ℕ) (xs : List Bucket) (x : Slot) (e : x.pass.expired ≡ gone (window_ticks s) t xs)
    (f : x.pass.eldest ≡ mark (get_or xs 0 no_bucket)) (P : Bool → Slot → Type 0) where
  -- whether the oldest of all is over the look
  abbrev over : Bool
  over = ltb (look_ticks s) (t - x.pass.eldest.time)

  eldest-look : overdue s t xs ≡ ltb 0 (length xs) && over
  unfolding older
  eldest-look = overdue-ticks s t xs ∙ ap (λ (y : Mark). ltb 0 (length xs) && ltb (look_ticks s) (t - y.time)) (sym f)

  some-look : (x.pass.expired ≡ 0 → ⊥) → overdue s t xs ≡ over
  unfolding ahead
  some-look n = eldest-look ∙ ap (λ (z : Bool). z && over) (lt-ltb 0 (length xs) (some xs e))
    where
      some : (ys : List Bucket) → x.pass.expired ≡ gone (window_ticks s) t ys → 0 < length ys
      some [] q = absurd (n q)
      some (y ∷ ys) q = omega arith

  pub by-overdue : (overdue s t xs ≡ true → P true x) → (gone (window_ticks s) t xs ≡ 0 → P false x) →
      ((gone (window_ticks s) t xs ≡ 0 → ⊥) → overdue s t xs ≡ false → P false (all_stay x)) →
      P (overdue s t xs) (first_look (look_ticks s) t x)
  unfolding first_look
  by-overdue p q r = go (eqb x.pass.expired 0) refl
    where
      late : (x.pass.expired ≡ 0 → ⊥) → (z : Bool) → over ≡ z → P (overdue s t xs) (cond (not z) (all_stay x) x)
      late n true h = let o = some-look n ∙ h in subst (λ (b : Bool). P b x) (sym o) (p o)
      late n false h = let o = some-look n ∙ h in subst (λ (b : Bool). P b (all_stay x)) (sym o) (r (λ k. n (e ∙ k)) o)

      go : (z : Bool) → eqb x.pass.expired 0 ≡ z → P (overdue s t xs) (cond (not (z || over)) (all_stay x) x)
      go true h =
          let k : gone (window_ticks s) t xs ≡ 0 = sym e ∙ eqb-true x.pass.expired 0 h in
          subst (λ (b : Bool). P b x) (sym (none-overdue s t xs k)) (q k)
      go false h = late (eqb-false x.pass.expired 0 h) over refl

-- ---- so of a series

module _ (kind : RoomKind) (s : Settings) (w : List ℕ) (t at : ℕ) (x : Slot) (k : Known kind s w t at true x) where
  -- the slot's other words stay
  known-but : (p : Pass) → Measured (ring_of w) (body_of w at) (last_of w) 0 p → Known kind s w t at false (passing p x)
  known-but p m = record {
    inside = k.inside;
    measured = m;
    now = k.now;
    at-is = k.at-is;
    used-is = k.used-is;
    limit_is = k.limit_is;
    total-is = k.total-is;
    declined-is = k.declined-is;
    factor-is = k.factor-is;
    time-is = k.time-is;
    right = k.right;
    limit-ok = k.limit-ok;
  }

  -- nothing is expired, so as many are out as are not
  known-none : gone (window_ticks s) t (buckets (ring_of w) (body_of w at)) ≡ 0 → Known kind s w t at false x
  known-none z =
      known-but x.pass
      (subst (λ (n : ℕ). Measured (ring_of w) (body_of w at) (last_of w) n x.pass) z k.measured)

  known-all : Known kind s w t at false (all_stay x)
  known-all =
      let m = k.measured in
      known-but (all_stay x).pass (record {
        sound = m.sound;
        buckets-are = m.buckets-are;
        expired-are = refl;
        some = omega arith;
        total = k.total-is ∙ m.sound.total;
        declined = k.declined-is ∙ m.sound.declined;
        oldest-is = m.eldest-is;
        newest-is = m.newest-is;
        eldest-is = m.eldest-is;
      })

  pub known-looked : Known kind s w t at (overdue s t (buckets (ring_of w) (body_of w at))) (first_look (look_ticks s) t x)
  known-looked =
      by-overdue s t (buckets (ring_of w) (body_of w at)) x k.measured.expired-are k.measured.eldest-is
      (λ (out : Bool) (y : Slot). Known kind s w t at out y) (λ o. k) known-none (λ n o. known-all)
