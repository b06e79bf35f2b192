-- What stays of a slot, as the code works it out.
-- Assumes nothing.
use Rattle.std.specs.Prelude.{◌≡◌, Bool, true, cond, List, ◌≢◌, ℕ, ◌+◌, ◌-◌, ◌≤◌, ◌<◌, length, get_or}
use Rattle.std.proofs.Math.Path.{sym}
use Rattle.std.proofs.Common.{ap, ◌∙◌, arith}
use Rattle.std.proofs.Math.Bool.{false}
use Rattle.std.proofs.Math.Dec.{leb}
use borrow.Author.Tests.{ne_eqb, lt-ltb, le-ltb, le-leb, leb-true}
use Rattle.base.specs.Decides.{not_so}
use Rattle.settings.specs.Clock.{age_in_milliseconds}
use Rattle.rules.specs.Buckets.{newest}
use Rattle.ring.specs.declared.Bucket.{Bucket}
use Rattle.ring.specs.Ring.{no_bucket, len_of, buckets}
use Rattle.ring.specs.View.{view-length}
use Rattle.opened.specs.Sound.{factor_time_of}
use Rattle.stale.specs.Uses.{series_use, factor_use, use_after}
use Rattle.rules.specs.Stale.{series_stays, factor_stays}

-- ---- what stays

module _ (xs : List Bucket) (t ticks stale : ℕ) where
  pub series-none : length xs ≡ 0 → 0 ≡ series_use xs t ticks stale
  unfolding series_stays
  series-none e = sym (rw e)

  pub series-old : 0 < length xs → stale < age_in_milliseconds ticks t (newest xs).time → 0 ≡ series_use xs t ticks stale
  unfolding series_stays
  series-old h l = sym (rw (lt-ltb 0 (length xs) h, leb-lt (age_in_milliseconds ticks t (newest xs).time) stale l))
    where
      leb-lt : (a b : ℕ) → b < a → leb a b ≡ false
      leb-lt a b l = not_so (leb a b) (λ e. omega (arith, leb-true a b e))

  pub series-young : 0 < length xs → age_in_milliseconds ticks t (newest xs).time ≤ stale → 1 ≡ series_use xs t ticks stale
  unfolding series_stays
  series-young h l = sym (rw (lt-ltb 0 (length xs) h, le-leb (age_in_milliseconds ticks t (newest xs).time) stale l))

module _ (time t ticks stale : ℕ) where
  pub factor-young : age_in_milliseconds ticks t time < stale → 2 ≡ factor_use time t ticks stale
  unfolding factor_stays
  factor-young l = sym (rw (lt-ltb (age_in_milliseconds ticks t time) stale l))

  pub factor-old : stale ≤ age_in_milliseconds ticks t time → 0 ≡ factor_use time t ticks stale
  unfolding factor_stays
  factor-old l = sym (rw (le-ltb (age_in_milliseconds ticks t time) stale l))

-- the newest of n buckets, as it is read
pub newest-age : (r : ℕ) (b : List ℕ) (t ticks n : ℕ) (x : Bucket) → n ≡ len_of b → x ≡ get_or (buckets r b) (n - 1) no_bucket →
    age_in_milliseconds ticks t x.time ≡ age_in_milliseconds ticks t (newest (buckets r b)).time
newest-age r b t ticks n x e f =
    ap (λ (y : Bucket). age_in_milliseconds ticks t y.time) (f ∙ ap (λ (k : ℕ). get_or (buckets r b) (k - 1) no_bucket) (e ∙ sym (view-length r b)))

pub series-few : (xs : List Bucket) (t ticks stale : ℕ) → series_use xs t ticks stale ≤ 1
series-few xs t ticks stale = go (series_stays xs t ticks stale)
  where
    go : (b : Bool) → cond b 1 0 ≤ 1
    go true = omega arith
    go false = omega arith

pub factor-few : (time t ticks stale : ℕ) → factor_use time t ticks stale ≤ 2
factor-few time t ticks stale = go (factor_stays time t ticks stale)
  where
    go : (b : Bool) → cond b 2 0 ≤ 2
    go true = omega arith
    go false = omega arith

-- the use afterwards, by the use before
module _ (r u : ℕ) (b : List ℕ) (t ticks stale : ℕ) where
  pub after-series : (x : ℕ) → u ≡ 1 → x ≡ series_use (buckets r b) t ticks stale → x ≡ use_after r u b t ticks stale
  unfolding use_after
  after-series x e f = rw e (omega arith)

  pub after-factor : (x : ℕ) → u ≡ 2 → x ≡ factor_use (factor_time_of b) t ticks stale → x ≡ use_after r u b t ticks stale
  unfolding use_after
  after-factor x e f = rw e (omega arith)

  pub after_both : (x y : ℕ) → u ≡ 3 → x ≡ series_use (buckets r b) t ticks stale → y ≡ factor_use (factor_time_of b) t ticks stale →
      x + y ≡ use_after r u b t ticks stale
  unfolding use_after
  after_both x y e f g = rw e (omega arith)

  pub after-other : u ≢ 1 → u ≢ 2 → u ≢ 3 → 0 ≡ use_after r u b t ticks stale
  unfolding use_after
  after-other p q s = sym (rw (ne_eqb u 1 p, ne_eqb u 2 q, ne_eqb u 3 s))
