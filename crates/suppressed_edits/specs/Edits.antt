-- What the suppressed limiter's own calls change of a key's slot x, once the factor is known. t is the reading, c the count, d how much of it is declined.
-- Assumes nothing.
use Rattle.std.specs.Prelude.{◌≡◌, Bool, true, false, ℕ, Option, Some, None}
use Rattle.std.proofs.Math.Path.{sym}
use Rattle.std.proofs.Common.{ap}
use Rattle.std.proofs.Math.Bool.{cond}
use Rattle.std.specs.Float.{binary64}
use Rattle.std.specs.Float.Ieee.{to_bits}
use Rattle.change.specs.declared.Change.{Change}
use Rattle.change.specs.declared.Change.TheVariants.{Keep, Update, Take}
use Rattle.edit.specs.declared.Edit.{Edit}
use Rattle.edit.specs.declared.Then.TheVariants.{Nothing, Increment}
use Rattle.opened.specs.declared.Slot.{Slot}
use Rattle.opened.specs.Slot.{has_slot}
use Rattle.plan.specs.Plan.{evicting, opening, restored}
use Rattle.factor_opened.specs.Opened.{stays_at}
use Rattle.suppression.specs.declared.CachedFactor.{CachedFactor}

-- ---- the cached factor's words and the use, of a slot with a series: 1, or 3 with a cached factor

abbrev pub use_left : Bool → ℕ
use_left is = cond is 3 1

abbrev pub factor_after : Option CachedFactor → ℕ → ℕ
factor_after None n = n
factor_after (Some k) n = to_bits binary64 k.suppression_factor

abbrev pub time_after : Option CachedFactor → ℕ → ℕ
time_after None n = n
time_after (Some k) n = k.time

abbrev pub use_after : Option CachedFactor → Slot → ℕ
use_after None x = use_left (stays_at x)
use_after (Some k) x = 3

unfoldable pub recached : Slot → Option CachedFactor → Edit → Edit
recached x k e = restored e e.limit (factor_after k e.factor) (time_after k e.factor_time) (use_after k x)

-- ---- the calls

-- `get`: "on an unknown key gives zeros and takes no slot"; a known one is rid of its expired buckets
unfoldable pub get_change : Slot → Option CachedFactor → Change
get_change x k = cond x.series (Update (recached x k (evicting x Nothing))) Keep

-- a lone cached factor 0
abbrev pub lone_edit : ℕ → Edit
lone_edit t = opening 0 Nothing 0 t 2

abbrev pub lone_by : Bool → ℕ → Change
lone_by is t = cond is (Update (lone_edit t)) (Take (lone_edit t))

-- "`get_suppression_factor` does take one and caches 0, but gives a lone cached factor at age below C"
abbrev pub lone_change : Bool → Option CachedFactor → ℕ → Change
lone_change is None t = Keep
lone_change is (Some k) t = lone_by is t

unfoldable pub factor_change : Slot → Option CachedFactor → ℕ → Change
factor_change x k t = cond x.series (get_change x k) (lone_change x.cached k t)

-- "Count, and declined if not admitted, go to totals and bucket": of the live buckets, or of a series that begins
unfoldable pub inc_edit : Slot → ℕ → ℕ → ℕ → Edit
inc_edit x limit c d = cond x.series (evicting x (Increment c d)) (opening limit (Increment c d) x.factor x.factor_time x.used)

unfoldable pub inc_change : Slot → ℕ → ℕ → ℕ → Option CachedFactor → Change
inc_change x limit c d k = cond (has_slot x) (Update (recached x k (inc_edit x limit c d))) (Take (recached x k (inc_edit x limit c d)))

-- ---- what the code has tested

module _ (x : Slot) (k : Option CachedFactor) where
  pub get-series : x.series ≡ true → Update (recached x k (evicting x Nothing)) ≡ get_change x k
  unfolding get_change
  get-series e = sym (ap (λ (z : Bool). cond z (Update (recached x k (evicting x Nothing))) Keep) e)

  pub factor-series : (t : ℕ) → x.series ≡ true → get_change x k ≡ factor_change x k t
  unfolding factor_change
  factor-series t e = sym (ap (λ (z : Bool). cond z (get_change x k) (lone_change x.cached k t)) e)

  pub factor-lone : (t : ℕ) → x.series ≡ false → lone_change x.cached k t ≡ factor_change x k t
  unfolding factor_change
  factor-lone t e = sym (ap (λ (z : Bool). cond z (get_change x k) (lone_change x.cached k t)) e)
