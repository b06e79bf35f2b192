-- The guard of a set: how the live total stands to the comparator's number.
-- Assumes nothing.
use Rattle.std.specs.Prelude.{ℕ, Bool, true, not, ◌==◌, nat_lt}
use Rattle.common.specs.declared.comparator.RateLimitComparator.{RateLimitComparator}
use Rattle.common.specs.declared.comparator.RateLimitComparator.TheVariants.{Eq, Lt, Gt, Ne, Always}

abbrev pub matches : RateLimitComparator → ℕ → Bool
matches (Eq n) total = total == n
matches (Lt n) total = nat_lt total n
matches (Gt n) total = nat_lt n total
matches (Ne n) total = not (total == n)
matches Always total = true
