-- A set as the code works it out, on a key's opened slot x: what changes nothing, the outcome, the edit, the
-- refusals. They are the rules' (`calls/specs/Seen.antt`), and no contract of a call names them but for the edit. `still` says that nothing changes.
-- Assumes nothing.
use Rattle.std.specs.Prelude.{◌≡◌, Bool, true, not, ◌&&◌, ◌||◌, cond, List, [], ◌∷◌, ℕ, ltb, eqb}
use Rattle.std.proofs.Common.{sym, ap}
use Rattle.common.specs.Comparator.{matches}
use Rattle.common.specs.declared.units.RateLimit.{RateLimit}
use Rattle.common.specs.declared.comparator.RateLimitComparator.{RateLimitComparator}
use Rattle.answers.specs.declared.HistoryUpdateMode.{HistoryUpdateMode}
use Rattle.answers.specs.declared.HistoryUpdateMode.TheVariants as mode
use Rattle.answers.specs.declared.ConditionalSetOutcome.{ConditionalSetOutcome}
use Rattle.layout.specs.Layout.{most_total}
use Rattle.rules.specs.Both.{unrated}
use Rattle.rules.specs.Sets.{preserves}
use Rattle.edit.specs.declared.Then.TheVariants as then
use Rattle.edit.specs.declared.Edit.{Edit}
use Rattle.change.specs.declared.Change.{Change}
use Rattle.change.specs.declared.Change.TheVariants.{Keep, Free, Update, Take}
use Rattle.opened.specs.declared.Slot.{Slot}
use Rattle.plan.specs.Plan.{keeping, evicting, opening, relimited}

-- ---- a set

-- 0 where there is no series
abbrev pub live_in : Slot → ℕ
live_in x = x.pass.live_total

abbrev pub met_at : Slot → RateLimitComparator → Bool
met_at x comparator = matches comparator (live_in x)

unfoldable pub already_at : Slot → ℕ → ℕ → HistoryUpdateMode → Bool
already_at x limit count mode =
    preserves mode && (ltb 0 count && (eqb (live_in x) count && (eqb x.pass.expired 0 && eqb x.limit limit)))

abbrev pub vain : Bool → ℕ → Bool
vain series count = not series && eqb count 0

-- "Nothing changes .. if the comparator is not met_at", or one of these
unfoldable pub idle_at : Slot → ℕ → RateLimitComparator → ℕ → HistoryUpdateMode → Bool
idle_at x limit comparator count mode = not (met_at x comparator) || (vain x.series count || already_at x limit count mode)

abbrev pub total_after : Bool → ℕ → ℕ → ℕ
total_after still live count = cond still live count

-- whether the comparator is met, and the live totals before and after
unfoldable pub outcome_at : Slot → Bool → RateLimitComparator → ℕ → ConditionalSetOutcome
outcome_at x still comparator count = record {
  matched = met_at x comparator;
  previous_total = live_in x;
  current_total = total_after still (live_in x) count;
}

-- "Otherwise evict, store the limit, then Replace (one bucket) or Preserve"; a set "forgets the cached factor"
abbrev pub reset : Slot → ℕ → ℕ → HistoryUpdateMode → Edit
reset x limit count mode.Replace = relimited (keeping x (then.Replace count)) limit 1
reset x limit count (mode.Preserve p) = relimited (evicting x (then.Preserve p count)) limit 1

-- a series that begins with one bucket
abbrev pub begins : ℕ → ℕ → ℕ → ℕ → Edit
begins limit count factor time = opening limit (then.Increment count 0) factor time 1

-- a key that has no series: a lone cached factor's slot is used, its factor forgotten; else a slot is taken
abbrev pub newly : Slot → ℕ → ℕ → Change
newly x limit count = cond x.cached (Update (begins limit count x.factor x.factor_time)) (Take (begins limit count 0 0))

unfoldable pub stored : Slot → ℕ → ℕ → HistoryUpdateMode → Change
stored x limit count mode = cond x.series (Update (reset x limit count mode)) (newly x limit count)

pub stored-known : (x : Slot) (limit count : ℕ) (mode : HistoryUpdateMode) → x.series ≡ true → Update (reset x limit count mode) ≡ stored x limit count mode
unfolding stored
stored-known x limit count mode e = sym (ap (λ (b : Bool). cond b (Update (reset x limit count mode)) (newly x limit count)) e)

-- "Count 0: the series goes"
unfoldable pub setting : Slot → Bool → ℕ → ℕ → HistoryUpdateMode → Change
setting x still limit count mode = cond still Keep (cond (eqb count 0) Free (stored x limit count mode))

-- 8, 10, and 11 where none says so
unfoldable pub set_own : RateLimit → ℕ → Bool → List (ℕ × Bool)
set_own rate count none = (8, unrated rate) ∷ (10, ltb most_total count) ∷ (11, none) ∷ []
