-- The decisions of the calls that both limiters have, as the code makes them on the key's slot x that is opened: delete and setting a
-- rate. They are the rules' (`calls/specs/Seen.antt`), and no contract of a call names them but for the edits.
-- Assumes nothing.
use Rattle.std.specs.Prelude.{◌≡◌, Bool, true, cond, ℕ, ◌-◌, eqb, Option, Some, None}
use Rattle.std.proofs.Common.{sym, ap}
use Rattle.common.specs.Limits.{rate_back}
use Rattle.settings.specs.Settings.{window_in, factor_in}
use Rattle.settings.specs.declared.Settings.{Settings}
use Rattle.rules.specs.declared.RoomKind.{RoomKind}
use Rattle.rules.specs.Both.{divisor}
use Rattle.edit.specs.declared.Then.TheVariants as then
use Rattle.change.specs.declared.Change.{Change}
use Rattle.change.specs.declared.Change.TheVariants.{Keep, Free, Update}
use Rattle.opened.specs.declared.Slot.{Slot}
use Rattle.opened.specs.Slot.{has_slot}
use Rattle.plan.specs.Plan.{keeping, relimited}
use Rattle.common.specs.declared.units.RateLimit.{RateLimit}

-- ---- delete

unfoldable pub deleted_at : Slot → Option ℕ
deleted_at x =
    cond x.series (Some (x.pass.live_total - x.pass.live_declined)) (cond x.cached (Some 0) None)

unfoldable pub deleting : Slot → Change
deleting x = cond (has_slot x) Free Keep

-- ---- setting a rate

unfoldable pub old_rate_at : RoomKind → Settings → Slot → Option RateLimit
old_rate_at kind s x = cond x.series (Some (record { 0 = rate_back (window_in s) (divisor kind (factor_in s)) x.limit })) None

-- the cached factor goes: of both, the series stays
abbrev pub forgotten : ℕ → ℕ
forgotten u = cond (eqb u 3) 1 u

-- "a new limit, forgets the cached factor"
unfoldable pub used_with : Slot → ℕ → ℕ
used_with x limit = cond (eqb limit x.limit) x.used (forgotten x.used)

unfoldable pub limiting : Slot → ℕ → Change
limiting x limit = cond x.series (Update (relimited (keeping x then.Nothing) limit (used_with x limit))) Keep

pub limiting-known : (x : Slot) (limit : ℕ) → x.series ≡ true → Update (relimited (keeping x then.Nothing) limit (used_with x limit)) ≡ limiting x limit
unfolding limiting
limiting-known x limit e = sym (ap (λ (b : Bool). cond b (Update (relimited (keeping x then.Nothing) limit (used_with x limit))) Keep) e)
