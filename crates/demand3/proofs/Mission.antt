-- The mission's own wording of the calls that leave a key to the limiter (`LeavesAlone`) asks for no less than `Spares`: so what holds of every history that
-- spares a key holds of the mission's.
-- Assumes nothing.
use Rattle.std.proofs.Common.{ap, inr}
use Rattle.std.specs.Prelude.{List, [], ◌∷◌, ℕ}
use Rattle.parties.specs.Parties.{Sent}
use Rattle.settings.specs.declared.Settings.{Settings}
use Rattle.common.specs.declared.units.RateLimit.{RateLimit}
use Rattle.rules.specs.declared.RoomKind.TheVariants as kind
use Rattle.steps.specs.Ops.{draws, snapshot, get_factor, set_rate, set, delete, cleanup, cleanup_both, clear, Call}
use Rattle.demand3.specs.History.{limit_word, Gives, LeavesAlone, Harmless, Spares, AllLeaveAlone, AllSpare}

alone-harmless : Gives LeavesAlone Harmless
alone-harmless s key rate w t (draws k r count draw) p = (p.0, λ q e. ap (limit_word s) (p.1 q))
alone-harmless s key rate w t (snapshot k) p = p
alone-harmless s key rate w t (get_factor k) p = p
alone-harmless s key rate w t (set_rate k r) p = (p.0, λ q e. ap (limit_word s) (p.1 q))
alone-harmless s key rate w t (set k r comparator count mode) p = (p.0, λ q. absurd (p.1 q))
alone-harmless s key rate w t (delete k) p = (p.0, λ q. absurd (p.1 q))
alone-harmless s key rate w t (cleanup who stale) p = p
alone-harmless s key rate w t (cleanup_both who absolute whose stale) p = p
alone-harmless s key rate w t (clear who) p = p

pub alone-spares : Gives LeavesAlone Spares
alone-spares s key rate w t op p = inr (alone-harmless s key rate w t op p)

pub all-spare : (s : Settings) (key : Sent) (rate : RateLimit) (w : List ℕ) (calls : List (Call kind.Suppressed)) →
    AllLeaveAlone s key rate w calls → AllSpare s key rate w calls
all-spare s key rate w [] p = tt
all-spare s key rate w (c ∷ cs) p = (alone-spares s key rate _ c.reading c.op p.0, all-spare s key rate w cs p.1)
