-- What the calls that both limiters have answer and leave where they are not turned away, by the rules on what the key holds. x is its slot, whose words
-- are told. `Stands` says of a slot its buckets, limit, cached factor and use, that it is sound again, and that every other slot is word for word as it
-- was.
-- Assumes nothing.
use Rattle.std.specs.Prelude.{◌≡◌, ℕ, Ok}
use Rattle.std.proofs.Math.Path.{refl}
use mathlib.Core.List.{List}
use Rattle.settings.specs.Clock.{ticks_in}
use Rattle.settings.specs.declared.Settings.{Settings}
use Rattle.rules.specs.declared.RoomKind.{RoomKind}
use Rattle.room.specs.Room.{with_reading, cleared}
use Rattle.parties.specs.declared.Caller.{Caller}
use Rattle.frame.specs.Whole.{clear-read-run}
use Rattle.parties.specs.Parties.{mark_of}
use Rattle.judge.specs.Verdict.{verdict}
use Rattle.clearing.specs.Clear as Clear
use Rattle.cleanup.specs.Cleanup as Cleanup
use Rattle.stale.specs.Uses as Uses
use Rattle.cleanup.specs.Laws as CleanupLaws
use Rattle.leaves.proofs.Cleanup.{clean_run, clean-sound}
use Rattle.leaves.specs.Follows.{follows}
use Rattle.leaves.specs.Shared.{ClearRule, CleanRule}
use Rattle.common.specs.Refusals.{refuse}

-- ---- and that they do it

pub clear-follows : (s : Settings) (w : List ℕ) (t : ℕ) (who : Caller) → Clear.clear_refusal s w t who ≡ 0 →
    ClearRule w (mark_of who.party) t (Clear.clear s w t who)
clear-follows s w t who e =
    (follows refuse (Clear.clear_refusal s w t who) w (verdict (Ok tt) (with_reading (cleared w (mark_of who.party)) t))
    (ClearRule w (mark_of who.party) t)
    (λ z. record { answer = refl; leaves = clear-read-run w (mark_of who.party) (Clear.clear_room s w t who z) t })).done e

-- a room that is not turned away, cleaned
pub clean-follows : (kind : RoomKind) (s : Settings) (w : List ℕ) (t : ℕ) (who : Caller) (stale : ℕ) → Cleanup.refusal kind s w t who ≡ 0 →
    CleanRule kind s w (Uses.cleaned w t (ticks_in s) stale) t stale
clean-follows kind s w t who stale e =
    let p = CleanupLaws.passed kind s w t who e in
    let c = clean_run w t (ticks_in s) stale p.room in
    record { leaves = c; sound = clean-sound kind s w (Uses.cleaned w t (ticks_in s) stale) t (ticks_in s) stale who c p }
