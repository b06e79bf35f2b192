-- Non-interference fails where it should: if the promises given change (`promises-stay`), and for a limiter that gives 11 by free slots alone
-- (`by-free-slots`).
-- Assumes nothing.
use Rattle.std.specs.Prelude.{refl, [], ◌∷◌, zero, suc}
use Rattle.std.proofs.Common.{sym, ap, ◌∙◌, arith}
use Rattle.settings.specs.Settings.{ten_seconds}
use Rattle.rules.specs.declared.RoomKind.TheVariants as kind
use Rattle.frame.specs.Keys.{Bytes}
use Rattle.steps.specs.Ops.{verdict_of}
use Rattle.apart.specs.Apart.{ApartBy, AllGive, itself}
use Rattle.sharp.specs.Histories.{quiet, overrun, twice, twice_among, by_free, numbers}
use Rattle.sharp.proofs.Histories.{computed}
use Rattle.sharp.specs.Apart.{newest, Any}

no_byte : Bytes []
no_byte i = omega arith

a_byte : Bytes (1 ∷ [])
a_byte zero = omega arith
a_byte (suc i) = omega arith

pub promises-stay : ApartBy kind.Suppressed ten_seconds (verdict_of kind.Suppressed ten_seconds) Any 1 2 2 → ⊥
promises-stay f =
    let e = f quiet overrun (no_byte, tt) (no_byte, (a_byte, (no_byte, tt))) 0 (omega arith, tt) (omega arith, (omega arith, (omega arith, tt))) tt tt
    (refl, itself _, tt) in
    omega (arith, ap newest (sym computed.quiet_told ∙ ap numbers e ∙ computed.overrun-told))

pub by-free-slots : ApartBy kind.Suppressed ten_seconds by_free (AllGive 1 1) 1 2 2 → ⊥
by-free-slots f =
    let e = f twice twice_among (a_byte, (no_byte, tt)) (a_byte, (no_byte, (no_byte, tt))) 0 (omega arith, (omega arith, tt))
    (omega arith, (omega arith, (omega arith, tt))) ((refl, refl), ((refl, refl), tt)) ((refl, refl), ((refl, refl), ((refl, refl), tt)))
    (refl, itself _, (refl, itself _, tt)) in
    omega (arith, ap newest (sym computed.twice-by-free ∙ ap numbers e ∙ computed.among-by-free))
