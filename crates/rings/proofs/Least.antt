-- The number that suffices is the least that does, and the greatest that is necessary.
use Rattle.std.specs.Prelude.{◌≡◌, refl, true, ℕ, ◌+◌, ◌-◌, ◌/◌, ◌≤◌}
use Rattle.std.proofs.Common.{arith}
use mathlib.Core.List.{List, [], ◌∷◌}
use Rattle.std.proofs.Math.Decide.{dec_le}
use Rattle.common.specs.Refusals.{first}
use Rattle.settings.specs.Clock.{window_in_milliseconds}
use Rattle.settings.specs.Settings.{window_in, bucket_in, defaults, faults, defaults-unrefused}
use Rattle.settings.specs.declared.Settings.{Settings}
use Rattle.ring_length.specs.RingLength.{sufficient_ring}
use Rattle.rules.specs.declared.RoomKind.{RoomKind}
use Rattle.rules.specs.declared.RoomKind.TheVariants as kind
use Rattle.room.specs.Room.{length_of, fits, empty}
use Rattle.room.specs.Laws.{lengths-fit}
use Rattle.steps.specs.Ops.{Call, verdict_of, AllKeyed}
use Rattle.rings.specs.Rings.{rows_by, NeverFull, newest_number, Limiters, Meets, Sufficient, Necessary}
use Rattle.rings.proofs.Rings.{necessary, sufficient}

-- ---- so it is the least: what else suffices, where that is 1 to 512, is no shorter; what else is necessary is no longer, where this is within 512

-- a history that meets it, and none does
meets-never : (l : Limiters) (k : RoomKind) (s : Settings) (slots ring : ℕ) → Meets l k s slots ring →
    ((calls : List (Call k)) → AllKeyed calls → NeverFull (rows_by (l k s) (empty slots ring) calls)) → ⊥
meets-never l k s slots ring m f = go (rows_by (l k s) (empty slots ring) m.calls) m.told (f m.calls m.keyed)
  where
    go : (more : List (List ℕ)) → newest_number more ≡ 12 → NeverFull more → ⊥
    go [] e n = omega (arith, e)
    go (row ∷ more) e n = n.0 e

-- a room of one slot
pub one-fits : (ring : ℕ) → 1 ≤ ring → ring ≤ 512 → fits 1 ring (length_of 1 ring) ≡ true
one-fits ring a b = lengths-fit 1 ring (length_of 1 ring) (record { one = omega arith; few = omega arith; some = a; small = b; long = refl })

module _ (long : Settings → ℕ) (s : Settings) (fine : first (faults s) ≡ 0) where
  pub least : Sufficient long → 1 ≤ long s → long s ≤ 512 → sufficient_ring s ≤ long s
  least f a b = go (dec_le (sufficient_ring s) (long s))
    where
      e : fits 1 (long s) (length_of 1 (long s)) ≡ true
      e = one-fits (long s) a b

      go : Dec (sufficient_ring s ≤ long s) → sufficient_ring s ≤ long s
      go (yes h) = h
      go (no h) =
          absurd (meets-never verdict_of kind.Absolute s 1 (long s) (necessary kind.Absolute s 1 (long s) (length_of 1 (long s)) e fine (omega arith))
          (f kind.Absolute s 1 (long s) (length_of 1 (long s)) e (omega arith)))

  pub greatest : Necessary long → sufficient_ring s ≤ 512 → long s ≤ sufficient_ring s
  greatest f b = go (dec_le (long s) (sufficient_ring s))
    where
      e : fits 1 (sufficient_ring s) (length_of 1 (sufficient_ring s)) ≡ true
      e = one-fits (sufficient_ring s) (omega arith) b

      go : Dec (long s ≤ sufficient_ring s) → long s ≤ sufficient_ring s
      go (yes h) = h
      go (no h) =
          absurd (meets-never verdict_of kind.Absolute s 1 (sufficient_ring s)
          (f kind.Absolute s 1 (sufficient_ring s) (length_of 1 (sufficient_ring s)) e fine (omega arith))
          (sufficient kind.Absolute s 1 (sufficient_ring s) (length_of 1 (sufficient_ring s)) e (omega arith)))

-- one less does not suffice, and with b in the place of b + 1 it is more than is necessary: 297 and 301 of the defaults
pub one_less : Sufficient (λ s. sufficient_ring s - 1) → ⊥
one_less f = omega (arith, least (λ s. sufficient_ring s - 1) defaults defaults-unrefused f (omega arith) (omega arith))

pub by-the-bucket : Necessary (λ s. window_in_milliseconds (window_in s) / bucket_in s + 1) → ⊥
by-the-bucket f = omega (arith, greatest (λ s. window_in_milliseconds (window_in s) / bucket_in s + 1) defaults defaults-unrefused f (omega arith))
