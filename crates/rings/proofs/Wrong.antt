-- What wrong limiters break of it. One that gives 12 while its ring is full of expired buckets, which document 01 names among the easy slips, does so with a
-- ring that suffices (`hasty-full`). One that gives 12 nowhere, as by overwriting the oldest bucket, is not the limiter of which the ring is necessary
-- (`never-full`). And a set that gave a surplus a bucket of its own would not leave a key's buckets apart (`surplus-anew`).
-- Assumes nothing.
use Rattle.std.specs.Prelude.{◌≡◌, refl, Bool, true, List, [], ◌∷◌, ◌≢◌, ℕ, ◌*◌, ◌≤◌, leb}
use Rattle.std.proofs.Common.{ap, ap₂, ◌∙◌, arith}
use Rattle.std.specs.Float.Ieee as Ieee
use Rattle.answers.specs.Rows.{decision_row, number_of}
use Rattle.common.specs.Ranges as Ranges
use Rattle.common.specs.Refusals.{first}
use Rattle.settings.specs.Clock.{join_ticks}
use Rattle.settings.specs.Settings.{defaults, faults, proper, defaults-unrefused}
use Rattle.settings.specs.declared.Settings.{Settings}
use Rattle.ring_length.specs.RingLength.{sufficient_ring}
use Rattle.ring.specs.declared.Bucket.{Bucket}
use Rattle.ring.specs.Ring.{bucket}
use Rattle.rules.specs.Both.{ring_full}
use Rattle.rules.specs.declared.RoomKind.{RoomKind}
use Rattle.rules.specs.declared.RoomKind.TheVariants.{Absolute}
use Rattle.room.specs.Room.{ring_of, length_of, fits, empty}
use Rattle.judge.specs.Held.{held_in}
use Rattle.steps.specs.Ops.{Op, row_of, verdict_of, Call}
use Rattle.apart.specs.Apart.{words_by}
use Rattle.rings.specs.Window.{apart_ticks}
use Rattle.rings.proofs.Window.{apart-joins}
use Rattle.rings.specs.Row.{row-full}
use Rattle.rings.specs.Zeros.{zero_op, zeros}
use Rattle.rings.proofs.Zeros.{state}
use Rattle.rings.specs.Rings.{Limiters, rows_by, newest_number, SufficientBy, Meets, NecessaryBy}
use Rattle.rings.proofs.Rings.{lone-sends, zeros-keyed}
use Rattle.rings.proofs.Least.{one-fits}
use Rattle.rings.specs.Wrong.{hastily, hasty_inc, hasty, single, key, room, AddsApart}

single-unrefused : first (faults single) ≡ 0
unfolding faults first Ranges.factor_ok Ieee.le Ieee.fits
single-unrefused = refl

one-bucket : fits 1 1 (length_of 1 1) ≡ true
one-bucket = one-fits 1 (omega arith) (omega arith)

-- after n increments of 0, 1,001 ms apart, the next one finds all of them stored
stored : (n : ℕ) → n ≤ 1 → ring_full (ring_of (room n)) (join_ticks single) (n * apart_ticks single) (held_in (room n) key).buckets ≡ leb 1 n
stored n h =
    let x = state single (proper single single-unrefused) 1 key (lone-sends 1 (omega arith)) Absolute 1 (length_of 1 1) one-bucket n h (omega arith) in
    ap₂ (λ (r : ℕ) (xs : List Bucket). ring_full r (join_ticks single) (n * apart_ticks single) xs) x.ring-is x.lined.view ∙
    row-full (apart_ticks single) (join_ticks single) (apart-joins single) 1 n

-- the first is counted, and the second finds its bucket expired
same_first : words_by (hasty Absolute single) (empty 1 1) (zeros Absolute single key 1) ≡ room 1
same_first =
    let v = verdict_of Absolute single (room 0) (0 * apart_ticks single) (zero_op Absolute key) in
    ap (λ (z : Bool). (hastily z (room 0) v).words) (stored 0 (omega arith))

told-second : newest_number (rows_by (hasty Absolute single) (empty 1 1) (zeros Absolute single key 2)) ≡ 12
unfolding decision_row
told-second =
    let t = 1 * apart_ticks single in
    ap (λ (w : List ℕ). number_of (decision_row (hasty_inc single w t (zero_op Absolute key)).answer)) same_first ∙
    ap (λ (z : Bool). number_of (decision_row (hastily z (room 1) (verdict_of Absolute single (room 1) t (zero_op Absolute key))).answer)) (stored 1 (omega arith))

pub hasty-full : SufficientBy hasty sufficient_ring → ⊥
hasty-full f = (f Absolute single 1 1 (length_of 1 1) one-bucket (omega arith) (zeros Absolute single key 2) (zeros-keyed Absolute single 1 2)).0 told-second

pub never-full : (l : Limiters) → ((k : RoomKind) (s : Settings) (w : List ℕ) (t : ℕ) (op : Op k) → number_of (row_of op (l k s w t op).answer) ≢ 12) →
    NecessaryBy l sufficient_ring → ⊥
never-full l n f = go m.calls m.told
  where
    m : Meets l Absolute defaults 1 297
    m = f Absolute defaults 1 297 (length_of 1 297) (one-fits 297 (omega arith) (omega arith)) defaults-unrefused (omega arith)

    go : (calls : List (Call Absolute)) → newest_number (rows_by (l Absolute defaults) (empty 1 297) calls) ≡ 12 → ⊥
    go [] e = omega (arith, e)
    go (c ∷ cs) e = n Absolute defaults _ c.reading c.op e

-- ---- a set that adds a bucket

-- at once after an increment, that is two buckets of one time
pub surplus-anew : AddsApart → ⊥
surplus-anew f = omega (arith, (f single 0 1 (bucket 0 0 0 ∷ []) (omega arith, tt)).1.0)
