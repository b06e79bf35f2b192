-- A limiter of one key: what a call that is not turned away leaves of what its key holds, told of that alone. h is what the key held, r the ring, t the
-- reading.
-- Assumes nothing.
use Rattle.std.specs.Prelude.{◌≡◌, refl, true}
use Rattle.std.proofs.lemmas.Bool.{false≢true}
use Rattle.rules.specs.declared.RoomKind.{RoomKind}
use Rattle.steps.specs.Ops.{Op}
use Rattle.steps.specs.Ops.{Touch, slot_of, stale_by, whole, touches}
use Rattle.apart.specs.One.{named_by, is_named, key_in, Named}

-- ---- the key that a call names

pub named-touches : {kind : RoomKind} (op : Op kind) → Named op → touches op ≡ slot_of (key_in op)
named-touches op = go (touches op)
  where
    go : (x : Touch) → is_named x ≡ true → x ≡ slot_of (named_by x)
    go (slot_of key) e = refl
    go (stale_by stale) e = absurd (false≢true e)
    go (whole m) e = absurd (false≢true e)
