-- Increments of 0 of one key at 0, b + 1, 2 (b + 1) milliseconds and so on, the readings within one window: each adds a bucket until the ring is full, and the
-- next one is told 12. In either limiter, in either clock mode.
-- n is how many there were, h what the key holds then, r the ring.
-- Assumes nothing.
use Rattle.std.specs.Prelude.{◌≡◌, ℕ, zero, suc, ◌+◌, ◌*◌, ◌≤◌, length}
use Rattle.std.proofs.Math.Bool.{true}
use mathlib.Core.List.{List, [], ◌∷◌}
use Rattle.common.specs.Ranges as Ranges
use Rattle.common.specs.Ranges.{rate_ok, and_no}
use Rattle.common.specs.declared.units.RateLimit.{RateLimit}
use Rattle.settings.specs.declared.Settings.{Settings}
use Rattle.layout.specs.Layout.{longest_key}
use Rattle.rules.specs.declared.RoomKind.{RoomKind}
use Rattle.rules.specs.declared.RoomKind.TheVariants as kind
use Rattle.frame.specs.Keys.{Bytes}
use Rattle.parties.specs.Parties.{Sent, is_party, promised}
use Rattle.steps.specs.Ops.{Op, inc, draws, Call}
use Rattle.rings.specs.Window.{apart_ticks}

-- 1 per second
abbrev pub one : RateLimit
one = record { 0 = Ranges.one }

-- an increment of 0, with draw 0 where there is one
abbrev pub zero_op : (k : RoomKind) → Sent → Op k
zero_op kind.Absolute key = inc key one 0
zero_op kind.Suppressed key = draws key one 0 0

-- n of them, b + 1 milliseconds apart, newest first
abbrev pub zeros : (k : RoomKind) → Settings → Sent → ℕ → List (Call k)
zeros k s key zero = []
zeros k s key (suc n) = record { reading = n * apart_ticks s; op = zero_op k key } ∷ zeros k s key n

-- a key that gets a slot in a room of so many: the promises fit, and its party is promised one
pub record Sender (slots : ℕ) (key : Sent) : Type 0 where
  pub bytes : Bytes key.bytes
  pub short : length key.bytes ≤ longest_key
  pub party : is_party key.caller.party ≡ true
  pub within : key.caller.first + key.caller.second ≤ slots
  pub some : 1 ≤ promised key.caller
