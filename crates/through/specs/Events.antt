-- What happens at a gateway with one table and one room: shots, any calls of the limiter on the room, new seasons. The limiter's own history in it: the
-- calls, and the shots that it is asked about.
-- Assumes nothing.
use Rattle.std.specs.Prelude.{◌&&◌, cond, List, [], ◌∷◌, ℕ}
use Rattle.common.specs.declared.units.RateLimit.{RateLimit}
use Rattle.settings.specs.declared.Settings.{Settings}
use Rattle.parties.specs.Parties.{Sent}
use Rattle.rules.specs.declared.RoomKind.TheVariants.{Suppressed}
use Rattle.gateway.specs.Gateway as Gateway
use Rattle.gateway.specs.Gateway.{admits_shot}
use Rattle.admissions.specs.Log.{Entry, noted}
use Rattle.steps.specs.Ops.{Call, words}
use Rattle.steps.specs.Ops as Ops
use Rattle.demand3.specs.History.{same_key, logged}
use Rattle.demand3.specs.Demand3.{increment}
use Rattle.through.specs.Shot.{asks}

pub data Event : Type 0 where
  -- reading, controller as its party sends it, number, rate and draw
  shot : ℕ → Sent → ℕ → RateLimit → ℕ → Event
  call : Call Suppressed → Event
  season : Event

-- what is lent: the words of the table and of the room
pub record Lent : Type 0 where
  pub table : List ℕ
  pub room : List ℕ

abbrev pub lent : List ℕ → List ℕ → Lent
lent w r = record { table = w; room = r }

-- ---- what events leave, newest first

abbrev pub after : Settings → Lent → Event → Lent
after s x (shot t key number rate draw) =
    let v = Gateway.shot s x.table x.room t key number rate draw in
    lent v.table v.room
after s x (call c) = lent x.table (Ops.after Suppressed s x.room c.reading c.op)
after s x season = lent (Gateway.new_season x.table).words x.room

abbrev pub left : Settings → Lent → List Event → Lent
left s x [] = x
left s x (e ∷ es) = after s (left s x es) e

-- ---- what the limiter is asked

abbrev pub asking : Lent → Event → List (Call Suppressed) → List (Call Suppressed)
asking x (shot t key number rate draw) calls = cond (asks x.table key.bytes number) (increment t key rate 1 draw ∷ calls) calls
asking x (call c) calls = c ∷ calls
asking x season calls = calls

abbrev pub asked : Settings → Lent → List Event → List (Call Suppressed)
asked s x [] = []
asked s x (e ∷ es) = asking (left s x es) e (asked s x es)

-- ---- what a controller was admitted, counted from the answers given

abbrev pub counted : Settings → Sent → Lent → Event → List Entry → List Entry
counted s key x (shot t k number rate draw) log =
    noted (same_key k key && admits_shot (Gateway.shot s x.table x.room t k number rate draw).answer) t 1 log
counted s key x (call c) log = logged s key x.room c.reading c.op log
counted s key x season log = log

abbrev pub admitted_in : Settings → Sent → Lent → List Event → List Entry
admitted_in s key x [] = []
admitted_in s key x (e ∷ es) = counted s key (left s x es) e (admitted_in s key x es)

-- ---- the room is the limiter's, and so is the log

abbrev history : Settings → Lent → List Event → List ℕ
history s x es = words Suppressed s x.room (asked s x es)
