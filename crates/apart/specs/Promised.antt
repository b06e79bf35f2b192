-- While the promises given stay the same, no party comes to hold more than its own (`kept-after`): a slot that was free is taken only where 11 is not given.
-- Assumes nothing.
use Rattle.std.specs.Prelude.{◌≡◌, List, ℕ, ◌≤◌}
use Rattle.layout.specs.Layout.{first_mark, second_mark}
use Rattle.rules.specs.declared.RoomKind.{RoomKind}
use Rattle.parties.specs.declared.Caller.{Caller}
use Rattle.parties.specs.Parties.{mark_of, slots_held, promised}
use Rattle.steps.specs.Ops.{Op, inc, is_allowed, get, draws, snapshot, get_factor, set_rate, set, delete, cleanup, cleanup_both, clear}

-- ---- who makes a call, and with which promises

abbrev pub caller_in : {kind : RoomKind} → Op kind → Caller
caller_in (inc key rate c) = key.caller
caller_in (is_allowed key) = key.caller
caller_in (get key) = key.caller
caller_in (draws key rate c draw) = key.caller
caller_in (snapshot key) = key.caller
caller_in (get_factor key) = key.caller
caller_in (set_rate key rate) = key.caller
caller_in (set key rate comparator count mode) = key.caller
caller_in (delete key) = key.caller
caller_in (cleanup who stale) = who
caller_in (cleanup_both who other whose stale) = who
caller_in (clear who) = who

-- a call with the promises a and b in this room
abbrev pub Gives : {kind : RoomKind} → ℕ → ℕ → Op kind → Type 0
Gives a b op = ((caller_in op).first ≡ a) × ((caller_in op).second ≡ b)

-- neither party holds more
pub record Kept (w : List ℕ) (a b : ℕ) : Type 0 where
  pub first : slots_held w first_mark ≤ a
  pub second : slots_held w second_mark ≤ b

-- ---- the law

-- a party's slots in w come to at most n, and so they do in v
abbrev pub Bounded : List ℕ → List ℕ → ℕ → ℕ → Type 0
Bounded w v m n = slots_held w m ≤ n → slots_held v m ≤ n

abbrev pub Promise : ℕ → ℕ → Caller → Type 0
Promise m p c = m ≡ mark_of c.party → promised c ≡ p
