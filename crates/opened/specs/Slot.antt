-- A key's slot opened into a value, which calls decide on: what it holds, its words, and what the pass over its buckets finds at reading t.
-- Assumes nothing.
use Rattle.std.specs.Prelude.{Bool, true, false, ◌||◌, cond, List, ℕ, ltb}
use Rattle.sweep.specs.Sweep.{pass_of, unsound, leaves, all_in}
use Rattle.sweep.specs.declared.tally.Pass.{Pass}
use Rattle.ring.specs.Ring.{total_of, declined_of}
use Rattle.room.specs.Room.{slots_of, ring_of, last_of, use_of, body_of}
use Rattle.opened.specs.declared.Slot.{Slot}
use Rattle.opened.specs.Sound.{limit_of, factor_of, factor_time_of, has_series, has_cached}

-- no slot at all
abbrev pub no_slot : ℕ → Slot
no_slot n = record {
  at = n;
  used = 0;
  series = false;
  cached = false;
  limit = 0;
  total = 0;
  declined = 0;
  factor = 0;
  factor_time = 0;
  pass = unsound;
}

abbrev pub pick_pass : Bool → Pass → Pass
pick_pass true p = p
pick_pass false p = unsound

-- a body b of use u
unfoldable pub opened : ℕ → ℕ → ℕ → ℕ → ℕ → ℕ → List ℕ → Slot
opened W r last t at u b = record {
  at = at;
  used = u;
  series = has_series u;
  cached = has_cached u;
  limit = limit_of b;
  total = total_of b;
  declined = declined_of b;
  factor = factor_of b;
  factor_time = factor_time_of b;
  pass = pick_pass (has_series u) (pass_of r b last t W);
}

abbrev pub pick_slot : Bool → Slot → Slot → Slot
pick_slot true x y = x
pick_slot false x y = y

-- the slot at, where there is one; W is the window in ticks
unfoldable pub slot_of : ℕ → List ℕ → ℕ → ℕ → Slot
slot_of W w t at =
    pick_slot (ltb at (slots_of w)) (opened W (ring_of w) (last_of w) t at (use_of w at) (body_of w at)) (no_slot (slots_of w))

-- "A suppressed slot stays in use while it has a series or a cached factor"
abbrev pub has_slot : Slot → Bool
has_slot x = x.series || x.cached

-- ---- a first look

-- with another pass
abbrev pub passing : Pass → Slot → Slot
passing p x = record {
  at = x.at;
  used = x.used;
  series = x.series;
  cached = x.cached;
  limit = x.limit;
  total = x.total;
  declined = x.declined;
  factor = x.factor;
  factor_time = x.factor_time;
  pass = p;
}

-- nothing is expired
abbrev pub all_stay : Slot → Slot
all_stay x = passing (all_in x.total x.declined x.pass) x

-- a first look leaves what is expired unless the oldest bucket's age is over look
abbrev pub leaves_expired : ℕ → ℕ → Slot → Bool
leaves_expired look t x = leaves look t x.pass

unfoldable pub first_look : ℕ → ℕ → Slot → Slot
first_look look t x = cond (leaves_expired look t x) (all_stay x) x
