-- A call that leaves a key alone keeps what holds of the key and its log (`Kept`), whatever call it is: one of another key, a cleanup with a stale time
-- of at least the window, or a clear of the other party.
-- Assumes nothing.
use Rattle.std.specs.Prelude.{◌≢◌, ◌≤◌}
use Rattle.settings.specs.Settings.{window_in}
use Rattle.settings.specs.Clock.{window_in_milliseconds}
use Rattle.settings.specs.declared.Settings.{Settings}
use Rattle.frame.specs.Keys.{Bytes}
use Rattle.parties.specs.Parties.{Sent, key_for}
use Rattle.steps.specs.Ops.{Touch, slot_of, stale_by, whole}
use Rattle.demand3.specs.History.{Other}

-- another key's slot; what is stale by at least the window; the other party's slots
abbrev pub Beside : Settings → Sent → Touch → Type 0
Beside s key (slot_of j) = Bytes j.bytes × Other j key
Beside s key (stale_by stale) = window_in_milliseconds (window_in s) ≤ stale
Beside s key (whole m) = (key_for key).holder ≢ m
