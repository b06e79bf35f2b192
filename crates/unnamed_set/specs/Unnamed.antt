-- A set whose comparator or mode is not named, as a face for C can ask for one: it is no call. 14 is the last in the order of judging, so it is given after all
-- that can be judged without them.
-- Assumes nothing.
use Rattle.std.specs.Prelude.{Bool, true, List, [], ◌∷◌, ◌++◌, ℕ, ltb}
use Rattle.parties.specs.Parties.{Sent}
use Rattle.common.specs.Refusals.{first}
use Rattle.common.specs.declared.units.RateLimit.{RateLimit}
use Rattle.settings.specs.declared.Settings.{Settings}
use Rattle.layout.specs.Layout.{most_total}
use Rattle.rules.specs.declared.RoomKind.{RoomKind}
use Rattle.rules.specs.Both.{unrated}
use Rattle.judge.specs.Judge.{refusals}

-- what is no call is 14, as for a bad line of `desk`
abbrev pub bad_call : ℕ
bad_call = 14

-- a set's own refusals but for 11, which needs comparator and mode. 8; 10: "A set's count is judged before its comparator"
abbrev pub blind_turns : RateLimit → ℕ → List (ℕ × Bool)
blind_turns rate count = (8, unrated rate) ∷ (10, ltb most_total count) ∷ []

-- 1 to 7, 15, 16, 8, 10, and else 14
abbrev pub unnamed : RoomKind → Settings → List ℕ → ℕ → Sent → RateLimit → ℕ → List (ℕ × Bool)
unnamed kind s w t key rate count = refusals kind s w t key (blind_turns rate count ++ ((bad_call, true) ∷ []))

unfoldable pub refusal : RoomKind → Settings → List ℕ → ℕ → Sent → RateLimit → ℕ → ℕ
refusal kind s w t key rate count = first (unnamed kind s w t key rate count)
