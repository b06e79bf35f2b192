-- Delete, for every input: what it admitted is given by the rule, the key's slot is freed. It has no refusal of its own.
-- Assumes nothing.
use Rattle.std.specs.Prelude.{Ok, List, [], ℕ, Result, Option}
use Rattle.parties.specs.Parties.{Sent}
use Rattle.settings.specs.Clock.{join_ticks}
use Rattle.settings.specs.declared.Settings.{Settings}
use Rattle.rules.specs.declared.RoomKind.{RoomKind}
use Rattle.rules.specs.Sets.{deleted}
use Rattle.change.specs.Words.{applied}
use Rattle.judge.specs.Held.{held_in}
use Rattle.judge.specs.Judge.{slot_in}
use Rattle.judge.specs.Verdict.{Verdict, verdict, call}
use Rattle.shared_opened.specs.Opened.{deleting}
use Rattle.common.specs.Refusals.{refuse}
use Rattle.common.specs.declared.refusal.Refusal.{Refusal}

unfoldable pub delete : RoomKind → Settings → List ℕ → ℕ → Sent → Verdict (Result (Option ℕ) Refusal)
delete kind s w t key =
    let x = slot_in s w t key in
    call refuse kind s w t key [] (verdict (Ok (deleted s t (held_in w key))) (applied w x.at key (join_ticks s) t (deleting x)))
