-- The lower of the two numbers.
use Rattle.std.proofs.Common.{ap₂, ◌∙◌}
use Rattle.provider.specs.Provider.{lower}
use Rattle.cleanup.specs.Cleanup.{refusal}
use Rattle.rules.specs.declared.RoomKind.TheVariants.{Absolute, Suppressed}
use Rattle.provider.specs.Laws.{lower-is}
use Rattle.provider.proofs.judge_both.Goals as goal

pub returns : goal.returns
returns c =
    let a = c.args in
    c.lower.ensures ∙ ap₂ lower c.judge_all-m.ensures c.judge_all-n.ensures ∙
    lower-is (refusal Absolute a.settings a.absolute.now a.reading a.absolutes) (refusal Suppressed a.settings a.suppressed.now a.reading a.suppresseds)
