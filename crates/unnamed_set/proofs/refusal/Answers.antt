-- Refused by one of 1 to 7, 15 and 16, by 8 or 10, or by 14.
use Rattle.unnamed_set.specs.Laws.{refusal-early, refusal-own, refusal-none}
use Rattle.common.proofs.Ruled.{ruled-ok}
use Rattle.parties.specs.Parties.{sent}
use Rattle.unnamed_set.proofs.refusal.Goals as goal

pub returns-in-Err : goal.returns-in-Err
returns-in-Err c =
    let a = c.args in
    refusal-early a.kind a.settings a.room.now a.reading (sent a.caller a.key.now) a.rate a.count _ c.in-Err.ensures

pub returns-in-Err-check_set : goal.returns-in-Err-check_set
returns-in-Err-check_set c =
    let a = c.args in
    refusal-own a.kind a.settings a.room.now a.reading (sent a.caller a.key.now) a.rate a.count _ c.in_default.ensures _ c.in-Err-check_set.ensures

pub returns : goal.returns
returns c =
    let a = c.args in
    refusal-none a.kind a.settings a.room.now a.reading (sent a.caller a.key.now) a.rate a.count _ c.in_default.ensures
    (ruled-ok _ c.in_default-check_set.ensures)
