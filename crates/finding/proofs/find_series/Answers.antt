-- What `judge` says at the last reading, of a party with what is held promised, is what is to be found.
-- Assumes nothing.
use Rattle.std.proofs.Common.{rules, ◌≡◌, ◌∙◌, Err}
use Rattle.finding.specs.Finding.{asked}
use Rattle.finding.proofs.FindingLaws.{found-refused, found-is}
use Rattle.finding.proofs.find_series.Goals as goal

pub returns-in_err-judged : goal.returns-in_err-judged
returns-in_err-judged c =
    let a = c.args in
    let e : c.from_residual.result ≡ Err c.in_err-judged.field-0.0 = search rules in
    e ∙ found-refused a.kind a.settings a.room.now (asked a.party a.key.now) _ c.last_reading.ensures _ c.as_held.ensures _ c.in_err-judged.ensures

pub returns : goal.returns
returns c =
    let a = c.args in
    found-is a.kind a.settings a.room.now (asked a.party a.key.now) _ c.last_reading.ensures _ c.as_held.ensures _ c.in_ok-judged.ensures
