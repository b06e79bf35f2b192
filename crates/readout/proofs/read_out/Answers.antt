-- After i turns the row holds the first i buckets, and then what it held (`row_at`); a turn puts bucket i at its place.
use Rattle.std.proofs.Common.{rules, ◌≡◌, ◌∙◌, Err, List, ap, arith}
use Rattle.std.specs.Prelude.{set}
use Rattle.ring.specs.declared.Bucket.{Bucket}
use Rattle.finding.specs.Finding.{asked}
use Rattle.readout.proofs.Laws.{row-refused, slot-readable, row_more, row-shown}
use Rattle.readout.proofs.read_out.Goals as goal

pub returns-in_err-found : goal.returns-in_err-found
returns-in_err-found c =
    let a = c.args in
    let e : c.from_residual.result ≡ Err c.in_err-found.field-0.0 = search rules in
    let o = row-refused a.kind a.settings a.room.now (asked a.party a.key.now) a.row.now _ c.in_err-found.ensures in
    record { answer = e ∙ o.answer; row = o.row }

pub bucket_at-requires : goal.bucket_at-requires
bucket_at-requires c =
    let a = c.args in
    slot-readable a.kind a.settings a.room.now (asked a.party a.key.now) _ c.in_ok-found.ensures c.loop-i.i (omega arith)

pub loop-i-preserved : goal.loop-i-preserved
loop-i-preserved c =
    let a = c.args in
    let i = c.loop-i.i in
    ap (λ (r : List Bucket). set r i c.bucket_at.result) c.loop-i.invariant ∙
    row_more a.kind a.settings a.room.now (asked a.party a.key.now) _ c.in_ok-found.ensures a.row.now i c.bucket_at.result (omega arith) c.bucket_at.ensures

pub returns : goal.returns
returns c =
    let a = c.args in
    let o = row-shown a.kind a.settings a.room.now (asked a.party a.key.now) _ c.in_ok-found.ensures a.row.now c.loop-i.i (omega arith) in
    record { answer = o.answer; row = c.loop-i.invariant ∙ o.row }
