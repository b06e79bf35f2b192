-- `quick::both_parts` meets its contract: its two runs are one pass over the buckets.
-- Assumes nothing.
use Rattle.quick.specs.Turns.{one-pass}
use native.Mathlib.Omega.{arith}
use Rattle.quick.proofs.both_parts.Goals as goal

pub returns : goal.returns
returns c =
    let a = c.args in
    let n = c.len-n in
    let m = c.min-m in
    one-pass a.plain a.r a.b.now n.result m.result a.a c.part-y.result c.part.result
    c.requires n.ensures (omega arith) (omega arith) (λ h. omega arith) c.part-y.ensures c.part.ensures
