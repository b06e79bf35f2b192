use Rattle.preserve.specs.Preserves.{Walking}
use Rattle.preserve.proofs.walk.Given as goal

abbrev pub invariant-loop-k : goal.invariant-loop-k
invariant-loop-k l =
    Walking l.p l.r l.b l.m l.k l.rest l.declined
