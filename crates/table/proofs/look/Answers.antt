-- Words that are no table; a controller that is not known; one whose entry is unsound; one that stands there.
-- Assumes nothing.
use mathlib.Core.Path.{sym, ◌∙◌}
use native.Mathlib.Omega.{arith}
use Rattle.base.specs.Decides.{decided, undecided}
use Rattle.table.specs.Table.{Table}
use Rattle.table.specs.Laws.{looked-not, looked-new, looked-unsound, looked-known}
use Rattle.std.proofs.Common.{ap}
use Rattle.std.proofs.Common.{not}
use Rattle.table.proofs.look.Goals as goal
use Rattle.table.proofs.look.Goals.{Else-not-sized}

table : (c : goal.Else-not-sized) → Table c.args.w.now
table c =
    let o = c.sized in decided o.result (ap not c.if-not-sized.false) o.ensures

pub returns-then-not-sized : goal.returns-then-not-sized
returns-then-not-sized c =
    let a = c.args in
    let o = c.sized in
    looked-not a.w.now a.key.now (undecided o.result (ap not c.if-not-sized.true) o.ensures)

pub returns-then-w-at : goal.returns-then-w-at
returns-then-w-at c =
    let a = c.args in
    looked-new a.w.now a.key.now c.entry_for-at.result (table (goal.at.returns-then-w-at c).Else-not-sized) c.entry_for-at.ensures c.if-w-at.true

pub returns-then-not-once : goal.returns-then-not-once
returns-then-not-once c =
    let a = c.args in
    let x = c.once in
    looked-unsound a.w.now a.key.now c.entry_for-at.result (table (goal.at.returns-then-not-once c).Else-not-sized) (λ i. omega (arith, c.shared_slice_known-2-1.given i))
    c.entry_for-at.ensures c.if-w-at.false (sym x.ensures ∙ c.if-not-once.true)

pub returns : goal.returns
returns c =
    let a = c.args in
    let x = c.once in
    looked-known a.w.now a.key.now c.entry_for-at.result (table (goal.at.returns c).Else-not-sized) (λ i. omega (arith, c.shared_slice_known-2-1.given i))
    c.entry_for-at.ensures c.if-w-at.false c.use_of.result c.use_of.ensures
    (sym x.ensures ∙ c.if-not-once.false)
