-- No entry from the first one to the one looked at has the key: the search from the first is the search from there.
-- Assumes nothing.
use mathlib.Core.Path.{◌≡◌, sym, ◌∙◌}
use native.Mathlib.Omega.{arith}
use Rattle.base.specs.Seek.{seek-on, seek-here, seek-end}
use Rattle.table.specs.Table.{names}
use Rattle.room.specs.Room.{slots_of}
use Rattle.table.proofs.entry_from.Goals as goal

pub returns-then-is_key_at : goal.returns-then-is_key_at
unfolding names
returns-then-is_key_at c =
    let same : let a = c.args in
    c.is_key_at.result ≡ names a.w.now a.k c.loop-i.i =
    c.is_key_at.ensures in
    sym (c.loop-i.invariant ∙ seek-here _ _ _ c.loop-i-test.true (sym same ∙ c.if-is_key_at.true))

pub loop-i-preserved : goal.loop-i-preserved
unfolding names
loop-i-preserved c =
    let same : let a = c.args in
    c.is_key_at.result ≡ names a.w.now a.k c.loop-i.i =
    c.is_key_at.ensures in
    c.loop-i.invariant ∙ seek-on _ _ _ c.loop-i-test.true (sym same ∙ c.if-is_key_at.false)

pub returns : goal.returns
returns c =
    let e : slots_of c.args.w.now ≡ c.loop-i.i = omega arith in e ∙ sym (c.loop-i.invariant ∙ seek-end _ _ _ (omega arith))
