-- Words of another number are left; these are zeros then.
-- Assumes nothing.
use Rattle.table.specs.Laws.{table-made}
use Rattle.table.proofs.make.Goals as goal

pub returns : goal.returns
returns c =
    table-made c.args.w.now _ c.if-w-ne-WORDS.false c.zero.ensures
