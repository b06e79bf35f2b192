-- The memories are new when the run begins.
-- Assumes nothing.
use Rattle.std.proofs.Common.{refl}
use Rattle.desk_feed.specs.Laws.{fitting-made}
use Rattle.desk_run.specs.Laws.{serves-new}
use Rattle.desk_run.proofs.serve_anew.Goals as goal

pub unwrap-requires : goal.unwrap-requires
unwrap-requires g c =
    rw (fitting-made c.args.program c.args.first.now c.args.second.now _ _ _ c.requires c.make_memories.ensures) refl

pub returns : goal.returns
returns g c =
    serves-new 65536 c.args.program c.args.first.now c.args.second.now c.make_memories.result c.make_memories.new.first c.make_memories.new.second
    c.start.result c.args.hold.now _ _ _ _ c.requires c.make_memories.ensures c.start.ensures c.serve.ensures
