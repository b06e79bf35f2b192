-- `history::replace` meets its contract: a body without its buckets can take one.
-- Assumes nothing.
use Rattle.history.specs.Steps.{sets-leaves, sets-free}
use Rattle.history.specs.Words.{replaced_words}
use Rattle.ring.specs.Ring.{pushed, without}
use mathlib.Core.List.{List}
use Prim.Native.Nat.{ℕ}
use mathlib.Core.Path.{ap, ◌∙◌}
use Rattle.history.proofs.replace.Goals as goal

pub evict-requires : goal.evict-requires
evict-requires c =
    sets-leaves c.len-k.result c.requires c.len-k.ensures

pub push-requires : goal.push-requires
push-requires c =
    let a = c.args in
    sets-free _ c.requires
    (c.evict.ensures ∙ ap (without a.r a.b.now) c.len-k.ensures)

pub returns : goal.returns
unfolding replaced_words
returns c =
    let a = c.args in
    c.push.ensures ∙ ap (λ (w : List ℕ). pushed a.r w a.n 0 a.reading)
    (c.evict.ensures ∙
    ap (without a.r a.b.now) c.len-k.ensures)
