-- `sweep::is_sound` meets its contract: what the quick pass shows is so, and what it does not show the sweep judges.
-- Assumes nothing.
use Rattle.std.proofs.lemmas.Bool.{lt-leb}
use mathlib.Core.Path.{sym, ◌∙◌}
use Rattle.quick.specs.Judged.{shown-sound}
use Rattle.ring.specs.Sound.{true-sound}
use Rattle.sweep.specs.Found.{sound-over, sound-swept}
use native.Mathlib.Omega.{arith}
use Rattle.sweep.proofs.is_sound.Goals as goal

pub returns-then-shows_sound : goal.returns-then-shows_sound
returns-then-shows_sound c =
    let a = c.args in let q = c.shows_sound in
    c.if-shows_sound.true ∙ sym (true-sound a.r a.b.now a.last (shown-sound a.r a.b.now a.last c.requires (sym q.ensures ∙ c.if-shows_sound.true)))

pub returns-then-b-le-MOST_TOTAL : goal.returns-then-b-le-MOST_TOTAL
returns-then-b-le-MOST_TOTAL c =
    let a = c.args in
    c.sweep.ensures ∙ sound-swept a.r a.b.now a.last c.requires (omega (arith, c.if-b-le-MOST_TOTAL.true))

pub returns-else-b-le-MOST_TOTAL : goal.returns-else-b-le-MOST_TOTAL
returns-else-b-le-MOST_TOTAL c =
    let a = c.args in
    lt-leb _ _ c.if-b-le-MOST_TOTAL.false ∙ sound-over a.r a.b.now a.last
    c.requires (omega (arith, c.if-b-le-MOST_TOTAL.false))
