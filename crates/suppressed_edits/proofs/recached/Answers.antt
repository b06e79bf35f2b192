-- By what becomes of the cached factor.
use Rattle.suppressed_edits.specs.Edits.{recached}
use Rattle.suppressed_edits.proofs.recached.Goals as goal

pub returns-in-None : goal.returns-in-None
unfolding recached
returns-in-None c =
    rw (c.restored.ensures, c.in-None.is, c.use_left.ensures, c.stays.ensures)

pub returns-in-Some : goal.returns-in-Some
unfolding recached
returns-in-Some c =
    rw (c.restored-in-Some.ensures, c.in-Some.is, c.word_of.ensures)
