-- By what becomes of the cached factor.
use Rattle.suppressed_edits.proofs.lone_change.Goals as goal

pub returns-in-None : goal.returns-in-None
returns-in-None c =
    rw c.in-None.is

pub returns-in-Some : goal.returns-in-Some
returns-in-Some c =
    rw c.in-Some.is c.lone_by.ensures
