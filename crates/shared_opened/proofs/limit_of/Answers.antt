-- By the room's kind.
use Rattle.shared_opened.proofs.limit_of.Goals as goal

pub returns-in-Absolute : goal.returns-in-Absolute
returns-in-Absolute c =
    rw c.in-Absolute.is c.absolute_limit.ensures

pub returns-in-Suppressed : goal.returns-in-Suppressed
returns-in-Suppressed c =
    rw c.in-Suppressed.is c.hard_limit.ensures
