use Rattle.share.proofs.+times.Given as goal

abbrev pub decreases-times : goal.decreases-times
decreases-times l = l.n
