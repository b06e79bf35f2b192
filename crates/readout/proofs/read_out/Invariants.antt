-- After i turns the row holds the first i buckets, and then what it held.
use Rattle.std.proofs.Common.{◌≡◌}
use Rattle.finding.specs.Finding.{asked}
use Rattle.readout.specs.ReadOut.{row_at}
use Rattle.readout.proofs.read_out.Given as goal

abbrev pub invariant-loop-i : goal.invariant-loop-i
invariant-loop-i l =
    l.row ≡ row_at l.room (asked l.fn.party l.fn.key) l.fn.row l.i
