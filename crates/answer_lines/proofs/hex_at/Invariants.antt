use Prim.Native.Nat.{◌+◌}
use Rattle.answer_lines.specs.Hex.{HexTurn}
use Rattle.answer_lines.proofs.hex_at.Given as goal

abbrev pub invariant-loop-b : goal.invariant-loop-b
invariant-loop-b l =
    HexTurn l.line l.at l.b-index (l.at + l.b-index) l.value
