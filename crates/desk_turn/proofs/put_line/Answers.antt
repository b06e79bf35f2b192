-- The newline comes right behind the line.
-- Assumes nothing.
use Rattle.desk_turn.specs.Puts.{line-put}
use Rattle.desk_turn.proofs.put_line.Goals as goal

pub returns : goal.returns
returns c =
    let p = c.put_answer-next in
    line-put c.args.line c.args.out.now p.new.out c.args.at p.result c.requires p.ensures
