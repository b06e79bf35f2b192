-- Each arm is its case of the definition.
-- Assumes nothing.
use Rattle.desk_feed.proofs.make_first.Goals as goal

pub returns-in-Desk : goal.returns-in-Desk
returns-in-Desk c =
    let m = c.make.ensures in
    rw c.in-Desk.is (record { answer = m.answer; words = m.words })

pub returns-in-Shots : goal.returns-in-Shots
returns-in-Shots c =
    let m = c.make-in-Shots.ensures in
    rw c.in-Shots.is (record { answer = m.answer; words = m.words })
