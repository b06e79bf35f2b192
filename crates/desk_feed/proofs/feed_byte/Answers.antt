-- A newline ends the line that is held; any other byte is kept.
-- Assumes nothing.
use borrow.Author.Tests.{eq-eqb, ne_eqb}
use Rattle.desk_feed.specs.Feed.{whole, ending, byte}
use Rattle.desk_feed.specs.Laws.{line-gone, byte-gone}
use Rattle.desk_feed.proofs.feed_byte.Goals as goal

pub returns-then-b-eq-NEWLINE : goal.returns-then-b-eq-NEWLINE
unfolding byte
returns-then-b-eq-NEWLINE c =
    let a = c.args in
    let w = whole a.desk a.first.now a.second.now a.hold.now in
    let e = c.end_line-turn in
    rw (eq-eqb _ _ c.if-b-eq-NEWLINE.true)
    (line-gone (ending w) a.out.now a.at e.result e.new.first e.new.second a.hold.now e.new.out c.rested.result
    c.rested.ensures e.ensures)

pub returns : goal.returns
unfolding byte
returns c =
    let a = c.args in
    let w = whole a.desk a.first.now a.second.now a.hold.now in
    let k = c.keep in
    rw (ne_eqb _ _ c.if-b-eq-NEWLINE.false)
    (byte-gone w a.b k.result k.new.hold a.out.now a.at k.ensures)
