-- Where the lengths fit, zeros with two stores are the empty room; else nothing was written.
-- Assumes nothing.
use mathlib.Core.Path.{refl, sym, subst}
use Prim.Native.Nat.{◌<◌}
use lib.ListN.{length, set}
use Rattle.base.specs.Decides.{decided, undecided}
use Rattle.room.specs.Laws.{zeros-long, empty-made, not_made}
use Rattle.layout.specs.Layout.{last_word, slots_word, ring_word}
use Rattle.room.specs.Room.{Made, Lengths}
use Rattle.std.proofs.Common.{ap, not, Ok}
use Rattle.room.proofs.make.Goals as goal

-- past the test: the lengths fit, and so the zeroed words have a header
lengths : (c : goal.After-slice_known-2-1) → let a = c.args in
    Lengths a.slots a.ring (length a.w.now)
lengths c = decided c.fits.result (ap not c.if-not-fits.false) c.fits.ensures

long : (c : goal.After-slice_known-2-1) → last_word < length c.zero.new.w
long c = let a = c.args in let z =
    c.zero in zeros-long a.slots a.ring a.w.now z.new.w z.ensures (lengths c)

pub returns-then-not-fits : goal.returns-then-not-fits
returns-then-not-fits c =
    let a = c.args in
    not_made a.slots a.ring a.w.now (undecided c.fits.result (ap not c.if-not-fits.true) c.fits.ensures)

pub returns : goal.returns
returns c =
    let a = c.args in let z =
    c.zero in subst (λ y. Made a.slots a.ring a.w.now (Ok tt) (set (set y slots_word a.slots) ring_word a.ring))
    (sym z.ensures) (empty-made a.slots a.ring (length a.w.now) a.w.now refl (lengths c))
