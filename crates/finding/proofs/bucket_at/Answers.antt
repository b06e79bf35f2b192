-- The part that is lent is the slot's body.
-- Assumes nothing.
use mathlib.Core.Path.{◌∙◌, sym, ap, subst}
use mathlib.Core.List.{List}
use Prim.Native.Nat.{ℕ}
use lib.ListN.{get_or}
use Rattle.ring.specs.Ring.{Shape, no_bucket, buckets}
use Rattle.room.specs.Room.{ring_of}
use Rattle.room.specs.Laws.{part_body}
use Rattle.finding.proofs.bucket_at.Goals as goal

pub nth_or_none-requires : goal.nth_or_none-requires
nth_or_none-requires c =
    let w = c.args.room.now in
    subst (λ (b : List ℕ). Shape (ring_of w) b) (sym (part_body w c.start-start.result c.args.slot c.start-start.ensures.at)) c.requires.shape

pub returns : goal.returns
returns c =
    let a = c.args in
    let w = a.room.now in
    c.nth_or_none.ensures ∙ ap (λ (b : List ℕ). get_or (buckets (ring_of w) b) a.i no_bucket)
    (part_body w c.start-start.result a.slot c.start-start.ensures.at)
