-- Document 01's demand 3 of the suppressed limiter: the ceiling and the floor. The calls are the verdicts that the code's contracts name (`words` of the
-- steps, `admitted` of History.antt), and what is admitted is counted from the answers given. Any other calls of either party on any keys, with any
-- promises, may stand in the history, refused or not; a clause says what is asked of each (`Spares`, and the mission's own wording, `LeavesAlone`). That
-- readings never fall need not be asked: a call whose reading does is refused.
-- Assumes nothing.
use Rattle.std.specs.Prelude.{refl}
use Rattle.std.proofs.Common.{inl, inr}
use Rattle.room.specs.Room.{empty}
use Rattle.rules.specs.declared.RoomKind.TheVariants.{Suppressed}
use Rattle.steps.specs.Ops.{words}
use Rattle.demand3.specs.History.{admitted, limit_word, hard_of, soft_of, Spares}
use Rattle.demand3.proofs.Folds.{empty-kept, all-kept, kept-ceiling}
use Rattle.demand3.proofs.Increments.{inc-soft}
use Rattle.demand3.specs.Demand3.{less_bucket, look_back, Ceiling, Floor}

-- ---- the ceiling

pub ceiling : Ceiling less_bucket hard_of Spares
ceiling s slots ring key rate calls is le p from =
    kept-ceiling s le key is rate (words Suppressed s (empty slots ring) calls) (admitted s key (empty slots ring) calls)
    (all-kept s le key is rate (empty slots ring) (empty-kept s le key is rate slots ring) calls p) from

-- ---- the floor

pub floor : Floor look_back soft_of Spares
floor s slots ring key rate calls t asked count draw is le (inl refused, p) n = absurd (refused n)
floor s slots ring key rate calls t asked count draw is le (inr q, p) n =
    inc-soft s le (limit_word s rate) key is (words Suppressed s (empty slots ring) calls) t (admitted s key (empty slots ring) calls)
    (all-kept s le key is rate (empty slots ring) (empty-kept s le key is rate slots ring) calls p) asked (q.1 (refl, refl)) count draw n
