-- Both in the mission's wording.
use Rattle.std.specs.Prelude.{◌∷◌}
use Rattle.room.specs.Room.{empty}
use Rattle.demand3.specs.History.{hard_of, soft_of, LeavesAlone}
use Rattle.demand3.proofs.Mission.{all-spare}
use Rattle.demand3.specs.Demand3.{less_bucket, look_back, Ceiling, increment, Floor}
use Rattle.demand3.proofs.Demand3.{ceiling, floor}

pub mission-ceiling : Ceiling less_bucket hard_of LeavesAlone
mission-ceiling s slots ring key rate calls is le p =
    ceiling s slots ring key rate calls is le (all-spare s key rate (empty slots ring) calls p)

pub mission-floor : Floor look_back soft_of LeavesAlone
mission-floor s slots ring key rate calls t asked count draw is le p =
    floor s slots ring key rate calls t asked count draw is le (all-spare s key rate (empty slots ring) (increment t key asked count draw ∷ calls) p)
