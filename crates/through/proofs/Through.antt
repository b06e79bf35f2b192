-- Demand 3 through a gateway: ceiling and floor of a controller's shots, with the table's words any at the beginning, and any calls, shots of any
-- controllers of either party and new seasons between.
-- Assumes nothing.
use Rattle.std.specs.Prelude.{◌≡◌, refl, Bool, true, false, cond, List, [], ◌∷◌, ◌≢◌, ◌⊎◌, ℕ, ◌+◌, ◌≤◌, Ok}
use Rattle.std.proofs.Common.{sym, ap, subst, ◌∙◌, inl, inr}
use Rattle.answers.specs.Rows.{decision_row, shot_row, number_of}
use Rattle.answers.specs.declared.RateLimitDecision.TheVariants.{Allowed}
use Rattle.common.specs.declared.units.RateLimit.{RateLimit}
use Rattle.settings.specs.declared.Settings.{Settings}
use Rattle.rules.specs.declared.RoomKind.TheVariants.{Suppressed}
use Rattle.room.specs.Room.{empty}
use Rattle.parties.specs.Parties.{Sent}
use Rattle.suppressed_verdicts.specs.Calls.{inc}
use Rattle.gateway.specs.Gateway as Gateway
use Rattle.gateway.specs.Gateway.{as_shot}
use Rattle.admissions.specs.Log.{Entry, aged}
use Rattle.steps.specs.Ops.{draws, Call, words}
use Rattle.demand3.specs.History.{hard_of, soft_of, Clause, AllBy, LeavesAlone, Spares}
use Rattle.demand3.specs.Demand3.{less_bucket, look_back, increment, Ceiling, Floor}
use Rattle.demand3.proofs.Demand3.{ceiling, floor}
use Rattle.demand3.proofs.MissionPromises.{mission-ceiling, mission-floor}
use Rattle.through.specs.Shot.{asks}
use Rattle.through.proofs.Shot.{as-shot-row, shot-quiet, limiter-answers}
use Rattle.through.specs.Events.{Event, shot, call, season, Lent, lent, left, asking, asked}
use Rattle.through.proofs.Events.{same-room, same_log}
use Rattle.through.specs.Through.{By, EachBy, CeilingThrough, FloorThrough}
use Rattle.answers.specs.declared.ShotOutcome.TheVariants.{Held, Decided}

-- ---- what is asked of the events: a shot is an increment by 1

-- so of the limiter's own history
asked_by : (P : Clause) (s : Settings) (key : Sent) (rate : RateLimit) (x : Lent) (calls : List (Call Suppressed)) (r : List ℕ) (e : Event) →
    words Suppressed s r calls ≡ x.room → By P s key rate x e → AllBy P s key rate r calls → AllBy P s key rate r (asking x e calls)
asked_by P s key rate x calls r (shot t k number a draw) q p h = go (asks x.table k.bytes number)
  where
    go : (z : Bool) → AllBy P s key rate r (cond z (increment t k a 1 draw ∷ calls) calls)
    go true = (subst (λ (y : List ℕ). P s key rate y t (draws k a 1 draw)) (sym q) p, h)
    go false = h
asked_by P s key rate x calls r (call c) q p h = (subst (λ (y : List ℕ). P s key rate y c.reading c.op) (sym q) p, h)
asked_by P s key rate x calls r season q p h = h

all_asked : (P : Clause) (s : Settings) (key : Sent) (rate : RateLimit) (x : Lent) (es : List Event) → EachBy P s key rate x es →
    AllBy P s key rate x.room (asked s x es)
all_asked P s key rate x [] p = tt
all_asked P s key rate x (e ∷ es) p =
    asked_by P s key rate (left s x es) (asked s x es) x.room e (sym (same-room s x es)) p.0 (all_asked P s key rate x es p.1)

-- ---- the ceiling

carry-ceiling : (P : Clause) → Ceiling less_bucket hard_of P → CeilingThrough less_bucket hard_of P
carry-ceiling P c s slots ring table key rate events is le p from =
    let x = lent table (empty slots ring) in
    rw (same_log s key x events) (c s slots ring key rate (asked s x events) is le (all_asked P s key rate x events p) from)

pub through-ceiling : CeilingThrough less_bucket hard_of Spares
through-ceiling = carry-ceiling Spares ceiling

pub mission-through-ceiling : CeilingThrough less_bucket hard_of LeavesAlone
mission-through-ceiling = carry-ceiling LeavesAlone mission-ceiling

-- ---- the floor: a shot that is not refused, not held, and that with all admitted at ages up to one window comes to at most the soft limit, is Allowed

carry-floor : (P : Clause) → Floor look_back soft_of P → FloorThrough look_back soft_of P
carry-floor P f s slots ring table key rate events t number given draw is le p n h l = go (asks w key.bytes number) refl
  where
    x : Lent
    x = lent table (empty slots ring)

    w : List ℕ
    w = (left s x events).table

    r : List ℕ
    r = (left s x events).room

    calls : List (Call Suppressed)
    calls = asked s x events

    same : r ≡ words Suppressed s (empty slots ring) calls
    same = same-room s x events

    go : (z : Bool) → asks w key.bytes number ≡ z → (Gateway.shot s w r t key number given draw).answer ≡ Ok (Decided Allowed)
    go false e = absurd (out (shot-quiet s w r t key number given draw e).said)
      where
        out : ((Gateway.shot s w r t key number given draw).answer ≡ Ok Held) ⊎ (number_of (shot_row (Gateway.shot s w r t key number given draw).answer) ≢ 0) → ⊥
        out (inl q) = h q
        out (inr q) = q n
    go true e =
        let a = limiter-answers s w r t key number given draw e in
        let on : number_of (decision_row (inc s (words Suppressed s (empty slots ring) calls) t key given 1 draw).answer) ≡ 0 =
        ap (λ (y : List ℕ). number_of (decision_row (inc s y t key given 1 draw).answer)) (sym same) ∙
        sym (ap number_of (ap shot_row a ∙ as-shot-row (inc s r t key given 1 draw).answer)) ∙ n in
        let d : (inc s (words Suppressed s (empty slots ring) calls) t key given 1 draw).answer ≡ Allowed =
        f s slots ring key rate calls t given 1 draw is le
        (subst (λ (y : List ℕ). P s key rate y t (draws key given 1 draw)) same p.0, all_asked P s key rate x events p.1) on
        (subst (λ (g : List Entry). 1 + aged (look_back s) t g ≤ soft_of s rate) (same_log s key x events) l) in
        a ∙ ap (λ (y : List ℕ). as_shot (inc s y t key given 1 draw).answer) same ∙ ap as_shot d

pub through-floor : FloorThrough look_back soft_of Spares
through-floor = carry-floor Spares floor

pub mission-through-floor : FloorThrough look_back soft_of LeavesAlone
mission-through-floor = carry-floor LeavesAlone mission-floor
