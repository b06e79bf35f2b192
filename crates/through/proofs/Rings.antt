-- Refusal 12 through a gateway (document 02, ticket 4): with a ring that is long enough no shot is told it either, nor any call between, with the table's
-- words any at the beginning.
-- Assumes nothing.
use Rattle.std.specs.Prelude.{◌≡◌, Bool, not, ◌||◌, cond, List, [], ◌∷◌, ◌++◌, ◌≢◌, ℕ, ◌≤◌, Ok}
use Rattle.std.proofs.Math.Path.{refl, ap}
use Rattle.std.proofs.Common.{sym, subst, ◌∙◌, arith}
use Rattle.std.proofs.Math.Bool.{true, false, false≢true}
use Rattle.std.proofs.Math.Dec.{eqb}
use Rattle.std.proofs.lemmas.Bool.{eqb-false}
use Rattle.answers.specs.Rows.{shot_row, done_row, number_of}
use Rattle.common.specs.Refusals.{first, refuse}
use Rattle.common.specs.declared.units.RateLimit.{RateLimit}
use Rattle.settings.specs.Settings.{faults}
use Rattle.settings.specs.declared.Settings.{Settings}
use Rattle.ring_length.specs.RingLength.{sufficient_ring}
use Rattle.rules.specs.declared.RoomKind.TheVariants.{Suppressed}
use Rattle.room.specs.Room.{ring_of, fits, empty}
use Rattle.parties.specs.Parties.{Sent, turns}
use Rattle.table.specs.Table.{is_table}
use Rattle.judge.specs.Held.{held_in}
use Rattle.judge.specs.Judge.{misfits}
use Rattle.judge.specs.Verdict as Room
use Rattle.gateway.specs.Gateway.{is_held, gate_turns, limiter_turns, unless_held, shot_turns, passed, unless_refused, new_season}
use Rattle.gateway.specs.Gateway as Gateway
use Rattle.steps.specs.Ops.{draws, Call, AllKeyed}
use Rattle.steps.specs.Order.{met}
use Rattle.steps.proofs.Order.{first-met}
use Rattle.rings.proofs.Window.{looked-room}
use Rattle.rings.specs.Roomy.{Roomy}
use Rattle.rings.proofs.Roomy.{key_apart, roomy-untold}
use Rattle.rings.proofs.Rings.{always-roomy}
use Rattle.through.specs.Shot.{asks}
use Rattle.through.specs.Events.{Event, shot, call, season, Lent, lent, left, asking, asked}
use Rattle.through.proofs.Events.{same-room}
use Rattle.through.specs.Rings.{number_in, KeyedIn, EachKeyed}

-- so of the limiter's own history
asking-keyed : (x : Lent) (e : Event) (calls : List (Call Suppressed)) → KeyedIn e → AllKeyed calls → AllKeyed (asking x e calls)
asking-keyed x (shot t key number rate draw) calls by k = go (asks x.table key.bytes number)
  where
    go : (z : Bool) → AllKeyed (cond z (record { reading = t; op = draws key rate 1 draw } ∷ calls) calls)
    go true = (by, k)
    go false = k
asking-keyed x (call c) calls by k = (by, k)
asking-keyed x season calls by k = k

asked-keyed : (s : Settings) (x : Lent) (es : List Event) → EachKeyed es → AllKeyed (asked s x es)
asked-keyed s x [] k = tt
asked-keyed s x (e ∷ es) k = asking-keyed (left s x es) e (asked s x es) k.0 (asked-keyed s x es k.1)

-- ---- one event on a room that is roomy

module _ (s : Settings) (w r : List ℕ) (t : ℕ) (key : Sent) (number : ℕ) (rate : RateLimit) (draw : ℕ) (roomy : Roomy s r) where
  turns-unmet : (held : Bool) → met (gate_turns w key.bytes number ++ unless_held held (limiter_turns s w r t key rate draw)) 12 ≡ false
  unfolding met gate_turns faults misfits turns
  turns-unmet true = refl
  turns-unmet false =
      ap (λ (z : Bool). z || false) (looked-room s t (ring_of r) roomy.ring (held_in r key) (key_apart s r roomy.apart key))

  passed-untold : (held : Bool) → number_of (shot_row (passed held s w r t key number rate draw).answer) ≢ 12
  unfolding shot_row
  passed-untold true e = omega (arith, e)
  passed-untold false e = roomy-untold Suppressed s r t roomy (draws key rate 1 draw) e

  shot-untold : number_of (shot_row (Gateway.shot s w r t key number rate draw).answer) ≢ 12
  unfolding Gateway.shot unless_refused shot_row
  shot-untold e = go (eqb (first (shot_turns s w r t key number rate draw)) 0) refl e
    where
      go : (z : Bool) → eqb (first (shot_turns s w r t key number rate draw)) 0 ≡ z →
          number_of (shot_row (cond z (passed (is_held w key.bytes number) s w r t key number rate draw).answer
          (refuse (first (shot_turns s w r t key number rate draw))))) ≡ 12 → ⊥
      go true q h = passed-untold (is_held w key.bytes number) h
      go false q h =
          let m = first-met (shot_turns s w r t key number rate draw) (eqb-false _ 0 q) in
          false≢true (sym (turns-unmet (is_held w key.bytes number)) ∙ ap (met (shot_turns s w r t key number rate draw)) (sym h) ∙ m)

season-untold : (w : List ℕ) → number_of (done_row (new_season w).answer) ≢ 12
unfolding new_season Room.unless_refused first done_row
season-untold w = go (is_table w)
  where
    go : (z : Bool) → number_of (done_row (cond (eqb (cond (not z) 5 0) 0) (Ok tt) (refuse (cond (not z) 5 0)))) ≢ 12
    go true e = omega (arith, e)
    go false e = omega (arith, e)

event-untold : (s : Settings) (x : Lent) (e : Event) → Roomy s x.room → number_in s x e ≢ 12
event-untold s x (shot t key number rate draw) r = shot-untold s x.table x.room t key number rate draw r
event-untold s x (call c) r = roomy-untold Suppressed s x.room c.reading r c.op
event-untold s x season r = season-untold x.table

-- ---- the promise: whatever events were before, and whichever comes next

pub through-never-full : (s : Settings) (slots ring n : ℕ) (table : List ℕ) → fits slots ring n ≡ true → sufficient_ring s ≤ ring →
    (events : List Event) → EachKeyed events → (e : Event) → number_in s (left s (lent table (empty slots ring)) events) e ≢ 12
through-never-full s slots ring n table f enough events keyed e =
    let x = lent table (empty slots ring) in
    event-untold s (left s x events) e
    (subst (Roomy s) (sym (same-room s x events)) (always-roomy Suppressed s slots ring n f enough (asked s x events) (asked-keyed s x events keyed)))
