-- The gateway itself keeps the season's promises: its table tells at every moment what the log does, so that its answers are by the log.
-- Assumes nothing.
use Rattle.std.specs.Prelude.{◌≡◌, Bool, not, ◌&&◌, ◌||◌, List, [], ◌∷◌, ℕ, ◌+◌, ◌≤◌, ◌<◌, length, ltb, eqb, Result, Ok}
use Rattle.std.proofs.Math.Path.{refl, ap, subst}
use Rattle.std.proofs.Common.{sym, ap₂, ◌∙◌, arith, ltb-false, eqb-true, ne_eqb}
use Rattle.std.proofs.Math.Bool.{true, false, cond}
use Rattle.std.proofs.lemmas.Bool.{false≢true, eqb-false, not-false}
use Rattle.common.specs.Refusals.{first, all-false, refuse}
use Rattle.settings.specs.Settings.{faults}
use Rattle.layout.specs.Layout.{longest_key}
use Rattle.answers.specs.declared.RateLimitDecision.TheVariants as decision
use Rattle.frame.specs.Keys.{Bytes}
use Rattle.parties.specs.Parties.{turns}
use Rattle.judge.specs.Judge.{misfits}
use Rattle.judge.specs.Verdict as Room
use Rattle.suppressed_verdicts.specs.Calls.{inc}
use Rattle.table.specs.Table.{most_controllers, known_of, empty_table, numbered, is_known, sound_for, last_number, remembered}
use Rattle.table.specs.Laws.{table_is, unknown-last}
use Rattle.gateway.specs.Gateway as Gate
use Rattle.gateway.specs.Gateway.{Verdict, is_held, gate_turns, unless_refused, as_shot, admits_shot}
use Rattle.gateway.specs.Steps.{asked}
use Rattle.gateway.proofs.Laws.{shot-asked, as-shot-admits}
use Rattle.demand3.specs.History.{same_bytes}
use Rattle.season.specs.Log.{Pair, highest, named, controllers}
use Rattle.season.proofs.Log.{highest-more}
use Rattle.season.proofs.Table.{sound-for, empty-knows, empty-sound, empty-unknown, remembered-tells}
use Rattle.season.specs.Season.{Shot, Event, shoots, calls, AllBytes, table_after, pair_of, noted, log_of, key_in, limiter, full}
use Rattle.season.specs.Season.{LeavesTable, Season, by_log, ByLog}
use Rattle.season.specs.Judging.{Through}
use Rattle.season.proofs.Judging.{judging, admitted-through, number-low, by-log-season}
use Rattle.season.specs.Own.{own, turned, decision_of, Judges, Agrees}
use Rattle.common.specs.declared.refusal.Refusal.{Refusal}
use Rattle.answers.specs.declared.ShotOutcome.{ShotOutcome}

-- ---- a shot on a sound table, by four tests of it

module _ (w : List ℕ) (c : Shot) where
  abbrev key : List ℕ
  key = c.controller

  abbrev n : ℕ
  n = c.number

  -- past 19 to 21, and not held: the limiter's
  own-asks : sound_for w key ≡ true → not (numbered n) ≡ false → ltb n (last_number w key) ≡ false →
      not (is_known w key) && eqb (known_of w) most_controllers ≡ false → is_known w key && eqb n (last_number w key) ≡ false →
      asked c.settings w c.room c.reading (key_in c) n c.rate c.draw ≡ own.shot w c
  unfolding is_held gate_turns first
  own-asks z p q r x = shot-asked c.settings w c.room c.reading (key_in c) n c.rate c.draw z (rw (p, z, q, r)) (rw (z, x))

  asked-judges : Judges false false false false w c (asked c.settings w c.room c.reading (key_in c) n c.rate c.draw)
  unfolding asked
  asked-judges =
      record { answer = refl; room = refl; table = ap (λ (is : Bool). cond is (remembered w key n) w) (sym (as-shot-admits (limiter c).answer)) }

  own-judges : sound_for w key ≡ true → (a b f d : Bool) → not (numbered n) ≡ a → ltb n (last_number w key) ≡ b →
      not (is_known w key) && eqb (known_of w) most_controllers ≡ f → is_known w key && eqb n (last_number w key) ≡ d → Judges a b f d w c (own.shot w c)
  unfolding Gate.shot is_held gate_turns first unless_refused
  own-judges z true b f d p q r x = rw (z, p) (record { answer = refl; room = refl; table = refl })
  own-judges z false true f d p q r x = rw (z, p, q) (record { answer = refl; room = refl; table = refl })
  own-judges z false false true d p q r x = rw (z, p, q, r) (record { answer = refl; room = refl; table = refl })
  own-judges z false false false true p q r x = rw (z, p, q, r, x) (record { answer = refl; room = refl; table = refl })
  own-judges z false false false false p q r x = subst (Judges false false false false w c) (own-asks z p q r x) asked-judges

-- an admitted shot has a controller of at most 32 bytes: refusal 7
admitted-short : (c : Shot) → admits_shot (as_shot (limiter c).answer) ≡ true → length c.controller ≤ longest_key
unfolding inc Room.unless_refused faults misfits turns
admitted-short c = go (eqb (turned c) 0) refl
  where
    go : (z : Bool) → eqb (turned c) 0 ≡ z → admits_shot (as_shot (cond z (decision_of c) (decision.Refused (turned c)))) ≡ true →
        length c.controller ≤ longest_key
    go true e y = let a = all-false _ (omega arith) (eqb-true (turned c) 0 e) in ltb-false longest_key (length c.controller) a.1.1.1.1.1.1.0
    go false e y = absurd (false≢true y)

-- ---- the table tells what the log does

empty-agrees : Agrees empty_table []
empty-agrees = record { sound = empty-sound; known = λ k b. empty-unknown k; last = λ k b. unknown-last empty_table k (empty-unknown k); count = empty-knows }

-- so a shot is judged by the log
module _ (w : List ℕ) (log : List Pair) (c : Shot) (o : Agrees w log) (b : Bytes c.controller) where
  abbrev highest_of : ℕ
  highest_of = highest c.controller log

  -- a number that is one is the last only of a known controller
  same_test : 1 ≤ c.number → is_known w c.controller && eqb c.number (last_number w c.controller) ≡ eqb c.number highest_of
  same_test h = go (is_known w c.controller) refl
    where
      go : (z : Bool) → is_known w c.controller ≡ z → z && eqb c.number (last_number w c.controller) ≡ eqb c.number highest_of
      go true e = ap (eqb c.number) (o.last c.controller b)
      go false e = sym (ne_eqb c.number highest_of (omega (arith, h, o.last c.controller b, unknown-last w c.controller e)))

  agrees-judges : Judges (not (numbered c.number)) (ltb c.number highest_of) (full most_controllers log c) (eqb c.number highest_of) w c (own.shot w c)
  agrees-judges = go (not (numbered c.number)) refl
    where
      known : is_known w c.controller ≡ named c.controller log
      known = o.known c.controller b

      below : ltb c.number (last_number w c.controller) ≡ ltb c.number highest_of
      below = ap (ltb c.number) (o.last c.controller b)

      away : not (is_known w c.controller) && eqb (known_of w) most_controllers ≡ full most_controllers log c
      away = ap₂ (λ (z : Bool) (m : ℕ). not z && eqb m most_controllers) known o.count

      go : (a : Bool) → not (numbered c.number) ≡ a →
          Judges a (ltb c.number highest_of) (full most_controllers log c) (eqb c.number highest_of) w c (own.shot w c)
      go true p =
          let j = own-judges w c (sound-for w c.controller o.sound b) true _ _ _ p below away refl in
          record { answer = j.answer; room = j.room; table = j.table }
      go false p = own-judges w c (sound-for w c.controller o.sound b) false _ _ _ p below away (same_test (number-low c.number (not-false _ p)))

  -- and the table agrees with the log again: where it is admitted
  more-agrees : Through log c → Agrees (remembered w c.controller c.number) (pair_of c ∷ log)
  more-agrees t =
      let key = c.controller in
      let m = remembered-tells w key c.number o.sound b (admitted-short c t.admits) t.number free in
      record {
        sound = m.sound;
        known = λ k bk. m.known k bk ∙ ap (λ (z : Bool). same_bytes key k || z) (o.known k bk);
        last = λ k bk. m.last k bk ∙ ap (cond (same_bytes key k) c.number) (o.last k bk) ∙ sym (highest-more (pair_of c) log t.ahead k);
        count = m.count ∙ ap₂ (λ (z : Bool) (n : ℕ). cond z 0 1 + n) (o.known key b) o.count;
      }
    where
      free : is_known w c.controller ≡ false → known_of w < most_controllers
      free e =
          let z = ap (λ (y : Bool). not y && eqb (controllers log) most_controllers) (sym e ∙ o.known c.controller b) ∙ t.free in
          omega (arith, eqb-false (controllers log) most_controllers z, o.count, o.sound.table.few)

  shot-agrees : Agrees (own.shot w c).table (noted (admits_shot (own.shot w c).answer) c log)
  shot-agrees =
      let j = agrees-judges in
      let a = (by_log log c).0 in
      subst (λ (x : Result ShotOutcome Refusal). Agrees (own.shot w c).table (noted (admits_shot x) c log)) (sym j.answer)
      (subst (λ (x : List ℕ). Agrees x (noted (admits_shot a) c log)) (sym j.table) (go (admits_shot a) refl))
    where
      go : (z : Bool) → admits_shot (by_log log c).0 ≡ z → Agrees (cond z (remembered w c.controller c.number) w) (noted z c log)
      go true e = more-agrees (admitted-through log c _ (judging log c) e)
      go false e = o

-- after any events of a season
pub always-agrees : (events : List Event) → AllBytes events → Agrees (table_after own events) (log_of own events)
always-agrees [] b = empty-agrees
always-agrees (shoots c ∷ events) b = shot-agrees (table_after own events) (log_of own events) c (always-agrees events b.1) b.0
always-agrees (calls o ∷ events) b = always-agrees events b

-- ---- the promises

-- whatever the words: a table is remembered in exactly where the answer admits
pub own-remembers : (w : List ℕ) (c : Shot) → (own.shot w c).table ≡ cond (admits_shot (own.shot w c).answer) (remembered w c.controller c.number) w
unfolding Gate.shot unless_refused
own-remembers w c = go (eqb (first judged) 0) (is_held w c.controller c.number)
  where
    judged : List (ℕ × Bool)
    judged = Gate.shot_turns c.settings w c.room c.reading (key_in c) c.number c.rate c.draw

    go : (z h : Bool) →
        let v = Gate.passed h c.settings w c.room c.reading (key_in c) c.number c.rate c.draw in
        cond z v.table w ≡ cond (admits_shot (cond z v.answer (refuse (first judged)))) (remembered w c.controller c.number) w
    go true true = refl
    go true false = refl
    go false h = refl

own-leaves : LeavesTable own
own-leaves w c e = own-remembers w c ∙ ap (λ (z : Bool). cond z (remembered w c.controller c.number) w) e

pub own-by-log : ByLog own
own-by-log events c b =
    let j = agrees-judges (table_after own events) (log_of own events) c (always-agrees events b.1) b.0 in
    record { answer = j.answer; room = j.room }

pub season : Season own
season = by-log-season own own-by-log own-leaves

-- ---- "Only a new season empties the table": and it does, whatever the season was, so that the next one begins as this one did

pub season-ends : (events : List Event) → AllBytes events → Gate.new_season (table_after own events) ≡ Room.verdict (Ok tt) empty_table
unfolding Gate.new_season first Room.unless_refused
season-ends events b = rw (table_is (table_after own events) (always-agrees events b).sound.table)
