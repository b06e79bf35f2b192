-- The laws of a shot: its steps come to what `shot` says, and a new season's to what `new_season` says.
-- Assumes nothing.
use Rattle.std.proofs.Math.Path.{◌≡◌, refl, sym, ap}
use Rattle.std.proofs.Common.{subst, ◌∙◌}
use Rattle.std.specs.Prelude.{Bool, cond, not, ◌&&◌, ◌≢◌, ℕ, length, replicate, Result, Ok, Option}
use Rattle.std.proofs.Math.Bool.{true, false, false≢true}
use mathlib.Core.List.{List, [], ◌∷◌, ◌++◌, append-nil}
use native.Mathlib.Omega.{arith}
use Rattle.std.proofs.Math.Dec.{ltb, eqb}
use borrow.Author.Tests.{eq-eqb, ne_eqb, eqb-true, eqb-false, le-ltb, not-true}
use Rattle.base.specs.Decides.{and-true}
use Rattle.common.specs.Limits.{cut_word, soft_word}
use Rattle.common.specs.Refusals.{first, Positive, first_found, first-none, refuse}
use Rattle.common.specs.declared.units.RateLimit.{RateLimit}
use Rattle.settings.specs.Settings.{factor_in, faults}
use Rattle.settings.specs.declared.Settings.{Settings}
use Rattle.answers.specs.declared.RateLimitDecision.{RateLimitDecision}
use Rattle.answers.specs.declared.RateLimitDecision.TheVariants as decision
use Rattle.rules.specs.declared.Asked.{Asked}
use Rattle.rules.specs.declared.Reach.{Reach}
use Rattle.rules.specs.declared.Reach.TheVariants.{Hard, Soft, Over, Between}
use Rattle.rules.specs.declared.RoomKind.TheVariants.{Suppressed}
use Rattle.rules.specs.Held as Key
use Rattle.rules.specs.Both.{overdue_in, looked_of}
use Rattle.rules.specs.Suppressed as Rules
use Rattle.rules.specs.Suppressed.{admits, limit_for, inc_turns, drawn, outcome_of, outcome}
use Rattle.room.specs.Room.{ring_of}
use Rattle.parties.specs.Parties.{Sent, none_left}
use Rattle.judge.specs.Held.{held_in}
use Rattle.judge.specs.Judge.{misfits, refusals}
use Rattle.judge.proofs.Laws.{faults-positive}
use Rattle.judge.specs.Verdict as Room
use Rattle.judge.proofs.Verdict as Room_laws
use Rattle.suppressed_verdicts.specs.Calls.{inc}
use Rattle.table.specs.declared.Looked.{Looked}
use Rattle.table.specs.Table.{most_controllers, known_of, Table, empty_table, numbered, entry_for, is_known, sound_for, last_number, remembered}
use Rattle.table.specs.Table.{looked, seen_sound, seen_at, seen_last, Stands}
use Rattle.table.specs.Laws.{table_is, no_table, number_in, entry-le, known-no, known-stands, unknown-stands, unknown-last, sound-table, sound-number}
use Rattle.table.specs.Laws.{looked-sound, looked-nothing, looked-at, looked-last}
use Rattle.gateway.specs.Gateway.{is_held, gate_turns, limiter_turns, unless_held, shot_turns, as_shot}
use Rattle.gateway.specs.Gateway.{admits_shot, Verdict, passed, unless_refused, shot, Told, new_season}
use Rattle.gateway.specs.Steps.{again, unsoundness, stops, asked}
use Rattle.common.specs.declared.refusal.Refusal.{Refusal}
use Rattle.answers.specs.declared.ShotOutcome.{ShotOutcome}
use Rattle.answers.specs.declared.ShotOutcome.TheVariants.{Held, Decided}

-- ---- a new season

pub season-refused : (w : List ℕ) → (Table w → ⊥) → Room.Told (new_season w) (refuse 5) w
unfolding new_season first
season-refused w z = rw (no_table w z) (Room_laws.told-turned refuse 5 w (Room.verdict (Ok tt) empty_table) (λ e. omega arith))

pub season-done : (w v : List ℕ) → Table w → v ≡ replicate (length w) 0 → Room.Told (new_season w) (Ok tt) v
unfolding new_season first empty_table
season-done w v o e =
    let z : v ≡ empty_table = e ∙ ap (λ (n : ℕ). replicate n 0) o.long in
    rw (table_is w o) (Room_laws.told-done refuse 0 w (Room.verdict (Ok tt) empty_table) (Ok tt) v refl (record { answer = refl; words = z }))

-- ---- told

pub told-refused : (n : ℕ) (w r : List ℕ) (v : Verdict) → (n ≡ 0 → ⊥) → Told (unless_refused n w r v) (refuse n) w r
unfolding unless_refused
told-refused n w r v z = let e = ne_eqb n 0 z in record { answer = sym (rw e); table = sym (rw e); room = sym (rw e) }

pub told-passed : (n : ℕ) (w r : List ℕ) (v : Verdict) → n ≡ 0 → Told (unless_refused n w r v) v.answer v.table v.room
unfolding unless_refused
told-passed n w r v z = let e = eq-eqb n 0 z in record { answer = sym (rw e); table = sym (rw e); room = sym (rw e) }

pub told-as : {v v' : Verdict} {a : Result ShotOutcome Refusal} {w r : List ℕ} → v ≡ v' → Told v a w r → Told v' a w r
told-as {a = a} {w = w} {r = r} e o = subst (λ y. Told y a w r) e o

-- ---- the limiter's refusals are the gateway's, and a decision of its is none

-- a refusal that is not met makes no difference
unmet : (xs ys : List (ℕ × Bool)) (n : ℕ) → first (xs ++ ((n, false) ∷ ys)) ≡ first (xs ++ ys)
unfolding first
unmet [] ys n = refl
unmet (x ∷ xs) ys n = rw (unmet xs ys n)

reach-decides : (x : Reach) (a : Asked) (t c draw : ℕ) → as_shot (outcome_of x a t c draw).decision ≡ Ok (Decided (outcome_of x a t c draw).decision)
unfolding drawn
reach-decides Hard a t c draw = refl
reach-decides Soft a t c draw = refl
reach-decides Over a t c draw = refl
reach-decides Between a t c draw = refl

decides : (s : Settings) (t limit c draw : ℕ) (h : Key.Held) →
    as_shot (outcome s t limit c draw h).decision ≡ Ok (Decided (outcome s t limit c draw h).decision)
unfolding outcome
decides s t limit c draw h =
    reach-decides (Rules.reach_of (Rules.forecast (looked_of s t h) c) (soft_word (factor_in s) limit) (cut_word limit))
    (Rules.asked s t (overdue_in s t h) limit h) t c draw

-- a limiter's verdict v, unless it refuses with n, as the gateway's
carried : (n : ℕ) (w r new : List ℕ) (v : Room.Verdict RateLimitDecision) → as_shot v.answer ≡ Ok (Decided v.answer) →
    let u = Room.unless_refused decision.Refused n r v in
    unless_refused n w r (record { answer = Ok (Decided u.answer); table = cond (admits u.answer) new w; room = u.words }) ≡
    record { answer = as_shot u.answer; table = cond (admits u.answer) new w; room = u.words }
unfolding unless_refused Room.unless_refused
carried n w r new v e = go (eqb n 0)
  where
    go : (z : Bool) →
        let a = cond z v.answer (decision.Refused n) in
        let x = cond z v.words r in
        ◌≡◌ {A = Verdict}
        (record { answer = cond z (Ok (Decided a)) (refuse n); table = cond z (cond (admits a) new w) w; room = cond z x r })
        (record { answer = as_shot a; table = cond (admits a) new w; room = x })
    go true = ap (λ (a : Result ShotOutcome Refusal). record { answer = a; table = cond (admits v.answer) new w; room = v.words }) (sym e)
    go false = refl

pub as-shot-admits : (d : RateLimitDecision) → admits_shot (as_shot d) ≡ admits d
as-shot-admits decision.Allowed = refl
as-shot-admits (decision.Rejected window wait rest) = refl
as-shot-admits (decision.Suppressed f is) = refl
as-shot-admits (decision.Refused n) = refl

-- what is admitted is decided
pub admitted-decided : (d : RateLimitDecision) → admits d ≡ true → as_shot d ≡ Ok (Decided d)
admitted-decided decision.Allowed e = refl
admitted-decided (decision.Rejected window wait rest) e = refl
admitted-decided (decision.Suppressed f is) e = refl
admitted-decided (decision.Refused n) e = absurd (false≢true e)

-- an unsound table is refused
unsoundness-some : (s : Settings) → unsoundness s ≡ 0 → ⊥
unfolding unsoundness
unsoundness-some s f = go (eqb (first (faults s)) 0) refl f
  where
    go : (z : Bool) → eqb (first (faults s)) 0 ≡ z → cond z 5 (first (faults s)) ≡ 0 → ⊥
    go true e f = omega arith
    go false e f = eqb-false _ 0 e f

and-false : (a : Bool) → a && false ≡ false
and-false true = refl
and-false false = refl

module _ (s : Settings) (w r : List ℕ) (t : ℕ) (key : Sent) (number : ℕ) (rate : RateLimit) (draw : ℕ) where
  -- ---- asked: its answer is the limiter's as a shot's, and the table has the number where it is admitted
  pub asked-told : (d : RateLimitDecision) (x v : List ℕ) → Room.Told (inc s r t key rate 1 draw) d x → v ≡ cond (admits d) (remembered w key.bytes number) w →
      Told (asked s w r t key number rate draw) (as_shot d) v x
  unfolding asked
  asked-told d x v o e = record {
    answer = ap as_shot o.answer;
    table = e ∙ ap (λ (a : RateLimitDecision). cond (admits a) (remembered w key.bytes number) w) o.answer;
    room = o.words;
  }

  -- ---- past the gate: what a shot that is not held comes to
  gate-positive : Positive (gate_turns w key.bytes number)
  unfolding gate_turns
  gate-positive = omega arith

  past-gate : sound_for w key.bytes ≡ true → first (gate_turns w key.bytes number) ≡ 0 → is_held w key.bytes number ≡ false →
      first (shot_turns s w r t key number rate draw) ≡
      first (refusals Suppressed s r t key (inc_turns s (ring_of r) (none_left r key.caller) t rate 1 draw (held_in r key)))
  past-gate o g h =
      let rest = misfits Suppressed s r t key ++ inc_turns s (ring_of r) (none_left r key.caller) t rate 1 draw (held_in r key) in
      first-none (gate_turns w key.bytes number) (unless_held (is_held w key.bytes number) (limiter_turns s w r t key rate draw)) gate-positive g ∙
      ap (λ (z : Bool). first (unless_held z (limiter_turns s w r t key rate draw))) h ∙
      ap (λ (z : Bool). first (faults s ++ ((5, not z) ∷ rest))) o ∙
      unmet (faults s) rest 5

  pub shot-asked : sound_for w key.bytes ≡ true → first (gate_turns w key.bytes number) ≡ 0 → is_held w key.bytes number ≡ false →
      asked s w r t key number rate draw ≡ shot s w r t key number rate draw
  unfolding shot asked inc
  shot-asked o g h =
      let n = first (refusals Suppressed s r t key (inc_turns s (ring_of r) (none_left r key.caller) t rate 1 draw (held_in r key))) in
      sym
      (ap (λ (z : Bool). unless_refused (first (shot_turns s w r t key number rate draw)) w r (passed z s w r t key number rate draw)) h ∙
      ap (λ (m : ℕ). unless_refused m w r (passed false s w r t key number rate draw)) (past-gate o g h) ∙
      carried n w r (remembered w key.bytes number) _ (decides s t (limit_for s rate (held_in r key)) 1 draw (held_in r key)))

  -- ---- the first number that is met
  at-19 : numbered number ≡ false → first (shot_turns s w r t key number rate draw) ≡ 19
  unfolding gate_turns first
  at-19 p = rw p

  at-unsound : numbered number ≡ true → sound_for w key.bytes ≡ false → first (shot_turns s w r t key number rate draw) ≡ unsoundness s
  unfolding gate_turns is_held first unsoundness
  at-unsound p o = rw (p, o) (go (eqb (first (faults s)) 0) refl)
    where
      rest : List (ℕ × Bool)
      rest = (5, true) ∷ (misfits Suppressed s r t key ++ inc_turns s (ring_of r) (none_left r key.caller) t rate 1 draw (held_in r key))

      go : (z : Bool) → eqb (first (faults s)) 0 ≡ z → first (faults s ++ rest) ≡ cond z 5 (first (faults s))
      go true e = first-none (faults s) rest (faults-positive s) (eqb-true _ 0 e)
      go false e = first_found (faults s) rest (eqb-false _ 0 e)

  at-20 : numbered number ≡ true → sound_for w key.bytes ≡ true → ltb number (last_number w key.bytes) ≡ true →
      first (shot_turns s w r t key number rate draw) ≡ 20
  unfolding gate_turns first
  at-20 p o l = rw (p, o, l)

  at-21 : numbered number ≡ true → sound_for w key.bytes ≡ true → ltb number (last_number w key.bytes) ≡ false → is_known w key.bytes ≡ false →
      eqb (known_of w) most_controllers ≡ true → first (shot_turns s w r t key number rate draw) ≡ 21
  unfolding gate_turns first
  at-21 p o l k f = rw (p, o, l, k, f)

  -- ---- what a look at the table stops, x being what it found
  module _ (x : Option Looked) (e : x ≡ looked w key.bytes) where
    sound-is : seen_sound x ≡ sound_for w key.bytes
    sound-is = ap seen_sound e ∙ looked-sound w key.bytes

    at-is : sound_for w key.bytes ≡ true → seen_at x ≡ entry_for w key.bytes
    at-is o = ap seen_at e ∙ looked-at w key.bytes o

    last-is : sound_for w key.bytes ≡ true → seen_last x ≡ last_number w key.bytes
    last-is o = ap seen_last e ∙ looked-last w key.bytes o

    -- an entry behind all 64: the table is full, and the controller not among them
    full : (o : sound_for w key.bytes ≡ true) → seen_at x ≡ most_controllers → (is_known w key.bytes ≡ false) × (eqb (known_of w) most_controllers ≡ true)
    full o h =
        let f = (sound-table w key.bytes o).few in
        let l = entry-le w key.bytes in
        let a = at-is o in
        (known-no w key.bytes (omega arith), eq-eqb (known_of w) most_controllers (omega arith))

    pub stop_is : (m : ℕ) → m ≡ stops s x number → (m ≡ 0 → ⊥) → first (shot_turns s w r t key number rate draw) ≡ m
    unfolding stops
    stop_is m f z = go (numbered number) refl (sound_for w key.bytes) refl (ltb number (seen_last x)) refl (eqb (seen_at x) most_controllers) refl
      where
        go : (a : Bool) → numbered number ≡ a → (b : Bool) → sound_for w key.bytes ≡ b → (c : Bool) → ltb number (seen_last x) ≡ c →
            (d : Bool) → eqb (seen_at x) most_controllers ≡ d → first (shot_turns s w r t key number rate draw) ≡ m
        go false p b q c u d v = at-19 p ∙ sym (f ∙ rw p)
        go true p false q c u d v = at-unsound p q ∙ sym (f ∙ rw (p, sound-is, q))
        go true p true q true u d v = at-20 p q (ap (ltb number) (sym (last-is q)) ∙ u) ∙ sym (f ∙ rw (p, sound-is, q, u))
        go true p true q false u true v =
            let k = full q (eqb-true _ _ v) in
            at-21 p q (ap (ltb number) (sym (last-is q)) ∙ u) k.0 k.1 ∙ sym (f ∙ rw (p, sound-is, q, u, v))
        go true p true q false u false v = absurd (z (f ∙ rw (p, sound-is, q, u, v)))

    pub stopped : (m : ℕ) → m ≡ stops s x number → (m ≡ 0 → ⊥) → Told (shot s w r t key number rate draw) (refuse m) w r
    unfolding shot
    stopped m f z =
        let v = passed (is_held w key.bytes number) s w r t key number rate draw in
        rw (stop_is m f z) (told-refused m w r v z)

    -- ---- past that: what is known of the shot
    pub record Past : Type 0 where
      pub a-number : numbered number ≡ true
      pub sound : sound_for w key.bytes ≡ true
      pub high : ltb number (last_number w key.bytes) ≡ false
      pub placed : seen_at x ≢ most_controllers

    pub not_stopped : 0 ≡ stops s x number → Past
    unfolding stops
    not_stopped f = go (numbered number) refl (sound_for w key.bytes) refl (ltb number (seen_last x)) refl (eqb (seen_at x) most_controllers) refl
      where
        go : (a : Bool) → numbered number ≡ a → (b : Bool) → sound_for w key.bytes ≡ b → (c : Bool) → ltb number (seen_last x) ≡ c →
            (d : Bool) → eqb (seen_at x) most_controllers ≡ d → Past
        go false p b q c u d v = let n : ◌≡◌ {A = ℕ} 0 19 = f ∙ rw p in absurd (omega arith)
        go true p false q c u d v = absurd (unsoundness-some s (sym (f ∙ rw (p, sound-is, q))))
        go true p true q true u d v = let n : ◌≡◌ {A = ℕ} 0 20 = f ∙ rw (p, sound-is, q, u) in absurd (omega arith)
        go true p true q false u true v = let n : ◌≡◌ {A = ℕ} 0 21 = f ∙ rw (p, sound-is, q, u, v) in absurd (omega arith)
        go true p true q false u false v =
            record { a-number = p; sound = q; high = ap (ltb number) (sym (last-is q)) ∙ u; placed = eqb-false _ _ v }

    -- the last number again: nothing stops it
    again-past : again (seen_last x) number ≡ true → Past × (number ≡ seen_last x)
    unfolding again
    again-past a = (go (sound_for w key.bytes) refl (is_known w key.bytes) refl, same)
      where
        parts : (not (eqb (seen_last x) 0) ≡ true) × (eqb number (seen_last x) ≡ true)
        parts = and-true (not (eqb (seen_last x) 0)) _ a

        same : number ≡ seen_last x
        same = eqb-true _ _ parts.1

        some : seen_last x ≢ 0
        some = eqb-false _ _ (not-true _ parts.0)

        go : (b : Bool) → sound_for w key.bytes ≡ b → (k : Bool) → is_known w key.bytes ≡ k → Past
        go false q k u = absurd (some (ap seen_last e ∙ looked-nothing w key.bytes q))
        go true q false u = absurd (some (last-is q ∙ unknown-last w key.bytes u))
        go true q true u = record {
          a-number = rw (same ∙ last-is q) (sound-number w key.bytes q u);
          sound = q;
          high = let l = same ∙ last-is q in le-ltb number (last_number w key.bytes) (omega arith);
          placed = let l = known-stands w key.bytes u in let i = at-is q in let f = (sound-table w key.bytes q).few in λ m. omega arith;
        }

    module _ (o : Past) where
      -- the controller stands in the table, or there is room for it
      pub stands : Stands w key.bytes (seen_at x)
      stands =
          let t = sound-table w key.bytes o.sound in
          let l = entry-le w key.bytes in
          let a = at-is o.sound in
          record { table = t; entry = a; room = omega (arith, t.few, o.placed) }

      not_full : not (is_known w key.bytes) && eqb (known_of w) most_controllers ≡ false
      not_full = go (is_known w key.bytes) refl
        where
          go : (z : Bool) → is_known w key.bytes ≡ z → not z && eqb (known_of w) most_controllers ≡ false
          go true e = refl
          go false e =
              let a = at-is o.sound in
              let k = unknown-stands w key.bytes e in
              ne_eqb (known_of w) most_controllers (λ h. o.placed (omega arith))

      gate-none : first (gate_turns w key.bytes number) ≡ 0
      unfolding gate_turns first
      gate-none = rw (o.a-number, o.sound, o.high, not_full)

      -- a number that is the last is a known controller's: 0 is none
      held : number ≡ seen_last x → is_held w key.bytes number ≡ true
      unfolding is_held
      held h = go (is_known w key.bytes) refl
        where
          l : number ≡ last_number w key.bytes
          l = h ∙ last-is o.sound

          go : (z : Bool) → is_known w key.bytes ≡ z → sound_for w key.bytes && (is_known w key.bytes && eqb number (last_number w key.bytes)) ≡ true
          go true e = rw (o.sound, e, eq-eqb number (last_number w key.bytes) l)
          go false e = let m : number ≡ 0 = l ∙ unknown-last w key.bytes e in absurd (omega (arith, number_in number o.a-number))

      shot-held : number ≡ seen_last x → Told (shot s w r t key number rate draw) (Ok Held) w r
      unfolding shot
      shot-held h =
          let v = passed true s w r t key number rate draw in
          let n : first (gate_turns w key.bytes number ++ []) ≡ 0 = ap first (append-nil (gate_turns w key.bytes number)) ∙ gate-none in
          rw (held h) (told-passed (first (gate_turns w key.bytes number ++ [])) w r v n)

      -- a number that is not the last again is another one: it is above 0
      other : again (seen_last x) number ≡ false → number ≢ seen_last x
      unfolding again
      other a h =
          let z : seen_last x ≢ 0 = λ m. omega (arith, number_in number o.a-number) in
          false≢true (sym a ∙ rw (ne_eqb (seen_last x) 0 z, eq-eqb number (seen_last x) h))

      not-held : number ≢ seen_last x → is_held w key.bytes number ≡ false
      unfolding is_held
      not-held z = rw (o.sound, ne_eqb number (last_number w key.bytes) (λ h. z (h ∙ sym (last-is o.sound))), and-false)

      pub shot-passed : again (seen_last x) number ≡ false → asked s w r t key number rate draw ≡ shot s w r t key number rate draw
      shot-passed a = shot-asked o.sound gate-none (not-held (other a))

    pub shot-again : again (seen_last x) number ≡ true → Told (shot s w r t key number rate draw) (Ok Held) w r
    shot-again a = let p = again-past a in shot-held p.0 p.1
