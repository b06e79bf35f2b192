-- That demand 3 is sharp in each clause, the span and the look back in both clock modes: with a larger span, a lower limit or one call more that is let
-- pass the ceiling fails, and with a shorter look back or a higher limit the floor. Each by a history of a few calls that the checker computes
-- (`Histories.antt`). P is what is asked of the calls otherwise: the mission's wording, or anything that asks for less, as `Spares` does (`alone-spares`).
-- Assumes nothing.
use Rattle.std.specs.Prelude.{◌≡◌, refl, Bool, List, [], ◌∷◌, ℕ, ◌+◌, ◌-◌, ◌≤◌, ◌<◌, Float, get_or}
use Rattle.std.proofs.Common.{sym, ap, ◌∙◌, inl, inr, arith}
use Rattle.answers.specs.Rows.{decision_row}
use Rattle.answers.specs.declared.RateLimitDecision.{RateLimitDecision}
use Rattle.answers.specs.declared.RateLimitDecision.TheVariants as decided
use Rattle.common.specs.declared.units.RateLimit.{RateLimit}
use Rattle.settings.specs.Settings.{ten_seconds}
use Rattle.settings.specs.Clock.{window_ticks, join_ticks}
use Rattle.settings.specs.declared.ClockMode.{ClockMode}
use Rattle.settings.specs.declared.ClockMode.TheVariants.{Milliseconds, Nanoseconds}
use Rattle.settings.specs.declared.Settings.{Settings}
use Rattle.frame.specs.Keys.{Bytes}
use Rattle.rules.specs.declared.RoomKind.TheVariants as kind
use Rattle.admissions.specs.Log.{aged}
use Rattle.steps.specs.Ops.{Op, draws, snapshot, set_rate, delete, clear, Call, words}
use Rattle.demand3.specs.History.{Same, IsKey, admitted, hard_of, soft_of, Clause, Or, AllBy, Gives, LeavesAlone}
use Rattle.demand3.specs.Demand3.{less_bucket, look_back, Ceiling, increment, Floor}
use Rattle.sharp.specs.Histories.{one, two, doubled, nano, room, caller, key, ten_once, expired, nano_expired, cleaned, around, lowers, begun, spent}
use Rattle.sharp.specs.Histories.{answer_to}
use Rattle.sharp.proofs.Histories.{computed}
use Rattle.sharp.specs.Sharp.{one_in, Cleans, Sets, Deletes, Clears, Rates, Increments}

fine : IsKey key
fine = record { party = refl; bytes = λ i. omega arith; short = omega arith }

-- an increment of the key at its rate is by `LeavesAlone`
own : Bytes key.bytes × (Same key key → one ≡ one)
own = (fine.bytes, λ e. refl)

-- calls that are by the clause, and that are admitted n in a span, more than the limit
breaks_in : (s : Settings) (span : Settings → ℕ) (limit : Settings → RateLimit → ℕ) (Q : Clause) (calls : List (Call kind.Suppressed)) (from n : ℕ) →
    join_ticks s ≤ window_ticks s → AllBy Q s key one room calls → spent s from (from + span s) calls ≡ n → limit s one < n → Ceiling span limit Q → ⊥
breaks_in s span limit Q calls from n le p e h f =
    let g : spent s from (from + span s) calls ≤ limit s one = f s 1 2 key one calls fine le p from in
    absurd (omega (arith, e, h, g))

breaks : (span : Settings → ℕ) (limit : Settings → RateLimit → ℕ) (Q : Clause) (calls : List (Call kind.Suppressed)) (from n : ℕ) →
    AllBy Q ten_seconds key one room calls → spent ten_seconds from (from + span ten_seconds) calls ≡ n → limit ten_seconds one < n → Ceiling span limit Q → ⊥
breaks span limit Q calls from n = breaks_in ten_seconds span limit Q calls from n (omega arith)

-- n counted after the calls, at most the limit with what is admitted, that are answered Suppressed
falls : (back : Settings → ℕ) (limit : Settings → RateLimit → ℕ) (Q : Clause) (s : Settings) (calls : List (Call kind.Suppressed)) (t n : ℕ) (x : Float)
    (is : Bool) → join_ticks s ≤ window_ticks s → AllBy Q s key one room (increment t key one n 0 ∷ calls) → answer_to s calls t n ≡ decided.Suppressed x is →
    n + aged (back s) t (admitted s key room calls) ≤ limit s one → Floor back limit Q → ⊥
unfolding decision_row
falls back limit Q s calls t n x is le p e h f =
    let a = f s 1 2 key one calls t one n 0 fine le p (ap (λ (d : RateLimitDecision). get_or (decision_row d) 0 0) e) h in
    let c : ◌≡◌ {A = ℕ} 3 1 = ap (λ (d : RateLimitDecision). get_or (decision_row d) 1 0) (sym e ∙ a) in
    absurd (omega (arith, c))

-- ---- the clauses of the demand; P is `LeavesAlone`, or a clause that asks for less

module _ (P : Clause) (less : Gives LeavesAlone P) where
  counts : {s : Settings} {w : List ℕ} {t n : ℕ} → P s key one w t (draws key one n 0)
  counts {s} {w} {t} {n} = less s key one w t (draws key one n 0) own

  -- the span: one tick more, of either clock mode alone
  pub span-sharp : (mode : ClockMode) → Ceiling (λ s. less_bucket s + one_in mode s.clock_mode) hard_of P → ⊥
  span-sharp Milliseconds =
      breaks (λ s. less_bucket s + one_in Milliseconds s.clock_mode) hard_of P expired 100 20 (counts, (counts, (counts, tt))) computed.expires
      (omega (arith, computed.hard))
  span-sharp Nanoseconds =
      breaks_in nano (λ s. less_bucket s + one_in Nanoseconds s.clock_mode) hard_of P nano_expired 100999999 20 (omega arith)
      (counts, (less nano key one _ 10000000001 (snapshot key) fine.bytes, (counts, (counts, tt)))) computed.nano-expires
      (omega (arith, computed.nano-hard))

  -- the hard limit: it is reached
  pub hard-sharp : Ceiling less_bucket (λ s rate. hard_of s rate - 1) P → ⊥
  hard-sharp =
      breaks less_bucket (λ s rate. hard_of s rate - 1) P ten_once 0 10 (counts, tt) computed.reaches (omega (arith, computed.hard))

  pub stale-sharp : Ceiling less_bucket hard_of (Or P Cleans) → ⊥
  stale-sharp =
      breaks less_bucket hard_of (Or P Cleans) cleaned 100 20
      (inl counts, (inr refl, (inl counts, (inl counts, tt)))) computed.cleans (omega (arith, computed.hard))

  -- a call between 10 counted and n more, with which the key is admitted m
  between-sharp : (Q : Clause) (op : Op kind.Suppressed) (n m : ℕ) → Q ten_seconds key one (words kind.Suppressed ten_seconds room ten_once) 0 op →
      spent ten_seconds 0 9900 (around op n) ≡ m → 10 < m → Ceiling less_bucket hard_of (Or P Q) → ⊥
  between-sharp Q op n m q e h =
      breaks less_bucket hard_of (Or P Q) (around op n) 0 m (inl counts, (inr q, (inl counts, tt))) e (omega (arith, h, computed.hard))

  pub set-sharp : Ceiling less_bucket hard_of (Or P Sets) → ⊥
  set-sharp = between-sharp Sets lowers 1 11 (9, refl) computed.sets (omega arith)

  pub delete-sharp : Ceiling less_bucket hard_of (Or P Deletes) → ⊥
  delete-sharp = between-sharp Deletes (delete key) 10 20 refl computed.deletes (omega arith)

  pub clear-sharp : Ceiling less_bucket hard_of (Or P Clears) → ⊥
  clear-sharp = between-sharp Clears (clear caller) 10 20 refl computed.clears (omega arith)

  pub rate-sharp : Ceiling less_bucket hard_of (Or P Rates) → ⊥
  rate-sharp = between-sharp Rates (set_rate key two) 10 20 (two, refl) computed.rates (omega arith)

  pub increment-sharp : Ceiling less_bucket hard_of (Or P Increments) → ⊥
  increment-sharp =
      breaks less_bucket hard_of (Or P Increments) begun 0 20 (inr (two, (20, refl)), tt) computed.begins (omega (arith, computed.hard))

  -- the floor's look back: one tick less, of either clock mode alone
  pub window-sharp : (mode : ClockMode) → Floor (λ s. look_back s - one_in mode s.clock_mode) soft_of P → ⊥
  window-sharp Milliseconds =
      falls (λ s. look_back s - one_in Milliseconds s.clock_mode) soft_of P ten_seconds ten_once 10000 1 _ _ (omega arith) (counts, (counts, tt))
      computed.over
      (omega (arith, computed.past, computed.soft))
  window-sharp Nanoseconds =
      falls (λ s. look_back s - one_in Nanoseconds s.clock_mode) soft_of P nano ten_once 10000999999 1 _ _ (omega arith) (counts, (counts, tt))
      computed.nano-over (omega (arith, computed.nano-past, computed.nano-soft))

  -- its soft limit: one more
  pub soft-sharp : Floor look_back (λ s rate. soft_of s rate + 1) P → ⊥
  soft-sharp =
      falls look_back (λ s rate. soft_of s rate + 1) P doubled [] 0 11 _ _ (omega arith) (counts, tt) computed.between
      (omega (arith, computed.soft-doubled))
