-- What the code decides on an opened slot is what the rules say of what the key holds; so delete, setting a rate and a set are those that the contracts name.
-- Assumes nothing.
use Rattle.std.specs.Prelude.{◌≡◌, Bool, ◌&&◌, ◌||◌, ltb, Result, Ok, Err, Option, Some, None}
use Rattle.std.proofs.Math.Path.{refl, ap, ap₂}
use Rattle.std.proofs.Common.{sym, ◌∙◌, arith, ne_eqb, le-ltb}
use Rattle.std.proofs.Math.Bool.{true, false, not, cond}
use mathlib.Core.List.{List, []}
use Prim.Native.Nat.{ℕ, ◌-◌, ◌<◌}
use Rattle.std.proofs.Math.Decide.{dec_lt}
use Rattle.std.proofs.Math.Dec.{eqb}
use Rattle.parties.specs.Parties.{Sent, none_left}
use Rattle.common.specs.Comparator.{matches}
use Rattle.common.specs.Limits.{rate_back}
use Rattle.common.specs.Ranges.{and_no}
use Rattle.settings.specs.Settings.{window_in, factor_in}
use Rattle.settings.specs.Clock.{window_ticks, join_ticks}
use Rattle.settings.specs.declared.Settings.{Settings}
use Rattle.common.specs.declared.units.RateLimit.{RateLimit}
use Rattle.common.specs.declared.comparator.RateLimitComparator.{RateLimitComparator}
use Rattle.answers.specs.declared.ConditionalSetOutcome.{ConditionalSetOutcome}
use Rattle.answers.specs.declared.HistoryUpdateMode.{HistoryUpdateMode}
use Rattle.rules.specs.Buckets.{ahead, gone, live}
use Rattle.ring.specs.declared.Bucket.{Bucket}
use Rattle.ring.specs.Ring.{sum_of, counts}
use Rattle.rules.specs.declared.RoomKind.{RoomKind}
use Rattle.rules.specs.Held.{Held}
use Rattle.rules.specs.Both.{limit_in, divisor}
use Rattle.rules.specs.Sets as rules
use Rattle.change.specs.Words.{applied}
use Rattle.opened.specs.declared.Slot.{Slot}
use Rattle.judge.specs.Held.{held_in}
use Rattle.judge.specs.Judge.{slot_in}
use Rattle.judge.proofs.Verdict.{call-alike}
use Rattle.plan.specs.Plan.{place_of}
use Rattle.plan.specs.Seen.{Seen, seen, lacks-is}
use Rattle.shared_opened.specs.Opened.{deleted_at, old_rate_at}
use Rattle.sets_opened.specs.Sets.{already_at, idle_at, outcome_at, setting, set_own}
use Rattle.calls.specs.Delete as Delete
use Rattle.calls.specs.Rate as Rate
use Rattle.calls.specs.Set as Set
use Rattle.calls.specs.Opened.{delete_at, rate_at, set_at}
use Rattle.common.specs.Refusals.{refuse}
use Rattle.common.specs.declared.refusal.Refusal.{Refusal}

-- ---- of a slot x that is seen as h

module _ (s : Settings) (t : ℕ) (h : Held) (x : Slot) (o : Seen (window_ticks s) t true h x) where
  deleted-is : deleted_at x ≡ rules.deleted s t h
  unfolding deleted_at rules.deleted
  deleted-is =
      ap₂ (λ (y z : Bool). cond y (Some (x.pass.live_total - x.pass.live_declined)) (cond z (Some 0) None))
      o.series-is o.cached-is ∙
      ap₂ (λ (m n : ℕ). cond h.known (Some (m - n)) (cond h.cached (Some 0) None)) o.live-is o.declined-is

  old-is : (kind : RoomKind) → old_rate_at kind s x ≡ rules.old_rate kind s h
  unfolding old_rate_at rules.old_rate
  old-is kind = go h.known refl
    where
      was : ℕ → Option RateLimit
      was n = Some (record { 0 = rate_back (window_in s) (divisor kind (factor_in s)) n })

      go : (z : Bool) → h.known ≡ z → cond x.series (was x.limit) None ≡ cond h.known (was h.limit) None
      go true e =
          ap (λ (y : Bool). cond y (was x.limit) None) (o.series-is ∙ e) ∙ ap was (o.limit_is e) ∙
          sym (ap (λ (y : Bool). cond y (was h.limit) None) e)
      go false e = ap (λ (y : Bool). cond y (was x.limit) None) (o.series-is ∙ e) ∙ sym (ap (λ (y : Bool). cond y (was h.limit) None) e)

  -- a count above 0 is no unknown key's, so its limit is not asked for
  module _ (limit count : ℕ) (mode : HistoryUpdateMode) where
    nothing : (z : Bool) (n l : ℕ) → Dec (0 < n) → z && (ltb 0 n && (eqb 0 n && (eqb 0 0 && eqb l limit))) ≡ false
    nothing false n l d = refl
    nothing true n l (yes e) = ap (λ (z : Bool). ltb 0 n && (z && (eqb 0 0 && eqb l limit))) (ne_eqb 0 n (λ z. omega arith)) ∙ and_no (ltb 0 n)
    nothing true n l (no e) = ap (λ (z : Bool). z && (eqb 0 n && (eqb 0 0 && eqb l limit))) (le-ltb 0 n (omega arith))

    same : ℕ → ℕ → ℕ → Bool
    same total n l = rules.preserves mode && (ltb 0 count && (eqb total count && (eqb n 0 && eqb l limit)))

    already-is : already_at x limit count mode ≡ rules.already s t limit count mode h
    unfolding already_at rules.already same ahead sum_of
    already-is = ap₂ (λ (m n : ℕ). same m n x.limit) o.live-is o.gone-is ∙ go h.known refl
      where
        empty : (l : ℕ) → h.known ≡ false → same (counts (live (window_ticks s) t h.buckets)) (gone (window_ticks s) t h.buckets) l ≡ false
        empty l e = ap (λ (ys : List Bucket). same (counts (live (window_ticks s) t ys)) (gone (window_ticks s) t ys) l) (o.absent e) ∙
            nothing (rules.preserves mode) count l (dec_lt 0 count)

        go : (z : Bool) → h.known ≡ z → same (counts (live (window_ticks s) t h.buckets)) (gone (window_ticks s) t h.buckets) x.limit ≡
            same (counts (live (window_ticks s) t h.buckets)) (gone (window_ticks s) t h.buckets) h.limit
        go true e = ap (same (counts (live (window_ticks s) t h.buckets)) (gone (window_ticks s) t h.buckets)) (o.limit_is e)
        go false e = empty x.limit e ∙ sym (empty h.limit e)

    pub idle-is : (comparator : RateLimitComparator) → idle_at x limit comparator count mode ≡ rules.idle s t limit comparator count mode h
    unfolding idle_at rules.idle
    idle-is comparator =
        ap₂ (λ (n : ℕ) (y : Bool). not (matches comparator n) || (not y && eqb count 0 || already_at x limit count mode)) o.live-is o.series-is ∙
        ap (λ (z : Bool). not (rules.met s t comparator h) || (not h.known && eqb count 0 || z)) already-is

  outcome-is : (still : Bool) (comparator : RateLimitComparator) (count : ℕ) → outcome_at x still comparator count ≡ rules.outcome s t still comparator count h
  unfolding outcome_at rules.outcome
  outcome-is still comparator count =
      ap (λ (n : ℕ). record { matched = matches comparator n; previous_total = n; current_total = cond still n count }) o.live-is

-- ---- so the calls are those that the contracts name

module _ (kind : RoomKind) (s : Settings) (w : List ℕ) (t : ℕ) (key : Sent) where
  abbrev x : Slot
  x = slot_in s w t key

  abbrev h : Held
  h = held_in w key

  pub delete-opened : delete_at kind s w t key ≡ Delete.delete kind s w t key
  unfolding Delete.delete
  delete-opened =
      call-alike refuse kind s w t key [] [] _ _ (λ p. record { owns = refl; answers = ap Ok (deleted-is s t h x (seen kind s w t key p)); wordings = refl })

  pub rate-opened : (rate : RateLimit) → rate_at kind s w t key rate ≡ Rate.set_rate_limit kind s w t key rate
  unfolding Rate.set_rate_limit
  rate-opened rate =
      call-alike refuse kind s w t key _ _ _ _ (λ p. record { owns = refl; answers = ap Ok (old-is s t h x (seen kind s w t key p) kind); wordings = refl })

  pub set-opened : (rate : RateLimit) (comparator : RateLimitComparator) (count : ℕ) (mode : HistoryUpdateMode) →
      set_at kind s w t key rate comparator count mode ≡ Set.set kind s w t key rate comparator count mode
  unfolding Set.set set_own
  set-opened rate comparator count mode =
      call-alike refuse kind s w t key _ _ _ _
      (λ p.
      let o = seen kind s w t key p in
      let limit = limit_in kind s rate in
      let still = rules.still_for kind s t rate comparator count mode h in
      let i = idle-is s t h x o limit count mode comparator in
      record {
        owns = ap₂ (λ (y z : Bool). set_own rate count (not y && z)) i (lacks-is (window_ticks s) t true h x o (none_left w key.caller));
        answers =
            ap (λ (z : Bool). Ok (outcome_at x z comparator count)) i ∙
            ap (λ (c : ConditionalSetOutcome). Ok c) (outcome-is s t h x o still comparator count);
        wordings = ap (λ (z : Bool). applied w (place_of w x) key (join_ticks s) t (setting x z limit count mode)) i;
      })
