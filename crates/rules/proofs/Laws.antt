-- What follows from the rules alone: what a decision admits by its forecast, that a key which counted nothing is admitted, and that 10 and 12 speak of
-- live buckets.
-- Assumes nothing.
use Rattle.std.specs.Prelude.{◌≡◌, Bool, not, ◌&&◌, ◌||◌, cond, List, [], ◌∷◌, ℕ, ◌+◌, ◌-◌, ◌≤◌, ◌<◌, Float, length, get_or, drop}
use Rattle.std.proofs.Math.Path.{refl, ap}
use Rattle.std.proofs.Common.{sym, ap₂, ◌∙◌, arith, length-drop, get_or-drop, eq-eqb, le-leb, lt-ltb, le-ltb, eqb-true, leb-true, leb-false, ltb-true, ltb-false}
use Rattle.std.proofs.Math.Bool.{true, false}
use Rattle.std.proofs.lemmas.Bool.{false≢true, lt-leb}
use Rattle.std.proofs.Math.Dec.{leb, ltb, eqb}
use Rattle.base.specs.Decides.{and-true}
use Rattle.suppression.specs.Factor.{fresh_factor, admitted}
use Rattle.common_laws.specs.FactorLaws.{fresh-none, nil-admits}
use Rattle.common.specs.Limits.{cut_word, soft_word}
use Rattle.common.specs.Ranges.{nil, one}
use Rattle.settings.specs.Settings.{window_in, factor_in}
use Rattle.settings.specs.Clock.{ticks_in, window_ticks, join_ticks, longest}
use Rattle.settings.specs.declared.Settings.{Settings}
use Rattle.answers.specs.declared.HistoryUpdateMode.{HistoryUpdateMode}
use Rattle.common.specs.declared.units.RateLimit.{RateLimit}
use Rattle.answers.specs.declared.RateLimitDecision.TheVariants.{Allowed, Suppressed}
use Rattle.rules.specs.Buckets.{older, recent, gone, out_if, newest, joins, last_second}
use Rattle.ring.specs.declared.Bucket.{Bucket}
use Rattle.layout.specs.Layout.{most_total}
use Rattle.ring.specs.Ring.{no_bucket, sum_of, counts, declineds}
use Rattle.ring.specs.Sums.{sum-split}
use Rattle.rules.specs.declared.Asked.{Asked}
use Rattle.rules.specs.declared.FactorRule.TheVariants.{Nil, One, Worked}
use Rattle.rules.specs.declared.Reach.{Reach}
use Rattle.rules.specs.declared.Reach.TheVariants.{Hard, Soft, Over, Between}
use Rattle.rules.specs.Held.{Held}
use Rattle.rules.specs.Both.{live_of, overdue_in, looked_of, passes, ring_full}
use Rattle.rules.specs.Absolute as absolute
use Rattle.rules.specs.Sets as sets
use Rattle.rules.specs.Suppressed as suppressed
use Rattle.rules.specs.Suppressed.{admits, clauses, fresh_by, fresh_on, as_cached, usable, asked, forecast, reach_of, declined_by, drawn, outcome_of, outcome}

-- ---- a decision by its forecast n

module _ (n S H : ℕ) (a : Asked) (t c draw : ℕ) where
  by_tests : (P : Reach → Type 0) → (n ≡ H → P Hard) → (n ≤ S → P Soft) → (S < n → H < n → P Over) → (S < n → n ≤ H → P Between) → P (reach_of n S H)
  unfolding reach_of
  by_tests P h f g k = go (eqb n H) (leb n S) (ltb H n) refl refl refl
    where
      go : (x y z : Bool) → eqb n H ≡ x → leb n S ≡ y → ltb H n ≡ z → P (cond x Hard (cond y Soft (cond z Over Between)))
      go true y z e i j = h (eqb-true n H e)
      go false true z e i j = f (leb-true n S i)
      go false false true e i j = g (leb-false n S i) (ltb-true H n j)
      go false false false e i j = k (leb-false n S i) (ltb-false H n j)

  -- what is admitted does not pass the hard limit
  pub reach-admits : S ≤ H → admits (outcome_of (reach_of n S H) a t c draw).decision ≡ true → n ≤ H
  reach-admits l =
      by_tests (λ (r : Reach). admits (outcome_of r a t c draw).decision ≡ true → n ≤ H) (λ h e. omega arith) (λ h e. omega arith)
      (λ h k e. absurd (false≢true e)) (λ h k e. k)

  -- "At most S, or equal to H: Allowed"
  pub reach-soft : n ≤ S → (outcome_of (reach_of n S H) a t c draw).decision ≡ Allowed
  reach-soft l =
      by_tests (λ (r : Reach). (outcome_of r a t c draw).decision ≡ Allowed) (λ h. refl) (λ h. refl) (λ h k. absurd (omega arith)) (λ h k. absurd (omega arith))

  pub reach-hard : n ≡ H → (outcome_of (reach_of n S H) a t c draw).decision ≡ Allowed
  unfolding reach_of
  reach-hard e = ap (λ (x : Bool). (outcome_of (cond x Hard (cond (leb n S) Soft (cond (ltb H n) Over Between))) a t c draw).decision) (eq-eqb n H e)

  -- "Over H: .. not admitted"
  pub reach-over : S ≤ H → H < n → (outcome_of (reach_of n S H) a t c draw).decision ≡ Suppressed one false
  reach-over l g =
      by_tests (λ (r : Reach). (outcome_of r a t c draw).decision ≡ Suppressed one false) (λ h. absurd (omega arith)) (λ h. absurd (omega arith)) (λ h k. refl)
      (λ h k. absurd (omega arith))

-- "Count, and declined if not admitted": all of it, or none
pub declined-all : (r : Reach) (a : Asked) (t c draw : ℕ) → (outcome_of r a t c draw).declined ≡ declined_by (admits (outcome_of r a t c draw).decision) c
unfolding drawn
declined-all Hard a t c draw = refl
declined-all Soft a t c draw = refl
declined-all Over a t c draw = refl
declined-all Between a t c draw = refl

-- ---- a slow key after an empty call (document 02, ticket 2): where nothing was counted, the fresh factor is 0 and "the shot is admitted"

-- the counts of the last second are among all
pub recent-among : (w t : ℕ) (xs : List Bucket) → counts (recent w t xs) ≤ counts xs
unfolding recent sum_of
recent-among w t [] = omega arith
recent-among w t (x ∷ xs) = go (older w t x) (recent-among w t xs)
  where
    go : (o : Bool) → counts (recent w t xs) ≤ counts xs → counts (cond o (recent w t xs) (x ∷ recent w t xs)) ≤ x.count + counts xs
    go true h = omega arith
    go false h = omega arith

-- of buckets that counted nothing, below the hard limit: whichever clause it is by
fresh-by-none : (S H W last declined : ℕ) (none : Bool) → 1 ≤ W → W ≤ 33554432 → 0 < H → last ≡ 0 → fresh_by (clauses S H none 0 declined) S 0 W last ≡ nil
fresh-by-none S H W last declined none low high h e = go none (leb H 0) (ltb (0 - declined) S) (eqb (0 - declined) S && eqb S H) (lt-leb H 0 h) refl
  where
    worked : fresh_factor S 0 W last ≡ nil
    worked = ap (fresh_factor S 0 W) e ∙ fresh-none S W low high

    -- accepted = S = H is not met: accepted is 0
    not-both : (m : ℕ) → m ≡ 0 → eqb m S && eqb S H ≡ true → ⊥
    not-both m z f = let a = and-true (eqb m S) _ f in omega (arith, eqb-true m S a.0, eqb-true S H a.1)

    go : (a b c d : Bool) → b ≡ false → eqb (0 - declined) S && eqb S H ≡ d →
        fresh_by (cond a Nil (cond b One (cond c Nil (cond d One Worked)))) S 0 W last ≡ nil
    go true b c d f g = refl
    go false true c d f g = absurd (false≢true (sym f))
    go false false true d f g = refl
    go false false false true f g = absurd (not-both (0 - declined) (omega arith) g)
    go false false false false f g = worked

module _ (s : Settings) (t limit : ℕ) (h : Held) (low : 1 ≤ window_in s) (high : window_in s ≤ 33554432) (out : Bool)
    (none : counts (out_if out (window_ticks s) t h.buckets) ≡ 0) (anew : usable s t out h ≡ false) where
  pub empty-factor : 0 < cut_word limit → (asked s t out limit h).factor ≡ nil
  unfolding asked
  empty-factor l =
      let xs = out_if out (window_ticks s) t h.buckets in
      let S = soft_word (factor_in s) limit in
      let H = cut_word limit in
      let last = last_second (ticks_in s) t xs in
      ap (λ (z : Bool). (cond z (as_cached h.factor) (fresh_on S H (window_in s) (ticks_in s) t xs)).factor) anew ∙
      ap (λ (n : ℕ). fresh_by (clauses S H (eqb (length xs) 0) n (declineds xs)) S n (window_in s) last) none ∙
      fresh-by-none S H (window_in s) last (declineds xs) (eqb (length xs) 0) low high l (omega (arith, recent-among (longest (ticks_in s) 1000) t xs))

-- a count up to the hard limit, whatever the draw
pub empty-admits : (s : Settings) (t limit : ℕ) (h : Held) → 1 ≤ window_in s → window_in s ≤ 33554432 → counts (looked_of s t h) ≡ 0 →
    usable s t (overdue_in s t h) h ≡ false → (c draw : ℕ) → c ≤ cut_word limit → admits (outcome s t limit c draw h).decision ≡ true
unfolding outcome drawn
empty-admits s t limit h low high none anew c draw l =
    let n = forecast (looked_of s t h) c in
    let S = soft_word (factor_in s) limit in
    let H = cut_word limit in
    let e : n ≡ c = omega arith in
    let a = asked s t (overdue_in s t h) limit h in
    by_tests n S H a t c draw (λ (r : Reach). admits (outcome_of r a t c draw).decision ≡ true)
    (λ k. refl) (λ k. refl) (λ j k. absurd (omega arith))
    (λ j k. ap (λ (f : Float). admitted f draw) (empty-factor s t limit h low high (overdue_in s t h) none anew (omega arith)) ∙ nil-admits draw)

-- ---- "Refusing 12 while an absolute ring is full of expired buckets" is a slip: 12 is met only where live buckets fill the ring, and 10 only where live
-- counts pass 2^53

-- a ring that is full has as many buckets as it holds
full-long : (r b t : ℕ) (xs : List Bucket) → ring_full r b t xs ≡ true → r ≤ length xs
unfolding ring_full
full-long r b t xs e = leb-true r (length xs) (and-true (not (joins b t xs)) _ e).1

passes_over : (c n : ℕ) → passes c n ≡ true → most_total < n + c
unfolding passes
passes_over c n e = ltb-true most_total (n + c) e

-- the newest stays the newest
pub newest-drop : (k : ℕ) (xs : List Bucket) → k < length xs → newest (drop k xs) ≡ newest xs
newest-drop k xs h =
    let e : k + (length (drop k xs) - 1) ≡ length xs - 1 = omega (arith, length-drop k xs) in
    get_or-drop k xs (length (drop k xs) - 1) no_bucket ∙ ap (λ (i : ℕ). get_or xs i no_bucket) e

joins-drop : (b t k : ℕ) (xs : List Bucket) → k < length xs → joins b t (drop k xs) ≡ joins b t xs
unfolding joins
joins-drop b t k xs h =
    ap₂ (λ (x : Bool) (y : Bucket). x && leb (t - y.time) b)
    (lt-ltb 0 (length (drop k xs)) (omega (arith, length-drop k xs)) ∙ sym (lt-ltb 0 (length xs) (omega arith)))
    (newest-drop k xs h)

-- what does not meet 10 or 12 with all its buckets does not with the live ones
passes-drop : (c k : ℕ) (xs : List Bucket) → passes c (counts xs) ≡ false → passes c (counts (drop k xs)) ≡ false
unfolding passes
passes-drop c k xs e =
    le-ltb most_total (counts (drop k xs) + c) (omega (arith, ltb-false most_total (counts xs + c) e, sum-split (λ (x : Bucket). x.count) k xs))

full-drop : (r b t k : ℕ) (xs : List Bucket) → 1 ≤ r → ring_full r b t xs ≡ false → ring_full r b t (drop k xs) ≡ false
unfolding ring_full
full-drop r b t k xs l e = go (not (joins b t (drop k xs)) && leb r (length (drop k xs))) refl
  where
    go : (z : Bool) → not (joins b t (drop k xs)) && leb r (length (drop k xs)) ≡ z → not (joins b t (drop k xs)) && leb r (length (drop k xs)) ≡ false
    go false f = f
    go true f =
        let n = leb-true r (length (drop k xs)) (and-true (not (joins b t (drop k xs))) _ f).1 in
        let h : k < length xs = omega (arith, length-drop k xs) in
        let whole : not (joins b t xs) && leb r (length xs) ≡ true =
        ap₂ (λ (x y : Bool). not x && y) (sym (joins-drop b t k xs h)) (le-leb r (length xs) (omega (arith, length-drop k xs)) ∙ sym (le-leb r _ n)) ∙ f in
        absurd (false≢true (sym e ∙ whole))

-- xs are the key's live buckets, or in the suppressed limiter those that its first look leaves
pub record Live (r c : ℕ) (ten twelve : Bool) (xs : List Bucket) : Type 0 where
  pub ten-live : ten ≡ true → most_total < counts xs + c
  pub twelve-live : twelve ≡ true → r ≤ length xs

by-live : (r b t c : ℕ) (xs : List Bucket) → Live r c (passes c (counts xs)) (ring_full r b t xs) xs
by-live r b t c xs = record { ten-live = passes_over c (counts xs); twelve-live = full-long r b t xs }

-- where the expired buckets are not out, neither is met
module _ (s : Settings) (r t c : ℕ) (h : Held) where
  kept-fits : absolute.out_for s r t c h ≡ false → (passes c (counts h.buckets) ≡ false) × (ring_full r (join_ticks s) t h.buckets ≡ false)
  unfolding absolute.takes_out
  kept-fits e = parts (absolute.tests_again (absolute.whole_limit h) h.buckets) (passes c (counts h.buckets)) (ring_full r (join_ticks s) t h.buckets) e
    where
      parts : (x y z : Bool) → x || (y || z) ≡ false → (y ≡ false) × (z ≡ false)
      parts true y z e = absurd (false≢true (sym e))
      parts false true z e = absurd (false≢true (sym e))
      parts false false z e = (refl, e)

  found-live : Live r c (passes c (counts (absolute.found_for s r t c h))) (ring_full r (join_ticks s) t (absolute.found_for s r t c h)) (live_of s t h)
  found-live = go (absolute.out_for s r t c h) refl
    where
      go : (z : Bool) → absolute.out_for s r t c h ≡ z →
          Live r c (passes c (counts (out_if z (window_ticks s) t h.buckets)))
          (ring_full r (join_ticks s) t (out_if z (window_ticks s) t h.buckets)) (live_of s t h)
      go true e = by-live r (join_ticks s) t c (live_of s t h)
      go false e =
          let k = kept-fits e in
          record { ten-live = λ f. absurd (false≢true (sym k.0 ∙ f)); twelve-live = λ f. absurd (false≢true (sym k.1 ∙ f)) }

  -- so whether they are out or not, it is the live ones that count
  found-exactly : 1 ≤ r → (passes c (counts (absolute.found_for s r t c h)) ≡ passes c (counts (live_of s t h))) ×
      (ring_full r (join_ticks s) t (absolute.found_for s r t c h) ≡ ring_full r (join_ticks s) t (live_of s t h))
  found-exactly l = go (absolute.out_for s r t c h) refl
    where
      go : (z : Bool) → absolute.out_for s r t c h ≡ z →
          (passes c (counts (out_if z (window_ticks s) t h.buckets)) ≡ passes c (counts (live_of s t h))) ×
          (ring_full r (join_ticks s) t (out_if z (window_ticks s) t h.buckets) ≡ ring_full r (join_ticks s) t (live_of s t h))
      go true e = (refl, refl)
      go false e =
          let k = kept-fits e in
          let n = gone (window_ticks s) t h.buckets in
          (k.0 ∙ sym (passes-drop c n h.buckets k.0), k.1 ∙ sym (full-drop r (join_ticks s) t n h.buckets l k.1))

-- the condition of a number in a list of refusals, false where it does not stand there
abbrev pub condition : ℕ → List (ℕ × Bool) → Bool
condition n [] = false
condition n (x ∷ xs) = cond (eqb x.0 n) x.1 (condition n xs)

-- an increment that meets 10 or 12, of either limiter
pub absolute-live : (s : Settings) (r : ℕ) (full : Bool) (t : ℕ) (rate : RateLimit) (c : ℕ) (h : Held) →
    let turns = absolute.inc_turns s r full t rate c h in Live r c (condition 10 turns) (condition 12 turns) (live_of s t h)
absolute-live s r full t rate c h =
    let o = found-live s r t c h in
    record {
      ten-live = λ e. o.ten-live (and-true (absolute.allowed s t h) _ e).1;
      twelve-live = λ e. o.twelve-live (and-true (absolute.allowed s t h) _ e).1;
    }

pub suppressed-live : (s : Settings) (r : ℕ) (full : Bool) (t : ℕ) (rate : RateLimit) (c draw : ℕ) (h : Held) →
    let turns = suppressed.inc_turns s r full t rate c draw h in Live r c (condition 10 turns) (condition 12 turns) (looked_of s t h)
suppressed-live s r full t rate c draw h = by-live r (join_ticks s) t c (looked_of s t h)

-- and exactly there: the key is allowed, and its live buckets meet the number
pub absolute-exactly : (s : Settings) (r : ℕ) (full : Bool) (t : ℕ) (rate : RateLimit) (c : ℕ) (h : Held) → 1 ≤ r →
    let turns = absolute.inc_turns s r full t rate c h in
    (condition 10 turns ≡ (absolute.allowed s t h && passes c (counts (live_of s t h)))) ×
    (condition 12 turns ≡ (absolute.allowed s t h && ring_full r (join_ticks s) t (live_of s t h)))
absolute-exactly s r full t rate c h l =
    let o = found-exactly s r t c h l in
    (ap (λ (z : Bool). absolute.allowed s t h && z) o.0, ap (λ (z : Bool). absolute.allowed s t h && z) o.1)

pub suppressed-exactly : (s : Settings) (r : ℕ) (full : Bool) (t : ℕ) (rate : RateLimit) (c draw : ℕ) (h : Held) →
    let turns = suppressed.inc_turns s r full t rate c draw h in
    (condition 10 turns ≡ passes c (counts (looked_of s t h))) × (condition 12 turns ≡ ring_full r (join_ticks s) t (looked_of s t h))
suppressed-exactly s r full t rate c draw h = (refl, refl)

-- ---- a set of a key that is unknown, or has an expired bucket, or another limit: what changes nothing

-- "Preserve has an equal count above 0, no expired bucket and the same limit"
pub already-live : (s : Settings) (t limit count : ℕ) (mode : HistoryUpdateMode) (h : Held) → sets.already s t limit count mode h ≡ true →
    (counts h.buckets ≡ count) × (h.limit ≡ limit)
unfolding sets.already
already-live s t limit count mode h e =
    let a = (and-true (sets.preserves mode) _ e).1 in
    let b = (and-true (ltb 0 count) _ a).1 in
    let c = and-true (eqb (counts (live_of s t h)) count) _ b in
    let d = and-true (eqb (gone (window_ticks s) t h.buckets) 0) _ c.1 in
    let n : gone (window_ticks s) t h.buckets ≡ 0 = eqb-true (gone (window_ticks s) t h.buckets) 0 d.0 in
    (ap (λ (k : ℕ). counts (drop k h.buckets)) (sym n) ∙ eqb-true (counts (live_of s t h)) count c.0, eqb-true h.limit limit d.1)
