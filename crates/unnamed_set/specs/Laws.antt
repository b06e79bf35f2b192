-- What the code has judged is what `refusal` says; and what is judged without comparator and mode is what a set judges with them, whichever they are.
-- Assumes nothing.
use Rattle.std.proofs.Math.Path.{◌≡◌, refl, sym}
use Rattle.std.proofs.Common.{ap, ◌∙◌, arith}
use Rattle.std.specs.Prelude.{Bool, not, ◌&&◌, ◌≢◌, ℕ, ltb, Ok, Err}
use Rattle.std.proofs.Math.Bool.{true, false, cond}
use mathlib.Core.List.{List, [], ◌∷◌, ◌++◌}
use Rattle.std.proofs.Math.Decide.{ℕ_discrete}
use Rattle.parties.specs.Parties.{Sent}
use Rattle.common.specs.Refusals.{first, ruled}
use Rattle.common.specs.declared.units.RateLimit.{RateLimit}
use Rattle.common.specs.declared.comparator.RateLimitComparator.{RateLimitComparator}
use Rattle.answers.specs.declared.HistoryUpdateMode.{HistoryUpdateMode}
use Rattle.settings.specs.declared.Settings.{Settings}
use Rattle.layout.specs.Layout.{most_total}
use Rattle.rules.specs.declared.RoomKind.{RoomKind}
use Rattle.rules.specs.Both.{unrated}
use Rattle.rules.specs.Held.{Held, lacks_slot}
use Rattle.rules.specs.Sets.{still_for, set_turns}
use Rattle.judge.specs.declared.Judged.{Judged}
use Rattle.judge.specs.Judge.{refusals, early, judged, slot_in}
use Rattle.judge.proofs.Laws.{judged-ok, judged-err, refused-early, refused-own}
use Rattle.common.specs.declared.refusal.Refusal.{Refusal}
use Rattle.common.proofs.Ruled.{ruled-err}
use Rattle.sets_opened.specs.Sets.{set_own}
use Rattle.unnamed_set.specs.Unnamed.{bad_call, blind_turns, refusal}

-- ---- the code

module _ (kind : RoomKind) (s : Settings) (w : List ℕ) (t : ℕ) (key : Sent) (rate : RateLimit) (count : ℕ) where
  pub refusal-early : (r : Refusal) → Err r ≡ judged kind s w t key → r.0 ≡ refusal kind s w t key rate count
  unfolding refusal
  refusal-early r e =
      let o = judged-err kind s w t key false r e in
      ap (λ (q : Refusal). q.0) o.1 ∙ sym (refused-early kind s w t key _ o.0)

  -- where none of 1 to 7, 15 and 16 is met
  module _ (j : Judged) (e : Ok j ≡ judged kind s w t key) where
    late_is : refusal kind s w t key rate count ≡ first (blind_turns rate count ++ ((bad_call, true) ∷ []))
    unfolding refusal
    late_is = refused-own kind s w t key _ (judged-ok kind s w t key false j e).0

    pub refusal-own : (r : Refusal) → Err r ≡ ruled (first (set_own rate count false)) → r.0 ≡ refusal kind s w t key rate count
    unfolding set_own first
    refusal-own r f =
        let o = ruled-err _ r f in
        ap (λ (q : Refusal). q.0) o.1 ∙ go (unrated rate) (ltb most_total count) o.0 ∙ sym late_is
      where
        go : (a b : Bool) → (◌≡◌ {A = ℕ} (cond a 8 (cond b 10 0)) 0 → ⊥) → ◌≡◌ {A = ℕ} (cond a 8 (cond b 10 0)) (cond a 8 (cond b 10 14))
        go true b q = refl
        go false true q = refl
        go false false q = absurd (q refl)

    pub refusal-none : first (set_own rate count false) ≡ 0 → bad_call ≡ refusal kind s w t key rate count
    unfolding set_own first
    refusal-none f = go (unrated rate) (ltb most_total count) f ∙ sym late_is
      where
        go : (a b : Bool) → ◌≡◌ {A = ℕ} (cond a 8 (cond b 10 0)) 0 → ◌≡◌ {A = ℕ} 14 (cond a 8 (cond b 10 14))
        go true b p = absurd (omega (arith, p))
        go false true p = absurd (omega (arith, p))
        go false false p = refl

-- ---- with comparator and mode, whichever they are

-- n is the one number exactly where it is the other
abbrev pub Exactly : ℕ → ℕ → ℕ → Type 0
Exactly n x y = (x ≡ n → y ≡ n) × (y ≡ n → x ≡ n)

module _ (kind : RoomKind) (s : Settings) (w : List ℕ) (t : ℕ) (key : Sent) (rate : RateLimit) (count : ℕ)
    (full : Bool) (comparator : RateLimitComparator) (mode : HistoryUpdateMode) (h : Held) where
  -- a number other than 11 and 14 is given without them exactly where it is given with them
  pub as-named : (n : ℕ) → n ≢ 0 → n ≢ 11 → n ≢ 14 →
      Exactly n (refusal kind s w t key rate count) (first (refusals kind s w t key (set_turns kind s full t rate comparator count mode h)))
  unfolding refusal first
  as-named n z m k = go (ℕ_discrete (early kind s w t key) 0)
    where
      own : List (ℕ × Bool)
      own = blind_turns rate count ++ ((bad_call, true) ∷ [])

      own_set : List (ℕ × Bool)
      own_set = set_turns kind s full t rate comparator count mode h

      late : (a b c : Bool) → Exactly n (cond a 8 (cond b 10 14)) (cond a 8 (cond b 10 (cond c 11 0)))
      late true b c = (λ p. p, λ p. p)
      late false true c = (λ p. p, λ p. p)
      late false false true = (λ p. absurd (k (sym p)), λ p. absurd (m (sym p)))
      late false false false = (λ p. absurd (k (sym p)), λ p. absurd (z (sym p)))

      go : Dec (early kind s w t key ≡ 0) → Exactly n (first (refusals kind s w t key own)) (first (refusals kind s w t key own_set))
      go (yes e) =
          let p = refused-own kind s w t key own e in
          let q = refused-own kind s w t key own_set e in
          let k = late (unrated rate) (ltb most_total count) (not (still_for kind s t rate comparator count mode h) && lacks_slot full h) in
          (λ o. q ∙ k.0 (sym p ∙ o), λ o. p ∙ k.1 (sym q ∙ o))
      go (no m) =
          let p = refused-early kind s w t key own m in
          let q = refused-early kind s w t key own_set m in
          (λ o. q ∙ sym p ∙ o, λ o. p ∙ sym q ∙ o)
