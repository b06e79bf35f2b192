-- What the code of a set works out on the way is what `set` says.
-- Assumes nothing.
use Rattle.std.specs.Prelude.{◌≡◌, Bool, ◌&&◌, List, ℕ, Ok, Err}
use Rattle.common.specs.declared.refusal.Refusal.{Refusal}
use Rattle.std.proofs.Math.Path.{sym, ap, subst}
use Rattle.std.proofs.Common.{ap₂, ◌∙◌, arith, ltb-false}
use Rattle.std.proofs.Math.Bool.{not}
use Rattle.parties.specs.Parties.{Sent, none_left}
use Rattle.common.specs.Refusals.{first, all-false, refuse}
use Rattle.settings.specs.Clock.{join_ticks}
use Rattle.settings.specs.declared.Settings.{Settings}
use Rattle.common.specs.declared.units.RateLimit.{RateLimit}
use Rattle.common.specs.declared.comparator.RateLimitComparator.{RateLimitComparator}
use Rattle.answers.specs.declared.HistoryUpdateMode.{HistoryUpdateMode}
use Rattle.answers.specs.declared.ConditionalSetOutcome.{ConditionalSetOutcome}
use Rattle.layout.specs.Layout.{most_total}
use Rattle.rules.specs.declared.RoomKind.{RoomKind}
use Rattle.rules.specs.Both.{limit_in}
use Rattle.change.specs.declared.Change.{Change}
use Rattle.change.specs.Words.{applied, Applies}
use Rattle.judge.specs.declared.Judged.{Judged}
use Rattle.opened.specs.declared.Slot.{Slot}
use Rattle.judge.specs.Judge.{judged, slot_in}
use Rattle.judge.specs.Verdict.{Told}
use Rattle.judge.proofs.Verdict.{told-as}
use Rattle.plan.specs.Plan.{place_of, lacks_at}
use Rattle.sets_opened.specs.Sets.{idle_at, outcome_at, setting, set_own}
use Rattle.calls.specs.Calls.{judged-passed, judged-slot, judged-none, judged-own, judged-done}
use Rattle.calls.specs.Opened.{set_own_of, sets}
use Rattle.calls.specs.Applies.{set-applies}
use Rattle.calls.specs.Seen.{set-opened}
use Rattle.calls.specs.Set as set

-- ---- what the code works out of the slot x

pub record Worked (kind : RoomKind) (s : Settings) (w : List ℕ) (rate : RateLimit) (comparator : RateLimitComparator) (count : ℕ) (mode : HistoryUpdateMode)
    (full : Bool) (x : Slot) (limit : ℕ) (still : Bool) (place : ℕ) (none : Bool) : Type 0 where
  pub limit_is : limit ≡ limit_in kind s rate
  pub still-is : still ≡ idle_at x limit comparator count mode
  pub place_is : place ≡ place_of w x
  pub none_is : none ≡ (not still && lacks_at full x)

module _ (kind : RoomKind) (s : Settings) (w : List ℕ) (t : ℕ) (key : Sent) (rate : RateLimit) (comparator : RateLimitComparator) (count : ℕ)
    (mode : HistoryUpdateMode)
    (j : Judged) (e : Ok j ≡ judged kind s w t key)
    (limit : ℕ) (still : Bool) (place : ℕ) (none : Bool) (k : Worked kind s w rate comparator count mode j.none j.slot limit still place none) where
  still-as : still ≡ idle_at j.slot (limit_in kind s rate) comparator count mode
  still-as = k.still-is ∙ ap (λ (l : ℕ). idle_at j.slot l comparator count mode) k.limit_is

  none-as : none ≡ (not (idle_at j.slot (limit_in kind s rate) comparator count mode) && lacks_at (none_left w key.caller) j.slot)
  none-as = k.none_is ∙ ap₂ (λ (b full : Bool). not b && lacks_at full j.slot) still-as (judged-none kind s w t key j e)

  own-as : first (set_own rate count none) ≡ first (set_own_of kind s (none_left w key.caller) rate comparator count mode j.slot)
  own-as = ap (λ (b : Bool). first (set_own rate count b)) none-as

  pub set-refused : (n : ℕ) → n ≡ first (set_own rate count none) → (n ≡ 0 → ⊥) → Told (set.set kind s w t key rate comparator count mode) (refuse n) w
  set-refused n f z =
      told-as (set-opened kind s w t key rate comparator count mode)
      (judged-own kind s w t key j e refuse (set_own_of kind s (none_left w key.caller) rate comparator count mode)
      (sets kind s w t key rate comparator count mode) n (f ∙ own-as) z)

  module _ (f : first (set_own rate count none) ≡ 0) (change : Change) (g : change ≡ setting j.slot still limit count mode) where
    pub set-carried : Applies w place (join_ticks s) t change
    unfolding set_own
    set-carried =
        let a = all-false (set_own rate count none) (omega arith) f in
        let q = judged-slot kind s w t key j e in
        let o = judged-passed kind s w t key j e in
        let r : Applies w (place_of w (slot_in s w t key)) (join_ticks s) t (setting (slot_in s w t key) still limit count mode) =
        set-applies kind s w t key o still limit count comparator mode (k.still-is ∙ ap (λ (x : Slot). idle_at x limit comparator count mode) q)
        (ltb-false most_total count a.1.0)
        (ap₂ (λ (full : Bool) (x : Slot). not still && lacks_at full x) (sym (judged-none kind s w t key j e)) (sym q) ∙ sym k.none_is ∙ a.1.1.0) in
        let r2 : Applies w (place_of w j.slot) (join_ticks s) t (setting j.slot still limit count mode) =
        subst (λ (x : Slot). Applies w (place_of w x) (join_ticks s) t (setting x still limit count mode)) (sym q) r in
        let r3 : Applies w place (join_ticks s) t (setting j.slot still limit count mode) =
        subst (λ (at : ℕ). Applies w at (join_ticks s) t (setting j.slot still limit count mode)) (sym k.place_is) r2 in
        subst (λ (y : Change). Applies w place (join_ticks s) t y) (sym g) r3

    change-as : change ≡ setting j.slot (idle_at j.slot (limit_in kind s rate) comparator count mode) (limit_in kind s rate) count mode
    change-as = g ∙ ap (λ (b : Bool). setting j.slot b limit count mode) still-as ∙
        ap (λ (l : ℕ). setting j.slot (idle_at j.slot (limit_in kind s rate) comparator count mode) l count mode) k.limit_is

    pub set-done : (r : ConditionalSetOutcome) (x : List ℕ) → r ≡ outcome_at j.slot still comparator count → x ≡ applied w place key (join_ticks s) t change →
        Told (set.set kind s w t key rate comparator count mode) (Ok r) x
    set-done r x a b =
        told-as (set-opened kind s w t key rate comparator count mode)
        (judged-done kind s w t key j e refuse (set_own_of kind s (none_left w key.caller) rate comparator count mode)
        (sets kind s w t key rate comparator count mode) (Ok r) x
        (sym own-as ∙ f)
        (record {
          answer = ap Ok (a ∙ ap (λ (b : Bool). outcome_at j.slot b comparator count) still-as);
          words = b ∙ ap (λ (at : ℕ). applied w at key (join_ticks s) t change) k.place_is ∙
              ap (applied w (place_of w j.slot) key (join_ticks s) t) change-as;
        }))
