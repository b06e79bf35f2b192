-- A call for every input: refused with its number and every word as it was, or what holds of it.
-- Assumes nothing.
use Rattle.std.specs.Prelude.{◌≡◌, refl, Bool, true, false, List, ◌≢◌, ℕ, eqb}
use Rattle.std.proofs.Common.{sym, subst, ◌∙◌, eq-eqb, eqb-true}
use Rattle.std.proofs.lemmas.Bool.{eqb-false}
use Rattle.parties.specs.Parties.{Sent}
use Rattle.common.specs.Refusals.{first}
use Rattle.settings.specs.declared.Settings.{Settings}
use Rattle.rules.specs.declared.RoomKind.{RoomKind}
use Rattle.judge.specs.Judge.{refusals, early}
use Rattle.judge.proofs.Laws.{refused-early, refused-own}
use Rattle.judge.specs.Verdict.{Verdict, Told, unless_refused, call}
use Rattle.judge.proofs.Verdict.{told-turned}

-- a call whose refusal is n, or 0: turned away with every word as it was; or P
pub record Follows {A : Type 0} (turned : ℕ → A) (w : List ℕ) (n : ℕ) (v : Verdict A) (P : Type 0) : Type 0 where
  pub refused : n ≢ 0 → Told v (turned n) w
  pub done : n ≡ 0 → P

done-is : {A : Type 0} (turned : ℕ → A) (n : ℕ) (w : List ℕ) (v : Verdict A) → n ≡ 0 → v ≡ unless_refused turned n w v
unfolding unless_refused
done-is turned n w v e = sym (rw (eq-eqb n 0 e))

pub follows : {A : Type 0} (turned : ℕ → A) (n : ℕ) (w : List ℕ) (v : Verdict A) (P : Verdict A → Type 0) → (n ≡ 0 → P v) →
    Follows turned w n (unless_refused turned n w v) (P (unless_refused turned n w v))
follows turned n w v P f = record { refused = told-turned turned n w v; done = λ e. subst P (done-is turned n w v e) (f e) }

module _ (kind : RoomKind) (s : Settings) (w : List ℕ) (t : ℕ) (key : Sent) (own : List (ℕ × Bool)) where
  -- not refused: not early, and not by its own
  pub unrefused-early : first (refusals kind s w t key own) ≡ 0 → early kind s w t key ≡ 0
  unrefused-early e = go (eqb (early kind s w t key) 0) refl
    where
      go : (y : Bool) → eqb (early kind s w t key) 0 ≡ y → early kind s w t key ≡ 0
      go true h = eqb-true _ _ h
      go false h = sym (refused-early kind s w t key own (eqb-false _ _ h)) ∙ e

  pub unrefused-own : first (refusals kind s w t key own) ≡ 0 → first own ≡ 0
  unrefused-own e = sym (refused-own kind s w t key own (unrefused-early e)) ∙ e

  -- a call for every input
  pub call-follows : {A : Type 0} (turned : ℕ → A) (v : Verdict A) (P : Type 0) → (early kind s w t key ≡ 0 → first own ≡ 0 → P) →
      Follows turned w (first (refusals kind s w t key own)) (call turned kind s w t key own v) P
  call-follows turned v P f =
      record { refused = told-turned turned (first (refusals kind s w t key own)) w v; done = λ e. f (unrefused-early e) (unrefused-own e) }
