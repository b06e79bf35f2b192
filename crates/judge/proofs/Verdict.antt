-- What a call is to answer and to leave, for every input: the first refusal of its list whose condition holds, with every word as it came in; or else its
-- answer and its words.
-- Assumes nothing.
use Rattle.std.specs.Prelude.{◌≡◌, refl, Bool, true, false, List, ◌≢◌, ℕ, eqb, Err}
use Rattle.std.proofs.Common.{sym, subst, ◌∙◌, eq-eqb, ne_eqb, eqb-true}
use Rattle.std.proofs.Math.Bool.{cond}
use Rattle.std.proofs.Math.Decide.{ℕ_discrete}
use Rattle.std.proofs.lemmas.Bool.{eqb-false}
use Rattle.parties.specs.Parties.{Sent}
use Rattle.common.specs.Refusals.{first}
use Rattle.common.specs.declared.refusal.Refusal.{Refusal}
use Rattle.settings.specs.declared.Settings.{Settings}
use Rattle.rules.specs.declared.RoomKind.{RoomKind}
use Rattle.judge.specs.Judge.{refusals, early, judged_by, Passed}
use Rattle.judge.proofs.Laws.{refused-early, refused-own, judged-err, passed}
use Rattle.judge.specs.Verdict.{Verdict, verdict, unless_refused, Told, call, Alike}

-- two results that a verdict allows are one
pub told-once : {A : Type 0} (v : Verdict A) (r r' : A) (x x' : List ℕ) → Told v r x → Told v r' x' → (r ≡ r') × (x ≡ x')
told-once v r r' x x' a b = (a.answer ∙ sym b.answer, a.words ∙ sym b.words)

-- what is handed on is answered as it was
pub told-on : {A : Type 0} {v : Verdict A} {r q : A} {x : List ℕ} → r ≡ q → Told v q x → Told v r x
told-on {A} {v} {r} {q} {x} e o = subst (λ (y : A). Told v y x) (sym e) o

-- what is told of a verdict is told of the same verdict in other words
pub told-as : {A : Type 0} {v v' : Verdict A} {r : A} {x : List ℕ} → v ≡ v' → Told v r x → Told v' r x
told-as {r = r} {x = x} e o = subst (λ y. Told y r x) e o

pub told-turned : {A : Type 0} (turned : ℕ → A) (n : ℕ) (w : List ℕ) (v : Verdict A) → (n ≡ 0 → ⊥) → Told (unless_refused turned n w v) (turned n) w
unfolding unless_refused
told-turned turned n w v z = record { answer = sym (rw (ne_eqb n 0 z)); words = sym (rw (ne_eqb n 0 z)) }

pub told-done : {A : Type 0} (turned : ℕ → A) (n : ℕ) (w : List ℕ) (v : Verdict A) (r : A) (x : List ℕ) → n ≡ 0 → Told v r x →
    Told (unless_refused turned n w v) r x
unfolding unless_refused
told-done turned n w v r x e o = record { answer = o.answer ∙ sym (rw (eq-eqb n 0 e)); words = o.words ∙ sym (rw (eq-eqb n 0 e)) }

module _ {A : Type 0} (turned : ℕ → A) (kind : RoomKind) (s : Settings) (w : List ℕ) (t : ℕ) (key : Sent) (own : List (ℕ × Bool)) (v : Verdict A) where
  -- refused with one of 1 to 7, 15 and 16
  pub call-early : (n : ℕ) → n ≡ early kind s w t key → (n ≡ 0 → ⊥) → Told (call turned kind s w t key own v) (turned n) w
  call-early n e z =
      let p : first (refusals kind s w t key own) ≡ n = refused-early kind s w t key own (λ f. z (e ∙ f)) ∙ sym e in
      rw p (told-turned turned n w v z)

  -- as judging hands it on
  pub call-refused : (b : Bool) (r : Refusal) → Err r ≡ judged_by b kind s w t key → Told (call turned kind s w t key own v) (turned r.0) w
  call-refused b r e =
      let o = judged-err kind s w t key b r e in
      subst (λ (x : Refusal). Told (call turned kind s w t key own v) (turned x.0) w) (sym o.1) (call-early _ refl o.0)

  -- refused with one of its own
  pub call-own : (n : ℕ) → early kind s w t key ≡ 0 → n ≡ first own → (n ≡ 0 → ⊥) → Told (call turned kind s w t key own v) (turned n) w
  call-own n e f z =
      let p : first (refusals kind s w t key own) ≡ n = refused-own kind s w t key own e ∙ sym f in
      rw p (told-turned turned n w v z)

  -- not refused
  pub call-done : (r : A) (x : List ℕ) → early kind s w t key ≡ 0 → first own ≡ 0 → Told v r x → Told (call turned kind s w t key own v) r x
  call-done r x e f o = told-done turned _ w v r x (refused-own kind s w t key own e ∙ f) o

turned-away : {A : Type 0} (turned : ℕ → A) (w : List ℕ) (v : Verdict A) (n m : ℕ) → n ≡ m → (m ≡ 0 → ⊥) → unless_refused turned n w v ≡ verdict (turned m) w
unfolding unless_refused
turned-away turned w v n m e z = rw (e, ne_eqb m 0 z)

module _
    {A : Type 0} (turned : ℕ → A) (kind : RoomKind) (s : Settings) (w : List ℕ) (t : ℕ) (key : Sent)
    (own own' : List (ℕ × Bool)) (v v' : Verdict A) where
  alike-done : Alike own own' v v' → call turned kind s w t key own v ≡ call turned kind s w t key own' v'
  unfolding unless_refused
  alike-done a i =
      let n = first (refusals kind s w t key (a.owns i)) in
      record { answer = cond (eqb n 0) (a.answers i) (turned n); words = cond (eqb n 0) (a.wordings i) w }

  pub call-alike : (Passed kind s w t key → Alike own own' v v') → call turned kind s w t key own v ≡ call turned kind s w t key own' v'
  call-alike f = go (eqb (early kind s w t key) 0) refl
    where
      go : (z : Bool) → eqb (early kind s w t key) 0 ≡ z → call turned kind s w t key own v ≡ call turned kind s w t key own' v'
      go true e = alike-done (f (passed kind s w t key (eqb-true _ 0 e)))
      go false e =
          let z = eqb-false _ 0 e in
          turned-away turned w v _ _ (refused-early kind s w t key own z) z ∙ sym (turned-away turned w v' _ _ (refused-early kind s w t key own' z) z)

-- ---- a call with a key is refused, and every word stays, or nothing refuses it

both-none : (kind : RoomKind) (s : Settings) (w : List ℕ) (t : ℕ) (key : Sent) (own : List (ℕ × Bool)) →
    first (refusals kind s w t key own) ≡ 0 → (early kind s w t key ≡ 0) × (first own ≡ 0)
both-none kind s w t key own e = go (ℕ_discrete (early kind s w t key) 0)
  where
    go : Dec (early kind s w t key ≡ 0) → (early kind s w t key ≡ 0) × (first own ≡ 0)
    go (yes z) = (z, sym (refused-own kind s w t key own z) ∙ e)
    go (no n) = absurd (n (sym (refused-early kind s w t key own n) ∙ e))

pub call-either : {A : Type 0} (turned : ℕ → A) (kind : RoomKind) (s : Settings) (w : List ℕ) (t : ℕ) (key : Sent) (own : List (ℕ × Bool)) (v : Verdict A)
    (P : Verdict A → Type 0) →
    ((n : ℕ) → n ≢ 0 → P (verdict (turned n) w)) → (early kind s w t key ≡ 0 → first own ≡ 0 → P v) → P (call turned kind s w t key own v)
unfolding unless_refused
call-either turned kind s w t key own v P f g = go (eqb (first (refusals kind s w t key own)) 0) refl
  where
    go : (z : Bool) → eqb (first (refusals kind s w t key own)) 0 ≡ z →
        P (record { answer = cond z v.answer (turned (first (refusals kind s w t key own))); words = cond z v.words w })
    go true e = let b = both-none kind s w t key own (eqb-true _ 0 e) in g b.0 b.1
    go false e = f _ (eqb-false _ 0 e)
