-- What the code has tested, turned into what the definition says; that the definition leaves nothing open; and which number is the lowest.
-- Assumes nothing.
use Rattle.std.specs.Prelude.{◌≡◌, refl, Bool, not, ◌&&◌, ◌||◌, cond, List, [], ◌∷◌, ◌++◌, ◌≢◌, ℕ, ◌≤◌, ◌<◌, ltb, Result, Ok, Err}
use Rattle.std.proofs.Math.Path.{sym, ap}
use Rattle.std.proofs.Common.{ap₂, ◌∙◌, le_of_lt, arith}
use Rattle.std.proofs.Math.Bool.{true, false}
use Rattle.std.proofs.Math.Nat.{min-eq_left, min-eq_right}
use Rattle.std.proofs.Math.Decide.{ℕ_discrete}
use Rattle.std.proofs.Math.Dec.{eqb}
use borrow.Author.Tests.{eq-eqb, ne_eqb, eqb-true, eqb-false, ltb-true, ltb-false}
use Rattle.common.specs.Refusals.{first, first_found, first-none, refuse, ruled}
use Rattle.settings.specs.Settings.{faults}
use Rattle.settings.specs.Clock.{ticks_in}
use Rattle.settings.specs.declared.Settings.{Settings}
use Rattle.room.specs.Room.{sized, last_of}
use Rattle.parties.specs.declared.Caller.{Caller}
use Rattle.parties.specs.Parties.{is_party, ours, overdrawn, turns}
use Rattle.judge.proofs.Laws.{faults-positive}
use Rattle.rules.specs.declared.RoomKind.TheVariants.{Absolute, Suppressed}
use Rattle.cleanup.specs.Cleanup.{all_pass, misfits, refusal}
use Rattle.stale.specs.Uses.{cleaned, Ready}
use Rattle.cleanup.specs.Laws.{Passed, passed, passed-ready}
use Rattle.provider.specs.Provider.{lowest, lower, refusal_of_both, Verdict, decided, cleanup, Told}
use Rattle.common.specs.declared.refusal.Refusal.{Refusal}

-- two results that a verdict allows are one
pub told-once : (v : Verdict) (r r' : Result (Unit {0}) Refusal) (a a' b b' : List ℕ) → Told v r a b → Told v r' a' b' → (r ≡ r') × (a ≡ a') × (b ≡ b')
told-once v r r' a a' b b' x y = (x.answer ∙ sym y.answer, x.absolute ∙ sym y.absolute, x.suppressed ∙ sym y.suppressed)

-- ---- the lowest

pub lowest-left : (m n : ℕ) → m ≡ 0 → n ≡ lowest m n
unfolding lowest
lowest-left m n e = sym (rw (eq-eqb m 0 e))

pub lowest-right : (m n : ℕ) → m ≢ 0 → n ≡ 0 → m ≡ lowest m n
unfolding lowest
lowest-right m n h e = sym (rw (ne_eqb m 0 h, eq-eqb n 0 e))

pub lowest-less : (m n : ℕ) → m ≢ 0 → n ≢ 0 → m < n → m ≡ lowest m n
unfolding lowest
lowest-less m n h k l = sym (rw (ne_eqb m 0 h, ne_eqb n 0 k) (min-eq_left (le_of_lt l)))

pub lowest-more : (m n : ℕ) → m ≢ 0 → n ≢ 0 → n ≤ m → n ≡ lowest m n
unfolding lowest
lowest-more m n h k l = sym (rw (ne_eqb m 0 h, ne_eqb n 0 k) (min-eq_right l))

-- the lower of two judgements is that of the lower number
pub lower-is : (m n : ℕ) → lower (ruled m) (ruled n) ≡ ruled (lowest m n)
unfolding lower lowest
lower-is m n = go (ℕ_discrete m 0) (ℕ_discrete n 0) (ltb m n) refl
  where
    go : Dec (m ≡ 0) → Dec (n ≡ 0) → (z : Bool) → ltb m n ≡ z → lower (ruled m) (ruled n) ≡ ruled (lowest m n)
    go (yes p) d z e = rw p
    go (no p) (yes q) z e = rw (q, ne_eqb m 0 p, ne_eqb m 0 p)
    go (no p) (no q) true e = rw (ne_eqb m 0 p, ne_eqb n 0 q, e, min-eq_left (le_of_lt (ltb-true m n e)), ne_eqb m 0 p)
    go (no p) (no q) false e = rw (ne_eqb m 0 p, ne_eqb n 0 q, e, min-eq_right (ltb-false m n e), ne_eqb n 0 q)

-- 0 exactly where both are
pub lowest-none : (m n : ℕ) → lowest m n ≡ 0 → (m ≡ 0) × (n ≡ 0)
lowest-none m n e = go (eqb m 0) refl
  where
    right : m ≢ 0 → (b : Bool) → eqb n 0 ≡ b → (m ≡ 0) × (n ≡ 0)
    right h true q = absurd (h (lowest-right m n h (eqb-true n 0 q) ∙ e))
    right h false q = absurd (both (ltb m n) refl)
      where
        both : (b : Bool) → ltb m n ≡ b → ⊥
        both true l = h (lowest-less m n h (eqb-false n 0 q) (ltb-true m n l) ∙ e)
        both false l = eqb-false n 0 q (lowest-more m n h (eqb-false n 0 q) (ltb-false m n l) ∙ e)

    go : (b : Bool) → eqb m 0 ≡ b → (m ≡ 0) × (n ≡ 0)
    go true p = (eqb-true m 0 p, lowest-left m n (eqb-true m 0 p) ∙ e)
    go false p = right (eqb-false m 0 p) (eqb n 0) refl

-- ---- the answer and the words

module _ (s : Settings) (a b : List ℕ) (t : ℕ) (c d : Caller) where
  pub number_is : (k m n : ℕ) → k ≡ lowest m n → m ≡ refusal Absolute s a t c → n ≡ refusal Suppressed s b t d → k ≡ refusal_of_both s a b t c d
  number_is k m n e p q = e ∙ ap₂ lowest p q

  -- neither is refused
  pub both-passed : refusal_of_both s a b t c d ≡ 0 → Passed Absolute s a t c × Passed Suppressed s b t d
  both-passed e =
      let z = lowest-none (refusal Absolute s a t c) (refusal Suppressed s b t d) e in
      (passed Absolute s a t c z.0, passed Suppressed s b t d z.1)

  pub both-ready : refusal_of_both s a b t c d ≡ 0 → Ready a × Ready b
  both-ready e =
      let p = both-passed e in
      (passed-ready Absolute s a t c p.0, passed-ready Suppressed s b t d p.1)

module _ (s : Settings) (a b : List ℕ) (t : ℕ) (c d : Caller) (stale : ℕ) where
  pub both-refused : (n : ℕ) → n ≡ refusal_of_both s a b t c d → n ≢ 0 → Told (cleanup s a b t c d stale) (refuse n) a b
  unfolding decided
  both-refused n e z =
      let p : eqb (refusal_of_both s a b t c d) 0 ≡ false = ap (λ (k : ℕ). eqb k 0) (sym e) ∙ ne_eqb n 0 z in
      record { answer = sym (rw (p, sym e)); absolute = sym (rw p); suppressed = sym (rw p) }

  pub both-done : (x y : List ℕ) → refusal_of_both s a b t c d ≡ 0 → x ≡ cleaned a t (ticks_in s) stale → y ≡ cleaned b t (ticks_in s) stale →
      Told (cleanup s a b t c d stale) (Ok tt) x y
  unfolding decided
  both-done x y e f g =
      let p : eqb (refusal_of_both s a b t c d) 0 ≡ true = eq-eqb (refusal_of_both s a b t c d) 0 e in
      record { answer = sym (rw p); absolute = f ∙ sym (rw p); suppressed = g ∙ sym (rw p) }

-- ---- the lowest number by the table of refusals: 1 to 4 once, then 5, 6, 15 and 16 where either room meets it

abbrev pub either_misfits : Settings → List ℕ → List ℕ → ℕ → Caller → Caller → List (ℕ × Bool)
either_misfits s a b t c d =
    (5, not (sized a && (ours a && all_pass Absolute s a)) || not (sized b && (ours b && all_pass Suppressed s b))) ∷
    (6, ltb t (last_of a) || ltb t (last_of b)) ∷
    (15, not (is_party c.party) || not (is_party d.party)) ∷
    (16, overdrawn a c || overdrawn b d) ∷ []

-- ---- the lower of two firsts, number by number

lowest-same : (n : ℕ) → n ≢ 0 → lowest n n ≡ n
lowest-same n h = sym (lowest-more n n h h (omega arith))

-- a number that is met later is above n
abbrev Past : ℕ → ℕ → Type 0
Past n x = x ≢ 0 → n < x

past-none : (n : ℕ) → Past n 0
past-none n z = absurd (z refl)

past-cond : (n m : ℕ) (b : Bool) (x : ℕ) → n < m → Past n x → Past n (cond b m x)
past-cond n m true x h p z = h
past-cond n m false x h p z = p z

lowest-both : (n : ℕ) (p q : Bool) (x y : ℕ) → n ≢ 0 → Past n x → Past n y → lowest (cond p n x) (cond q n y) ≡ cond (p || q) n (lowest x y)
lowest-both n true true x y h f g = lowest-same n h
lowest-both n true false x y h f g = go (ℕ_discrete y 0)
  where
    go : Dec (y ≡ 0) → lowest n y ≡ n
    go (yes e) = sym (lowest-right n y h e)
    go (no e) = sym (lowest-less n y h e (g e))
lowest-both n false true x y h f g = go (ℕ_discrete x 0)
  where
    go : Dec (x ≡ 0) → lowest x n ≡ n
    go (yes e) = sym (lowest-left x n e)
    go (no e) = sym (lowest-more x n e h (omega (arith, f e)))
lowest-both n false false x y h f g = refl

-- of 5, 6, 15 and 16 alone
misfits-both : (p q x y u v k l : Bool) →
    lowest (first ((5, p) ∷ (6, x) ∷ (15, u) ∷ (16, k) ∷ [])) (first ((5, q) ∷ (6, y) ∷ (15, v) ∷ (16, l) ∷ [])) ≡
    first ((5, p || q) ∷ (6, x || y) ∷ (15, u || v) ∷ (16, k || l) ∷ [])
unfolding first
misfits-both p q x y u v k l =
    let last : (n : ℕ) → n < 16 → (b : Bool) → Past n (cond b 16 0) = λ n h b. past-cond n 16 b 0 h (past-none n) in
    let late : (n : ℕ) → n < 15 → (a b : Bool) → Past n (cond a 15 (cond b 16 0)) = λ n h a b. past-cond n 15 a _ h (last n (omega arith) b) in
    let more : (n : ℕ) → n < 6 → (c a b : Bool) → Past n (cond c 6 (cond a 15 (cond b 16 0))) = λ n h c a b. past-cond n 6 c _ h (late n (omega arith) a b) in
    lowest-both 5 p q _ _ (omega arith) (more 5 (omega arith) x u k) (more 5 (omega arith) y v l) ∙
    ap (cond (p || q) 5)
    (lowest-both 6 x y _ _ (omega arith) (late 6 (omega arith) u k) (late 6 (omega arith) v l) ∙
    ap (cond (x || y) 6)
    (lowest-both 15 u v _ _ (omega arith) (last 15 (omega arith) k) (last 15 (omega arith) l) ∙
    ap (cond (u || v) 15) (lowest-both 16 k l 0 0 (omega arith) (past-none 16) (past-none 16) ∙ ap (cond (k || l) 16) none-lowest)))
  where
    none-lowest : lowest 0 0 ≡ 0
    none-lowest = sym (lowest-left 0 0 refl)

pub both-by-table : (s : Settings) (a b : List ℕ) (t : ℕ) (c d : Caller) → refusal_of_both s a b t c d ≡ first (faults s ++ either_misfits s a b t c d)
unfolding misfits turns
both-by-table s a b t c d = go (eqb (first (faults s)) 0) refl
  where
    go : (z : Bool) → eqb (first (faults s)) 0 ≡ z → refusal_of_both s a b t c d ≡ first (faults s ++ either_misfits s a b t c d)
    go true e =
        let z : first (faults s) ≡ 0 = eqb-true _ _ e in
        let after : (xs : List (ℕ × Bool)) → first (faults s ++ xs) ≡ first xs = λ xs. first-none (faults s) xs (faults-positive s) z in
        ap₂ lowest (after (misfits Absolute s a t c)) (after (misfits Suppressed s b t d)) ∙
        misfits-both (not (sized a && (ours a && all_pass Absolute s a))) (not (sized b && (ours b && all_pass Suppressed s b))) (ltb t (last_of a))
        (ltb t (last_of b))
        (not (is_party c.party)) (not (is_party d.party)) (overdrawn a c) (overdrawn b d) ∙
        sym (after (either_misfits s a b t c d))
    go false e =
        let z : first (faults s) ≢ 0 = eqb-false _ _ e in
        let found : (xs : List (ℕ × Bool)) → first (faults s ++ xs) ≡ first (faults s) = λ xs. first_found (faults s) xs z in
        ap₂ lowest (found (misfits Absolute s a t c)) (found (misfits Suppressed s b t d)) ∙ lowest-same (first (faults s)) z ∙
        sym (found (either_misfits s a b t c d))
