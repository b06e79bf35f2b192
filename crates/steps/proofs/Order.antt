-- What it means that a call is turned away by its table: with the first number, in the order of judging, whose condition holds, exactly then, and with
-- everything left as it was. One law gives it for every call. A table is a list of numbers with their conditions.
-- Assumes nothing.
use Rattle.std.specs.Prelude.{◌≡◌, refl, Bool, true, false, ◌&&◌, ◌||◌, cond, List, [], ◌∷◌, ◌≢◌, ℕ, suc, ◌≤◌, ◌<◌, length, eqb}
use Rattle.std.proofs.Common.{sym, ap, subst, ◌∙◌, arith, eq-eqb, ne_eqb, eqb-true}
use Rattle.std.proofs.lemmas.Bool.{false≢true}
use Rattle.std.proofs.Math.Decide.{ℕ_discrete}
use Rattle.answers.specs.Rows.{refused_row, number_of}
use Rattle.common.specs.Ranges.{and_no}
use Rattle.common.specs.Refusals.{first}
use Rattle.judge.specs.Verdict.{Verdict, unless_refused}
use Rattle.steps.specs.Order.{order, before, place, Numbered, met, First, InOrder, TurnedBy, Within}

-- ---- no two numbers stand in one place

one_place : (ms : List ℕ) (m n : ℕ) → before ms m ≡ before ms n → before ms m < length ms → m ≡ n
one_place [] m n e h = absurd (omega arith)
one_place (x ∷ ms) m n e h = go (eqb x m) (eqb x n) refl refl e h (one_place ms m n)
  where
    go : (b c : Bool) → eqb x m ≡ b → eqb x n ≡ c → cond b 0 (suc (before ms m)) ≡ cond c 0 (suc (before ms n)) →
        cond b 0 (suc (before ms m)) < suc (length ms) → (before ms m ≡ before ms n → before ms m < length ms → m ≡ n) → m ≡ n
    go true true p q f g r = sym (eqb-true x m p) ∙ eqb-true x n q
    go true false p q f g r = absurd (omega arith)
    go false true p q f g r = absurd (omega arith)
    go false false p q f g r = r (omega arith) (omega arith)

-- 0 is no number: it has no place
no_zero : place 0 ≡ length order
no_zero = refl

-- ---- the first of a table in order is the first in the order of judging

found_in : (a b c : Bool) → (a && b) || c ≡ true → (c ≡ true → ⊥) → a ≡ true
found_in true b c e h = refl
found_in false b c e h = absurd (h e)

order-in : (k : ℕ) (xs : List (ℕ × Bool)) → InOrder k xs → k < length order
order-in k [] a = a
order-in k (x ∷ xs) a = omega (arith, a.0, order-in (place x.0) xs a.1)

met-within : (k : ℕ) (xs : List (ℕ × Bool)) (m : ℕ) → InOrder k xs → met xs m ≡ true → Within k m
unfolding met
met-within k [] m a e = absurd (false≢true e)
met-within k (x ∷ xs) m a e = go (met xs m) refl (met-within (place x.0) xs m a.1)
  where
    go : (c : Bool) → met xs m ≡ c → (met xs m ≡ true → Within (place x.0) m) → Within k m
    go true p f = let w = f p in record { from = omega (arith, a.0, w.from); listed = w.listed }
    go false p f =
        let s : x.0 ≡ m = eqb-true x.0 m (found_in (eqb x.0 m) x.1 (met xs m) e (λ q. false≢true (sym p ∙ q))) in
        subst (λ n. Within k n) s (record { from = a.0; listed = order-in (place x.0) xs a.1 })

or-true : (a : Bool) → a || true ≡ true
or-true true = refl
or-true false = refl

pub first-met : (xs : List (ℕ × Bool)) → first xs ≢ 0 → met xs (first xs) ≡ true
unfolding met first
first-met [] h = absurd (h refl)
first-met (x ∷ xs) h = go x.1 (first-met xs) h
  where
    go : (b : Bool) → (first xs ≢ 0 → met xs (first xs) ≡ true) → cond b x.0 (first xs) ≢ 0 →
        (eqb x.0 (cond b x.0 (first xs)) && b) || met xs (cond b x.0 (first xs)) ≡ true
    go true f g = rw (eq-eqb x.0 x.0 refl)
    go false f g = rw (f g) (or-true (eqb x.0 (first xs) && false))

first-foremost : (k : ℕ) (xs : List (ℕ × Bool)) (m : ℕ) → InOrder k xs → met xs m ≡ true → place (first xs) ≤ place m
unfolding met first
first-foremost k [] m a e = absurd (false≢true e)
first-foremost k (x ∷ xs) m a e = go x.1 e (first-foremost (place x.0) xs m a.1)
  where
    go : (b : Bool) → (eqb x.0 m && b) || met xs m ≡ true → (met xs m ≡ true → place (first xs) ≤ place m) → place (cond b x.0 (first xs)) ≤ place m
    go true p f = (met-within (place x.0) ((x.0, true) ∷ xs) m (omega arith, a.1) p).from
    go false p f = f (rw (and_no (eqb x.0 m)) at p)

-- a number of the order is above 0
listed-positive : (n : ℕ) → Numbered n → n ≢ 0
listed-positive n h z = omega (arith, ap place z, no_zero)

pub first-is : (table : List (ℕ × Bool)) (n : ℕ) → InOrder 0 table → First table n → first table ≡ n
first-is table n a l =
    let w = met-within 0 table n a l.holds in
    let p : place (first table) ≤ place n = first-foremost 0 table n a l.holds in
    let z : first table ≢ 0 = listed-positive (first table) (omega (arith, w.listed)) in
    let q : place n ≤ place (first table) = l.foremost (first table) (first-met table z) in
    one_place order (first table) n (omega arith) (omega (arith, w.listed))

pub is-first : (table : List (ℕ × Bool)) → InOrder 0 table → first table ≢ 0 → First table (first table)
is-first table a z = record { holds = first-met table z; foremost = λ m e. first-foremost 0 table m a e }

pub first-positive : (table : List (ℕ × Bool)) (n : ℕ) → InOrder 0 table → First table n → n ≢ 0
first-positive table n a l = listed-positive n (met-within 0 table n a l.holds).listed

-- ---- the law

-- of any row and any state that are by the first number either a refusal's, or something else's
pub turned_by : {B : Type 0} (table : List (ℕ × Bool)) (row : List ℕ) (before after : B) → InOrder 0 table →
    (first table ≢ 0 → row ≡ refused_row (first table)) → (first table ≡ 0 → number_of row ≡ 0) → (first table ≢ 0 → after ≡ before) →
    TurnedBy table row before after
turned_by table row before after a f g h =
    let some : number_of row ≢ 0 → first table ≢ 0 = λ z e. z (g e) in
    record {
      given = λ n l. f (λ z. first-positive table n a l (sym (first-is table n a l) ∙ z)) ∙ ap refused_row (first-is table n a l);
      only = λ z. subst (First table) (sym (ap number_of (f (some z)))) (is-first table a (some z));
      numbered = λ z. subst (λ n. Numbered n) (sym (ap number_of (f (some z)))) (met-within 0 table (first table) a (first-met table (some z))).listed;
      stays = λ z. h (some z);
    }

-- a verdict on one room, whose number n is the table's first
pub judge-turned : {A : Type 0} (row_of : A → List ℕ) (turned : ℕ → A) (table : List (ℕ × Bool)) (n : ℕ) (w : List ℕ) (v : Verdict A) → n ≡ first table →
    ((m : ℕ) → row_of (turned m) ≡ refused_row m) → InOrder 0 table → number_of (row_of v.answer) ≡ 0 →
    TurnedBy table (row_of (unless_refused turned n w v).answer) w (unless_refused turned n w v).words
unfolding unless_refused
judge-turned row_of turned table n w v e p a o =
    turned_by table _ w _ a
    (λ z. rw (e, ne_eqb (first table) 0 z) (p (first table)))
    (λ z. rw (e, eq-eqb (first table) 0 z) o)
    (λ z. rw (e, ne_eqb (first table) 0 z))

-- ---- for callers

-- a row that is no refusal's, and a table that turns away nothing
module _ {B : Type 0} (table : List (ℕ × Bool)) (a : InOrder 0 table) (row : List ℕ) (before after : B) (t : TurnedBy table row before after) where
  pub taken : number_of row ≡ 0 → first table ≡ 0
  taken z = go (ℕ_discrete (first table) 0)
    where
      go : Dec (first table ≡ 0) → first table ≡ 0
      go (yes e) = e
      go (no n) = sym (ap number_of (t.given (first table) (is-first table a n))) ∙ z

  pub not-refused : first table ≡ 0 → number_of row ≡ 0
  not-refused e = go (ℕ_discrete (number_of row) 0)
    where
      go : Dec (number_of row ≡ 0) → number_of row ≡ 0
      go (yes z) = z
      go (no n) = sym (first-is table (number_of row) a (t.only n)) ∙ e

-- a number whose condition does not hold is not given
pub not-given : {B : Type 0} (table : List (ℕ × Bool)) (row : List ℕ) (before after : B) → TurnedBy table row before after →
    (n : ℕ) → n ≢ 0 → met table n ≡ false → number_of row ≢ n
not-given table row before after t n z m e = false≢true (sym m ∙ ap (met table) (sym e) ∙ (t.only (λ y. z (sym e ∙ y))).holds)

-- nor one that is no refusal's number
pub not-numbered : {B : Type 0} (table : List (ℕ × Bool)) (row : List ℕ) (before after : B) → TurnedBy table row before after →
    (n : ℕ) → n ≢ 0 → (Numbered n → ⊥) → number_of row ≢ n
not-numbered table row before after t n z h e = h (subst (λ m. Numbered m) e (t.numbered (λ y. z (sym e ∙ y))))

-- document 02, ticket 2: 13 is none
pub no-13 : Numbered 13 → ⊥
no-13 h = omega arith
