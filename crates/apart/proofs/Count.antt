-- Two rooms in which the same keys of a party have a slot: the party holds as many slots in the one as in the other.
-- Assumes nothing.
use Rattle.std.specs.Prelude.{◌≡◌, refl, Bool, true, false, not, ◌&&◌, ◌||◌, cond, List, ◌≢◌, ℕ, zero, suc, ◌+◌, ◌≤◌, ◌<◌, eqb}
use Rattle.std.proofs.Common.{sym, ap, ◌∙◌, true≢false, arith, eq-eqb, ne_eqb, eqb-true}
use Rattle.std.proofs.lemmas.Bool.{false≢true}
use Rattle.std.proofs.Math.Decide.{ℕ_discrete, dec_lt}
use Rattle.base.specs.Decides.{and-true}
use Rattle.settings.specs.declared.Settings.{Settings}
use Rattle.rules.specs.Held.{has_any}
use Rattle.rules.specs.declared.RoomKind.{RoomKind}
use Rattle.rules.specs.declared.RoomKind.TheVariants as kind
use Rattle.keys.specs.declared.Key.{Key}
use Rattle.room.specs.Room.{slots_of, holder_of, use_of, key_at, find}
use Rattle.frame.specs.Distinct.{find-key, find-where}
use Rattle.frame.specs.Frame.{key-holder}
use Rattle.parties.specs.Parties.{many, slots_held}
use Rattle.opened.specs.Sound.{has_series, has_cached, right_use}
use Rattle.cleanup.specs.Laws.{sound-parts}
use Rattle.steps.specs.History.{Sane}
use Rattle.apart.specs.Holds.{held_for}
use Rattle.apart.proofs.Holds.{for-at, for-none}
use Rattle.apart.specs.Count.{without, Into, Once}

-- ---- counting

many-least : (q : ℕ → Bool) (m j : ℕ) → m ≤ j → many (without q j) m ≡ many q m
unfolding many
many-least q zero j h = refl
many-least q (suc m) j h =
    let r = many-least q m j (omega arith) in
    let e : eqb m j ≡ false = ne_eqb m j (omega arith) in
    go (q m) r e
  where
    go : (z : Bool) → many (without q j) m ≡ many q m → eqb m j ≡ false → many (without q j) m + cond (z && not (eqb m j)) 1 0 ≡ many q m + cond z 1 0
    go true r e = rw (e, r)
    go false r e = rw r

-- j is one of them
many-less : (q : ℕ → Bool) (m j : ℕ) → j < m → q j ≡ true → many q m ≡ suc (many (without q j) m)
unfolding many
many-less q zero j h e = absurd (omega arith)
many-less q (suc m) j h e = go (ℕ_discrete j m) (many-less q m j)
  where
    go : Dec (j ≡ m) → (j < m → q j ≡ true → many q m ≡ suc (many (without q j) m)) →
        many q m + cond (q m) 1 0 ≡ suc (many (without q j) m + cond (q m && not (eqb m j)) 1 0)
    go (yes p) f =
        let a : q m ≡ true = ap q (sym p) ∙ e in
        let b : eqb m j ≡ true = eq-eqb m j (sym p) in
        let c = many-least q m j (omega (arith, p)) in
        rw (a, b) (omega (arith, c))
    go (no p) f =
        let c = f (omega arith) e in
        let b : eqb m j ≡ false = ne_eqb m j (λ z. p (sym z)) in
        side (q m) b c
      where
        side : (z : Bool) → eqb m j ≡ false → many q m ≡ suc (many (without q j) m) →
            many q m + cond z 1 0 ≡ suc (many (without q j) m + cond (z && not (eqb m j)) 1 0)
        side true b c = rw b (omega (arith, c))
        side false b c = omega (arith, c)

many-into : (p q : ℕ → Bool) (n m : ℕ) (f : ℕ → ℕ) → Into p n m f q → Once p n f → many p n ≤ many q m
unfolding many
many-into p q zero m f a b = omega arith
many-into p q (suc n) m f a b = go (p n) refl (many-into p (without q (f n)) n m f) (many-into p q n m f)
  where
    kept : (x y : Bool) → x ≡ true → y ≡ false → x && not y ≡ true
    kept true false e g = refl
    kept true true e g = absurd (true≢false g)
    kept false y e g = absurd (false≢true e)

    go : (z : Bool) → p n ≡ z → (Into p n m f (without q (f n)) → Once p n f → many p n ≤ many (without q (f n)) m) →
        (Into p n m f q → Once p n f → many p n ≤ many q m) → many p n + cond z 1 0 ≤ many q m
    go true e g h =
        let s = a n (omega arith) e in
        let r = g
        (λ i l y.
        let k = a i (omega arith) y in
        (k.0, kept (q (f i)) (eqb (f i) (f n)) k.1 (ne_eqb (f i) (f n) (λ z. omega (arith, l, b i n (omega arith) (omega arith) y e z)))))
        (λ i j l k x y z. b i j (omega arith) (omega arith) x y z) in
        omega (arith, r, many-less q m (f n) s.0 s.1)
    go false e g h =
        let r = h (λ i l y. a i (omega arith) y) (λ i j l k x y z. b i j (omega arith) (omega arith) x y z) in
        omega (arith, r)

-- ---- a slot in use has something

right-any : (k : RoomKind) (u : ℕ) → right_use k u ≡ true → has_series u || has_cached u ≡ true
unfolding right_use
right-any kind.Absolute u e = go (eqb u 1) e
  where
    go : (z : Bool) → z ≡ true → (z || eqb u 3) || has_cached u ≡ true
    go true h = refl
    go false h = absurd (false≢true h)
right-any kind.Suppressed u e = e

pub slot-any : {k : RoomKind} {s : Settings} {w : List ℕ} → Sane k s w → (i : ℕ) → i < slots_of w → holder_of w i ≢ 0 → has_any (held_for w (key_at w i)) ≡ true
slot-any {k} {s} {w} o i h n =
    let e = find-where w (key_at w i) i o.distinct h n refl in
    let u = (sound-parts k s w i (o.sound.slots i h n)).uses in
    ap has_any (for-at w (key_at w i) i e h) ∙ right-any k (use_of w i) u

-- and what has something has a slot
pub any-slot : (w : List ℕ) (k : Key) → has_any (held_for w k) ≡ true → find w k < slots_of w
any-slot w k e = go (dec_lt (find w k) (slots_of w))
  where
    go : Dec (find w k < slots_of w) → find w k < slots_of w
    go (yes h) = h
    go (no h) = absurd (false≢true (sym (ap has_any (for-none w k (omega arith))) ∙ e))

-- ---- as many

-- of some of the party's slots, whose keys have something in v
pub held-among : {k : RoomKind} {s : Settings} {w : List ℕ} (v : List ℕ) (m : ℕ) → m ≢ 0 → Sane k s w → (p : ℕ → Bool) →
    ((i : ℕ) → p i ≡ true → holder_of w i ≡ m) →
    ((i : ℕ) → i < slots_of w → p i ≡ true → has_any (held_for v (key_at w i)) ≡ true) → many p (slots_of w) ≤ slots_held v m
unfolding slots_held
held-among {k} {s} {w} v m z o p mine there =
    many-into p (λ i. eqb (holder_of v i) m) (slots_of w) (slots_of v) (λ i. find v (key_at w i))
    (λ i h e.
    let l = any-slot v (key_at w i) (there i h e) in
    (l, eq-eqb _ m (sym (key-holder v (find v (key_at w i))) ∙ ap (λ (j : Key). j.holder) (find-key v (key_at w i) l) ∙ key-holder w i ∙ mine i e)))
    (λ i j h g e d q.
    let li = any-slot v (key_at w i) (there i h e) in
    let lj = any-slot v (key_at w j) (there j g d) in
    o.distinct.once i j h g (used i e) (used j d) (sym (find-key v (key_at w i) li) ∙ ap (key_at v) q ∙ find-key v (key_at w j) lj))
  where
    used : (i : ℕ) → p i ≡ true → holder_of w i ≢ 0
    used i e y = z (sym (mine i e) ∙ y)

-- each of the party's keys that has something in w has something in v
pub held-into : {k : RoomKind} {s : Settings} {w : List ℕ} (v : List ℕ) (m : ℕ) → m ≢ 0 → Sane k s w →
    ((j : Key) → j.holder ≡ m → has_any (held_for w j) ≡ true → has_any (held_for v j) ≡ true) → slots_held w m ≤ slots_held v m
unfolding slots_held
held-into {k} {s} {w} v m z o f =
    held-among v m z o (λ i. eqb (holder_of w i) m) (λ i e. eqb-true (holder_of w i) m e)
    (λ i h e.
    let n = eqb-true (holder_of w i) m e in
    f (key_at w i) (key-holder w i ∙ n) (slot-any o i h (λ y. z (sym n ∙ y))))

-- and each but one: its slots in w come to one more at most
pub held-but : {k : RoomKind} {s : Settings} {w : List ℕ} (v : List ℕ) (m : ℕ) → m ≢ 0 → Sane k s w → (key : Key) → find w key < slots_of w → key.holder ≡ m →
    ((j : Key) → j.holder ≡ m → key ≢ j → has_any (held_for w j) ≡ true → has_any (held_for v j) ≡ true) → slots_held w m ≤ suc (slots_held v m)
unfolding slots_held
held-but {k} {s} {w} v m z o key l n f =
    let own = eq-eqb (holder_of w (find w key)) m (sym (key-holder w (find w key)) ∙ ap (λ (j : Key). j.holder) (find-key w key l) ∙ n) in
    let a = many-less (λ i. eqb (holder_of w i) m) (slots_of w) (find w key) l own in
    let b = held-among v m z o (without (λ i. eqb (holder_of w i) m) (find w key)) (λ i e. (parts i e).0)
    (λ i h e.
    let q = parts i e in
    let used : holder_of w i ≢ 0 = λ y. z (sym q.0 ∙ y) in
    f (key_at w i) (key-holder w i ∙ q.0) (λ r. q.1 (sym (find-where w (key_at w i) i o.distinct h used refl) ∙ ap (find w) (sym r)))
    (slot-any o i h used)) in
    omega (arith, a, b)
  where
    parts : (i : ℕ) → without (λ j. eqb (holder_of w j) m) (find w key) i ≡ true → (holder_of w i ≡ m) × (i ≢ find w key)
    parts i e =
        let p = and-true (eqb (holder_of w i) m) (not (eqb i (find w key))) e in
        (eqb-true _ _ p.0, λ q. false≢true (ap not (sym (eq-eqb i (find w key) q)) ∙ p.1))
