-- Two rooms that one party cannot tell apart: its keys hold the same in both. Its own calls, and cleanups, are answered the same in both and leave two such
-- rooms (`same_row`, `like-after`); a call of the other party leaves such a room (`like-beside`).
-- Assumes nothing.
use Rattle.std.specs.Prelude.{◌≡◌, refl, Bool, false, ◌&&◌, ◌||◌, cond, List, [], ◌∷◌, ◌++◌, ◌≢◌, ℕ, zero, suc, ◌+◌, ◌<◌, eqb, leb, length}
use Rattle.std.proofs.Math.Path.{sym, ap}
use Rattle.std.proofs.Common.{ap₂, subst, ◌∙◌, arith, eq-eqb, eqb-true, le-ltb}
use Rattle.std.proofs.Math.Bool.{true, not}
use Rattle.std.proofs.lemmas.Bool.{false≢true}
use Rattle.std.proofs.Math.Decide.{ℕ_discrete, dec_lt}
use Rattle.std.proofs.Math.Dec.{ltb}
use Rattle.base.specs.Decides.{true-and}
use Rattle.base.specs.Every.{every}
use Rattle.common.specs.Refusals.{first}
use Rattle.answers.specs.Rows.{refused_row}
use Rattle.settings.specs.Settings.{faults}
use Rattle.settings.specs.declared.Settings.{Settings}
use Rattle.layout.specs.Layout.{nobody, first_mark, second_mark}
use Rattle.keys.specs.declared.Key.{Key}
use Rattle.keys.specs.Keys.{same_key}
use Rattle.rules.specs.Held.{Held}
use Rattle.rules.specs.Absolute as absolute
use Rattle.rules.specs.Suppressed as suppressed
use Rattle.rules.specs.Sets as sets
use Rattle.rules.specs.declared.RoomKind.{RoomKind}
use Rattle.rules.specs.declared.RoomKind.TheVariants as kind
use Rattle.room.specs.Room.{slots_of, last_of, holder_of, sized}
use Rattle.room.specs.Laws.{room-sized}
use Rattle.frame.specs.Keys.{Bytes}
use Rattle.frame.specs.Distinct.{same-key, key-same}
use Rattle.parties.specs.declared.Caller.{Caller}
use Rattle.parties.specs.Parties.{Sent, key_for, mark_of, is_party, ours, slots_held, promised, overdrawn, none_left, turns}
use Rattle.judge.specs.Held.{held_in}
use Rattle.judge.specs.Judge.{misfits}
use Rattle.clearing.specs.Clear as Clear
use Rattle.cleanup.specs.Cleanup as Cleanup
use Rattle.cleanup.specs.Laws.{passes-free, passes-used}
use Rattle.places.specs.SoundRoom.{SoundRoom, five-unmet}
use Rattle.steps.specs.Leaves.{sent-holder, mark-some}
use Rattle.steps.specs.Ops.{Op, inc, is_allowed, get, draws, snapshot, get_factor, set_rate, set, delete, cleanup, cleanup_both, clear, after, answer_row}
use Rattle.steps.specs.Table.{table_of}
use Rattle.steps.specs.History.{Sane}
use Rattle.apart.specs.Holds.{held_for}
use Rattle.apart.proofs.Holds.{held-short, held-long}
use Rattle.apart.proofs.Count.{held-into}
use Rattle.apart.specs.One.{left_by, cleaned_to, key_in, Named}
use Rattle.apart.proofs.Step.{slots-after, ring-after, own_held, other-held, turned-held, cleaned-held, cleared-held, uncleared-held, both-held}
use Rattle.apart.specs.Told.{row_for}
use Rattle.apart.proofs.Told.{told-row}
use Rattle.apart.specs.Promised.{Gives, Kept}
use Rattle.apart.proofs.Promised.{holding-is, party-or}
use Rattle.apart.specs.Like.{Like, Alike, mine}

-- ---- whose a call is

-- another's mark is another
mark-other : (p q : ℕ) → is_party p ≡ true → eqb q p ≡ false → mark_of q ≢ mark_of p
mark-other p q e n h = go (eqb q 1) refl (eqb q 2) refl
  where
    away : (m : ℕ) → eqb q m ≡ true → p ≢ m
    away m z y = false≢true (sym n ∙ eq-eqb q p (eqb-true q m z ∙ sym y))

    marks : (x y : Bool) → eqb q 1 ≡ x → eqb q 2 ≡ y → cond x first_mark (cond y second_mark nobody) ≡ mark_of p
    marks x y z u = sym (ap₂ (λ (a b : Bool). cond a first_mark (cond b second_mark nobody)) z u) ∙ h

    go : (x : Bool) → eqb q 1 ≡ x → (y : Bool) → eqb q 2 ≡ y → ⊥
    go true x y y' = party-or p e (λ z. away 1 x z) (λ z. omega (arith, marks true y x y', ap mark_of z))
    go false x true y = party-or p e (λ z. omega (arith, marks false true x y, ap mark_of z)) (λ z. away 2 y z)
    go false x false y = mark-some p e (sym (marks false false x y))

-- ---- refusals

every-all : (p : ℕ → Bool) (n : ℕ) → ((i : ℕ) → i < n → p i ≡ true) → every p n ≡ true
unfolding every
every-all p zero f = refl
every-all p (suc n) f = true-and (every p n) (p n) (every-all p n (λ i h. f i (omega arith))) (f n (omega arith))

sound-passes : (k : RoomKind) (s : Settings) (w : List ℕ) → SoundRoom k s w → Cleanup.all_pass k s w ≡ true
sound-passes k s w o = every-all (Cleanup.slot_passes k s w) (slots_of w) (λ i h. go i h (ℕ_discrete (holder_of w i) 0))
  where
    go : (i : ℕ) → i < slots_of w → Dec (holder_of w i ≡ 0) → Cleanup.slot_passes k s w i ≡ true
    go i h (yes e) = sym (passes-free k s w i e)
    go i h (no n) = passes-used k s w i n ∙ o.slots i h n

-- 16, while the promises are kept
pub over-is : (w : List ℕ) (c : Caller) → Kept w c.first c.second → overdrawn w c ≡ ltb (slots_of w) (c.first + c.second)
unfolding overdrawn
over-is w c l = ap₂ (λ (x y : Bool). ltb (slots_of w) (c.first + c.second) || (x || y)) (le-ltb _ _ l.first) (le-ltb _ _ l.second) ∙ or_no _
  where
    or_no : (x : Bool) → x || false ≡ x
    or_no true = refl
    or_no false = refl

module _ (k : RoomKind) (s : Settings) (t p a b : ℕ) (w v : List ℕ) (x : Alike k s t p a b w v) where
  abbrev Given : Caller → Type 0
  Given c = (c.first ≡ a) × (c.second ≡ b)

  over-like : (c : Caller) → Given c → overdrawn w c ≡ overdrawn v c
  over-like c g =
      over-is w c (kept w x.one.kept) ∙ ap (λ (n : ℕ). ltb n (c.first + c.second)) x.like.slots ∙ sym (over-is v c (kept v x.other.kept))
    where
      kept : (y : List ℕ) → Kept y a b → Kept y c.first c.second
      kept y l = record { first = omega (arith, l.first, g.0); second = omega (arith, l.second, g.1) }

  turns-like : (c : Caller) → Given c → turns w c ≡ turns v c
  unfolding turns
  turns-like c g = ap (λ (z : Bool). (15, not (is_party c.party)) ∷ (16, z) ∷ []) (over-like c g)

  six-like : ltb t (last_of w) ≡ ltb t (last_of v)
  six-like = le-ltb t (last_of w) x.one.last ∙ sym (le-ltb t (last_of v) x.other.last)

  misfits-like : (key : Sent) → Given key.caller → misfits k s w t key ≡ misfits k s v t key
  unfolding misfits
  misfits-like key g =
      let five = five-unmet k s w key x.one.sane.sound ∙ sym (five-unmet k s v key x.other.sane.sound) in
      (λ i. (5, not (five i)) ∷ (6, six-like i) ∷ (7, ltb 32 (length key.bytes)) ∷ turns-like key.caller g i)

  whole-five : (y : List ℕ) → Sane k s y → sized y && (ours y && Cleanup.all_pass k s y) ≡ true
  whole-five y o = true-and (sized y) _ (room-sized y o.sound.room) (true-and (ours y) _ o.sound.theirs (sound-passes k s y o.sound))

  five-like : sized w && (ours w && Cleanup.all_pass k s w) ≡ sized v && (ours v && Cleanup.all_pass k s v)
  five-like = whole-five w x.one.sane ∙ sym (whole-five v x.other.sane)

  clear-five : (y : List ℕ) → Sane k s y → sized y && ours y ≡ true
  clear-five y o = true-and (sized y) _ (room-sized y o.sound.room) o.sound.theirs

  -- ---- what its own keys hold

  pub held-like : (key : Sent) → key.caller.party ≡ p → held_in w key ≡ held_in v key
  held-like key e = go (dec_lt 32 (length key.bytes))
    where
      go : Dec (32 < length key.bytes) → held_in w key ≡ held_in v key
      go (yes h) = held-long w key h ∙ sym (held-long v key h)
      go (no h) =
          held-short w key (omega arith) ∙ x.like.held (key_for key) (sent-holder key ∙ ap mark_of e) ∙ sym (held-short v key (omega arith))

  count-like : slots_held w (mark_of p) ≡ slots_held v (mark_of p)
  count-like =
      let z = mark-some p x.party in
      let c = held-into v (mark_of p) z x.one.sane (λ j h q. ap (λ (y : Held). y.known || y.cached) (sym (x.like.held j h)) ∙ q) in
      let d = held-into w (mark_of p) z x.other.sane (λ j h q. ap (λ (y : Held). y.known || y.cached) (x.like.held j h) ∙ q) in
      omega (arith, c, d)

  none-like : (c : Caller) → c.party ≡ p → none_left w c ≡ none_left v c
  unfolding none_left
  none-like c e =
      let q : is_party c.party ≡ true = ap is_party e ∙ x.party in
      ap (leb (promised c))
      (holding-is w c q ∙ ap (λ (y : ℕ). slots_held w (mark_of y)) e ∙ count-like ∙ ap (λ (y : ℕ). slots_held v (mark_of y)) (sym e) ∙ sym (holding-is v c q))

-- ---- the number

both-like : (k : RoomKind) (s : Settings) (t p a b : ℕ) (w v : List ℕ) → Alike k s t p a b w v → (who : Caller) (other : List ℕ) (whose : Caller) (stale : ℕ) →
    (who.first ≡ a) × (who.second ≡ b) →
    first (table_of k s w t (cleanup_both who other whose stale)) ≡ first (table_of k s v t (cleanup_both who other whose stale))
both-like kind.Absolute s t p a b w v x who other whose stale g =
    let five = five-like kind.Absolute s t p a b w v x in
    let six = six-like kind.Absolute s t p a b w v x in
    let over = over-like kind.Absolute s t p a b w v x who g in
    (λ i. first (faults s ++
    (5, not (five i) || not (sized other && (ours other && Cleanup.all_pass kind.Suppressed s other))) ∷
    (6, six i || ltb t (last_of other)) ∷
    (15, not (is_party who.party) || not (is_party whose.party)) ∷
    (16, over i || overdrawn other whose) ∷ []))
both-like kind.Suppressed s t p a b w v x who other whose stale g =
    let five = five-like kind.Suppressed s t p a b w v x in
    let six = six-like kind.Suppressed s t p a b w v x in
    let over = over-like kind.Suppressed s t p a b w v x who g in
    (λ i. first (faults s ++
    (5, not (sized other && (ours other && Cleanup.all_pass kind.Absolute s other)) || not (five i)) ∷
    (6, ltb t (last_of other) || six i) ∷
    (15, not (is_party whose.party) || not (is_party who.party)) ∷
    (16, overdrawn other whose || over i) ∷ []))

pub number-like : (k : RoomKind) (s : Settings) (t p a b : ℕ) (w v : List ℕ) → Alike k s t p a b w v → (op : Op k) → mine p op ≡ true → Gives a b op →
    first (table_of k s w t op) ≡ first (table_of k s v t op)
unfolding Cleanup.misfits Clear.unclear
number-like k s t p a b w v x (inc key rate c) e g =
    (λ i. first (faults s ++ (misfits-like kind.Absolute s t p a b w v x key g i ++
    absolute.inc_turns s (x.like.ring i) (none-like kind.Absolute s t p a b w v x key.caller (eqb-true key.caller.party p e) i) t rate c
    (held-like kind.Absolute s t p a b w v x key (eqb-true key.caller.party p e) i))))
number-like k s t p a b w v x (is_allowed key) e g =
    (λ i. first (faults s ++ (misfits-like kind.Absolute s t p a b w v x key g i ++
    [])))
number-like k s t p a b w v x (get key) e g =
    (λ i. first (faults s ++ (misfits-like kind.Absolute s t p a b w v x key g i ++
    [])))
number-like k s t p a b w v x (draws key rate c draw) e g =
    (λ i. first (faults s ++ (misfits-like kind.Suppressed s t p a b w v x key g i ++
    suppressed.inc_turns s (x.like.ring i) (none-like kind.Suppressed s t p a b w v x key.caller (eqb-true key.caller.party p e) i) t rate c draw
    (held-like kind.Suppressed s t p a b w v x key (eqb-true key.caller.party p e) i))))
number-like k s t p a b w v x (snapshot key) e g =
    (λ i. first (faults s ++ (misfits-like kind.Suppressed s t p a b w v x key g i ++
    [])))
number-like k s t p a b w v x (get_factor key) e g =
    (λ i. first (faults s ++ (misfits-like kind.Suppressed s t p a b w v x key g i ++
    suppressed.factor_turns (none-like kind.Suppressed s t p a b w v x key.caller (eqb-true key.caller.party p e) i)
    (held-like kind.Suppressed s t p a b w v x key (eqb-true key.caller.party p e) i))))
number-like k s t p a b w v x (set_rate key rate) e g =
    (λ i. first (faults s ++ (misfits-like k s t p a b w v x key g i ++
    sets.rate_turns rate)))
number-like k s t p a b w v x (set key rate comparator count mode) e g =
    (λ i. first (faults s ++ (misfits-like k s t p a b w v x key g i ++
    sets.set_turns k s (none-like k s t p a b w v x key.caller (eqb-true key.caller.party p e) i) t rate comparator count mode
    (held-like k s t p a b w v x key (eqb-true key.caller.party p e) i))))
number-like k s t p a b w v x (delete key) e g =
    (λ i. first (faults s ++ (misfits-like k s t p a b w v x key g i ++
    [])))
number-like k s t p a b w v x (cleanup who stale) e g =
    (λ i. first (faults s ++ ((5, not (five-like k s t p a b w v x i)) ∷ (6, six-like k s t p a b w v x i) ∷ turns-like k s t p a b w v x who g i)))
number-like k s t p a b w v x (cleanup_both who other whose stale) e g = both-like k s t p a b w v x who other whose stale g
number-like k s t p a b w v x (clear who) e g =
    let five = clear-five k s t p a b w v x w x.one.sane ∙ sym (clear-five k s t p a b w v x v x.other.sane) in
    (λ i. first (faults s ++ ((5, not (five i)) ∷ (6, six-like k s t p a b w v x i) ∷ turns-like k s t p a b w v x who g i)))

-- ---- the answer

given-like : (k : RoomKind) (s : Settings) (t p a b : ℕ) (w v : List ℕ) → Alike k s t p a b w v → (op : Op k) → mine p op ≡ true →
    row_for k s t op (held_in w (key_in op)) ≡ row_for k s t op (held_in v (key_in op))
given-like k s t p a b w v x (inc key rate c) e =
    ap (row_for kind.Absolute s t (inc key rate c)) (held-like kind.Absolute s t p a b w v x key (eqb-true key.caller.party p e))
given-like k s t p a b w v x (is_allowed key) e =
    ap (row_for kind.Absolute s t (is_allowed key)) (held-like kind.Absolute s t p a b w v x key (eqb-true key.caller.party p e))
given-like k s t p a b w v x (get key) e =
    ap (row_for kind.Absolute s t (get key)) (held-like kind.Absolute s t p a b w v x key (eqb-true key.caller.party p e))
given-like k s t p a b w v x (draws key rate c draw) e = ap (row_for kind.Suppressed s t (draws key rate c draw))
    (held-like kind.Suppressed s t p a b w v x key (eqb-true key.caller.party p e))
given-like k s t p a b w v x (snapshot key) e =
    ap (row_for kind.Suppressed s t (snapshot key)) (held-like kind.Suppressed s t p a b w v x key (eqb-true key.caller.party p e))
given-like k s t p a b w v x (get_factor key) e =
    ap (row_for kind.Suppressed s t (get_factor key)) (held-like kind.Suppressed s t p a b w v x key (eqb-true key.caller.party p e))
given-like k s t p a b w v x (set_rate key rate) e = ap (row_for k s t (set_rate key rate)) (held-like k s t p a b w v x key (eqb-true key.caller.party p e))
given-like k s t p a b w v x (set key rate comparator count mode) e = ap (row_for k s t (set key rate comparator count mode))
    (held-like k s t p a b w v x key (eqb-true key.caller.party p e))
given-like k s t p a b w v x (delete key) e = ap (row_for k s t (delete key)) (held-like k s t p a b w v x key (eqb-true key.caller.party p e))
given-like k s t p a b w v x (cleanup who stale) e = refl
given-like k s t p a b w v x (cleanup_both who other whose stale) e = refl
given-like k s t p a b w v x (clear who) e = refl

pub same_row : (k : RoomKind) (s : Settings) (t p a b : ℕ) (w v : List ℕ) → Alike k s t p a b w v → (op : Op k) → mine p op ≡ true → Gives a b op →
    answer_row k s w t op ≡ answer_row k s v t op
same_row k s t p a b w v x op e g =
    let n = number-like k s t p a b w v x op e g in
    let r = given-like k s t p a b w v x op e in
    told-row k s w t op ∙ (λ i. cond (eqb (n i) 0) (r i) (refused_row (n i))) ∙ sym (told-row k s v t op)

-- ---- what is left

-- of a key of the party's, by a call with a key
module _ (k : RoomKind) (s : Settings) (t p a b : ℕ) (w v : List ℕ) (x : Alike k s t p a b w v) where
  named-like : (op : Op k) → Named op → Bytes (key_in op).bytes → (key_in op).caller.party ≡ p → first (table_of k s w t op) ≡ 0 →
      first (table_of k s v t op) ≡ 0 →
      (j : Key) → j.holder ≡ mark_of p → held_for (after k s w t op) j ≡ held_for (after k s v t op) j
  named-like op n by q e f j h = go (same_key (key_for (key_in op)) j) refl
    where
      go : (z : Bool) → same_key (key_for (key_in op)) j ≡ z → held_for (after k s w t op) j ≡ held_for (after k s v t op) j
      go true z =
          subst (λ (i : Key). held_for (after k s w t op) i ≡ held_for (after k s v t op) i) (same-key _ j z)
          (own_held k s w t x.one.sane op by n e ∙ ap₂ (λ (r : ℕ) (y : Held). left_by k s r t op y) x.like.ring
          (held-like k s t p a b w v x (key_in op) q) ∙
          sym (own_held k s v t x.other.sane op by n f))
      go false z =
          let u : key_for (key_in op) ≢ j = λ r. false≢true (sym z ∙ subst (λ (i : Key). same_key (key_for (key_in op)) i ≡ true) r (key-same _)) in
          other-held k s w t x.one.sane op by n j u ∙ x.like.held j h ∙ sym (other-held k s v t x.other.sane op by n j u)

done-like : (k : RoomKind) (s : Settings) (t p a b : ℕ) (w v : List ℕ) → Alike k s t p a b w v → (op : Op k) → Bytes (key_in op).bytes → mine p op ≡ true →
    first (table_of k s w t op) ≡ 0 → first (table_of k s v t op) ≡ 0 → (j : Key) → j.holder ≡ mark_of p → held_for (after k s w t op) j ≡
    held_for (after k s v t op) j
done-like k s t p a b w v x (inc key rate c) by q e f j h = named-like kind.Absolute s t p a b w v x (inc key rate c) refl by
    (eqb-true key.caller.party p q) e f j h
done-like k s t p a b w v x (is_allowed key) by q e f j h = named-like kind.Absolute s t p a b w v x (is_allowed key) refl by (eqb-true key.caller.party p q)
    e f j h
done-like k s t p a b w v x (get key) by q e f j h = named-like kind.Absolute s t p a b w v x (get key) refl by (eqb-true key.caller.party p q) e f j h
done-like k s t p a b w v x (draws key rate c draw) by q e f j h = named-like kind.Suppressed s t p a b w v x (draws key rate c draw) refl by
    (eqb-true key.caller.party p q) e f j h
done-like k s t p a b w v x (snapshot key) by q e f j h = named-like kind.Suppressed s t p a b w v x (snapshot key) refl by (eqb-true key.caller.party p q)
    e f j h
done-like k s t p a b w v x (get_factor key) by q e f j h = named-like kind.Suppressed s t p a b w v x (get_factor key) refl by
    (eqb-true key.caller.party p q) e f j h
done-like k s t p a b w v x (set_rate key rate) by q e f j h =
    named-like k s t p a b w v x (set_rate key rate) refl by (eqb-true key.caller.party p q) e f j h
done-like k s t p a b w v x (set key rate comparator count mode) by q e f j h = named-like k s t p a b w v x (set key rate comparator count mode) refl by
    (eqb-true key.caller.party p q) e f j h
done-like k s t p a b w v x (delete key) by q e f j h = named-like k s t p a b w v x (delete key) refl by (eqb-true key.caller.party p q) e f j h
done-like k s t p a b w v x (cleanup who stale) by q e f j h =
    cleaned-held k s w t x.one.sane who stale e j ∙ ap (cleaned_to s t stale) (x.like.held j h) ∙ sym (cleaned-held k s v t x.other.sane who stale f j)
done-like k s t p a b w v x (cleanup_both who other whose stale) by q e f j h =
    both-held s w t who other whose stale k x.one.sane e j ∙ ap (cleaned_to s t stale) (x.like.held j h) ∙
    sym (both-held s v t who other whose stale k x.other.sane f j)
done-like k s t p a b w v x (clear who) by q e f j h =
    let m : j.holder ≡ mark_of who.party = h ∙ ap mark_of (sym (eqb-true who.party p q)) in
    cleared-held k s w t x.one.sane who e j m ∙ sym (cleared-held k s v t x.other.sane who f j m)

pub like-after : (k : RoomKind) (s : Settings) (t p a b : ℕ) (w v : List ℕ) → Alike k s t p a b w v → (op : Op k) → Bytes (key_in op).bytes → mine p op ≡ true →
    Gives a b op → Like (mark_of p) (after k s w t op) (after k s v t op)
like-after k s t p a b w v x op by q g = record {
  slots = slots-after k s w t x.one.sane op by ∙ x.like.slots ∙ sym (slots-after k s v t x.other.sane op by);
  ring = ring-after k s w t x.one.sane op by ∙ x.like.ring ∙ sym (ring-after k s v t x.other.sane op by);
  held = λ j h. go j h (ℕ_discrete (first (table_of k s w t op)) 0);
}
  where
    same : first (table_of k s w t op) ≡ first (table_of k s v t op)
    same = number-like k s t p a b w v x op q g

    go : (j : Key) → j.holder ≡ mark_of p → Dec (first (table_of k s w t op) ≡ 0) → held_for (after k s w t op) j ≡ held_for (after k s v t op) j
    go j h (yes e) = done-like k s t p a b w v x op by q e (sym same ∙ e) j h
    go j h (no n) =
        turned-held k s w t x.one.sane op by n j ∙ x.like.held j h ∙ sym (turned-held k s v t x.other.sane op by (λ e. n (same ∙ e)) j)

-- ---- another's call

other-named : (k : RoomKind) (s : Settings) (w : List ℕ) (t p : ℕ) → Sane k s w → is_party p ≡ true → (op : Op k) → Named op → Bytes (key_in op).bytes →
    eqb (key_in op).caller.party p ≡ false → (j : Key) → j.holder ≡ mark_of p → held_for (after k s w t op) j ≡ held_for w j
other-named k s w t p o y op n by q j h =
    other-held k s w t o op by n j (λ r. mark-other p (key_in op).caller.party y q (sym (sent-holder (key_in op)) ∙ ap (λ (i : Key). i.holder) r ∙ h))

pub held-beside : (k : RoomKind) (s : Settings) (w : List ℕ) (t p : ℕ) → Sane k s w → is_party p ≡ true → (op : Op k) → Bytes (key_in op).bytes →
    mine p op ≡ false → (j : Key) → j.holder ≡ mark_of p → held_for (after k s w t op) j ≡ held_for w j
held-beside k s w t p o y (inc key rate c) by q j h = other-named kind.Absolute s w t p o y (inc key rate c) refl by q j h
held-beside k s w t p o y (is_allowed key) by q j h = other-named kind.Absolute s w t p o y (is_allowed key) refl by q j h
held-beside k s w t p o y (get key) by q j h = other-named kind.Absolute s w t p o y (get key) refl by q j h
held-beside k s w t p o y (draws key rate c draw) by q j h = other-named kind.Suppressed s w t p o y (draws key rate c draw) refl by q j h
held-beside k s w t p o y (snapshot key) by q j h = other-named kind.Suppressed s w t p o y (snapshot key) refl by q j h
held-beside k s w t p o y (get_factor key) by q j h = other-named kind.Suppressed s w t p o y (get_factor key) refl by q j h
held-beside k s w t p o y (set_rate key rate) by q j h = other-named k s w t p o y (set_rate key rate) refl by q j h
held-beside k s w t p o y (set key rate comparator count mode) by q j h = other-named k s w t p o y (set key rate comparator count mode) refl by q j h
held-beside k s w t p o y (delete key) by q j h = other-named k s w t p o y (delete key) refl by q j h
held-beside k s w t p o y (cleanup who stale) by q j h = absurd (false≢true (sym q))
held-beside k s w t p o y (cleanup_both who other whose stale) by q j h = absurd (false≢true (sym q))
held-beside k s w t p o y (clear who) by q j h = uncleared-held k s w t o who j (λ r. mark-other p who.party y q (sym r ∙ h))

pub like-beside : (k : RoomKind) (s : Settings) (t p a b : ℕ) (w v : List ℕ) → Alike k s t p a b w v → (op : Op k) → Bytes (key_in op).bytes →
    mine p op ≡ false → Like (mark_of p) (after k s w t op) v
like-beside k s t p a b w v x op by q = record {
  slots = slots-after k s w t x.one.sane op by ∙ x.like.slots;
  ring = ring-after k s w t x.one.sane op by ∙ x.like.ring;
  held = λ j h. held-beside k s w t p x.one.sane x.party op by q j h ∙ x.like.held j h;
}
