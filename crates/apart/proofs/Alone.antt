-- One party that is promised every slot, in a room whose slots in use are all its own: each answer is what it was before there were parties
-- (`alone-answer`). The tables below are those of document 01: 5 judges lengths and the slot addressed alone, there are no 15 and 16, and 11 is given where
-- no slot is free.
-- Assumes nothing.
use Rattle.std.specs.Prelude.{◌≡◌, refl, Bool, true, false, not, ◌&&◌, cond, List, [], ◌∷◌, ◌++◌, ◌≢◌, ℕ, zero, suc, ◌+◌, ◌≤◌, ◌<◌, eqb, ltb, leb}
use Rattle.std.proofs.Common.{sym, ap, ◌∙◌, arith, ne_eqb, le-ltb, le-leb}
use Rattle.std.proofs.Math.Decide.{ℕ_discrete, dec_lt}
use Rattle.std.proofs.lemmas.Bool.{lt-leb}
use Rattle.common.specs.Refusals.{first}
use Rattle.answers.specs.Rows.{refused_row}
use Rattle.settings.specs.Settings.{faults}
use Rattle.settings.specs.declared.Settings.{Settings}
use Rattle.layout.specs.Layout.{first_mark, second_mark}
use Rattle.rules.specs.Absolute as absolute
use Rattle.rules.specs.Suppressed as suppressed
use Rattle.rules.specs.Sets as sets
use Rattle.rules.specs.declared.RoomKind.{RoomKind}
use Rattle.rules.specs.declared.RoomKind.TheVariants as kind
use Rattle.room.specs.Room.{slots_of, ring_of, last_of, holder_of, sized, vacant, fits, empty}
use Rattle.frame.specs.Distinct.{vacant-free}
use Rattle.parties.specs.declared.Caller.{Caller}
use Rattle.parties.specs.Parties.{Sent, is_party, ours, many, slots_held, promised, holding, overdrawn, none_left, turns}
use Rattle.parties.proofs.Laws.{left-free}
use Rattle.judge.specs.Held.{held_in}
use Rattle.judge.specs.Judge.{misfits}
use Rattle.clearing.specs.Clear as Clear
use Rattle.cleanup.specs.Cleanup as Cleanup
use Rattle.steps.proofs.Leaves.{step-leaves}
use Rattle.steps.proofs.History.{history, empty-sane}
use Rattle.steps.specs.Ops.{
  Op,
  Call,
  inc,
  is_allowed,
  get,
  draws,
  snapshot,
  get_factor,
  set_rate,
  set,
  delete,
  cleanup,
  cleanup_both,
  clear,
  answer_row,
  words,
  AllKeyed,
}
use Rattle.steps.specs.Table.{table_of}
use Rattle.apart.specs.One.{key_in}
use Rattle.apart.specs.Told.{row_for}
use Rattle.apart.proofs.Told.{told-row}
use Rattle.apart.proofs.Step.{bytes-keyed}
use Rattle.apart.specs.Promised.{caller_in}
use Rattle.apart.specs.Apart.{Rising, AllGive, AllBytes}
use Rattle.apart.proofs.Apart.{beside-own, empty-fine}
use Rattle.apart.specs.Alone.{none_free, sole_misfits, sole, sole_both, sole_table, Alone, as_first, as-second, Others, Sole}

-- ---- what that comes to

many-most : (p : ℕ → Bool) (n : ℕ) → many p n ≤ n
unfolding many
many-most p zero = omega arith
many-most p (suc n) = go (p n) (many-most p n)
  where
    go : (b : Bool) → many p n ≤ n → many p n + cond b 1 0 ≤ suc n
    go true h = omega arith
    go false h = omega arith

many-under : (p : ℕ → Bool) (n i : ℕ) → i < n → p i ≡ false → many p n < n
unfolding many
many-under p zero i h e = absurd (omega arith)
many-under p (suc n) i h e = go (ℕ_discrete i n) (many-under p n i)
  where
    some : (b : Bool) → many p n < n → many p n + cond b 1 0 < suc n
    some true l = omega arith
    some false l = omega arith

    go : Dec (i ≡ n) → (i < n → p i ≡ false → many p n < n) → many p n + cond (p n) 1 0 < suc n
    go (yes q) f = let b : p n ≡ false = ap p (sym q) ∙ e in rw b (omega (arith, many-most p n))
    go (no q) f = some (p n) (f (omega arith) e)

-- a free slot is none of a party's
free-under : (w : List ℕ) (m : ℕ) → m ≢ 0 → vacant w < slots_of w → slots_held w m < slots_of w
unfolding slots_held
free-under w m z h = many-under (λ i. eqb (holder_of w i) m) (slots_of w) (vacant w) h (ne_eqb (holder_of w (vacant w)) m (λ e. z (sym e ∙ vacant-free w h)))

held-most : (w : List ℕ) (m : ℕ) → slots_held w m ≤ slots_of w
unfolding slots_held
held-most w m = many-most (λ i. eqb (holder_of w i) m) (slots_of w)

none_is : (w : List ℕ) (c : Caller) (m : ℕ) → m ≢ 0 → ours w ≡ true → is_party c.party ≡ true → overdrawn w c ≡ false → promised c ≡ slots_of w →
    holding w c ≡ slots_held w m → none_left w c ≡ none_free w
unfolding none_left
none_is w c m z o p d e h = go (dec_lt (vacant w) (slots_of w))
  where
    go : Dec (vacant w < slots_of w) → leb (promised c) (holding w c) ≡ leb (slots_of w) (vacant w)
    go (yes l) =
        let u = free-under w m z l in
        lt-leb (promised c) (holding w c) (omega (arith, u, e, h)) ∙ sym (lt-leb (slots_of w) (vacant w) l)
    go (no l) = all (leb (promised c) (holding w c)) refl ∙ sym (le-leb (slots_of w) (vacant w) (omega arith))
      where
        all : (b : Bool) → leb (promised c) (holding w c) ≡ b → leb (promised c) (holding w c) ≡ true
        all true q = q
        all false q = absurd (l (left-free w c o p d q))

pub sole-is : (w : List ℕ) (c : Caller) → Alone w c → Sole w c
unfolding overdrawn
sole-is w c (as_first o p a b n) =
    let party : is_party c.party ≡ true = ap is_party p in
    let within : overdrawn w c ≡ false =
    rw (a, b, n, le-ltb (slots_of w) (slots_of w + 0) (omega arith), le-ltb (slots_of w) (slots_held w first_mark) (held-most w first_mark)) in
    record {
      theirs = o;
      party = party;
      within = within;
      free = none_is w c first_mark (omega arith) o party within (ap (λ (q : ℕ). cond (eqb q 1) c.first c.second) p ∙ a)
          (ap (λ (q : ℕ). cond (eqb q 1) (slots_held w first_mark) (slots_held w second_mark)) p);
    }
sole-is w c (as-second o p a b n) =
    let party : is_party c.party ≡ true = ap is_party p in
    let within : overdrawn w c ≡ false =
    rw (a, b, n, le-ltb (slots_of w) (0 + slots_of w) (omega arith), le-ltb (slots_of w) (slots_held w second_mark) (held-most w second_mark)) in
    record {
      theirs = o;
      party = party;
      within = within;
      free = none_is w c second_mark (omega arith) o party within (ap (λ (q : ℕ). cond (eqb q 1) c.first c.second) p ∙ b)
          (ap (λ (q : ℕ). cond (eqb q 1) (slots_held w first_mark) (slots_held w second_mark)) p);
    }

-- ---- the law

-- what follows the same list
first_past : (xs ys zs : List (ℕ × Bool)) → first ys ≡ first zs → first (xs ++ ys) ≡ first (xs ++ zs)
unfolding first
first_past [] ys zs e = e
first_past (x ∷ xs) ys zs e = ap (cond x.1 x.0) (first_past xs ys zs e)

module _ (k : RoomKind) (s : Settings) (w : List ℕ) (t : ℕ) where
  sole-named : (key : Sent) → Sole w key.caller → (own : List (ℕ × Bool)) →
      first (faults s ++ (misfits k s w t key ++ own)) ≡ first (sole k s w t key own)
  unfolding misfits turns first
  sole-named key z own =
      first_past (faults s) (misfits k s w t key ++ own) (sole_misfits k s w t key ++ own) (rw (z.theirs, z.party, z.within))

sole-both : (k : RoomKind) (s : Settings) (w : List ℕ) (t : ℕ) (who : Caller) (other : List ℕ) (whose : Caller) (stale : ℕ) → Sole w who → Sole other whose →
    first (table_of k s w t (cleanup_both who other whose stale)) ≡ first (sole_table k s w t (cleanup_both who other whose stale))
unfolding first
sole-both kind.Absolute s w t who other whose stale x y =
    first_past (faults s) _ (sole_both kind.Absolute s w t other) (rw (x.theirs, x.party, x.within, y.theirs, y.party, y.within))
sole-both kind.Suppressed s w t who other whose stale x y =
    first_past (faults s) _ (sole_both kind.Suppressed s w t other) (rw (x.theirs, x.party, x.within, y.theirs, y.party, y.within))

-- the number is that of one party's table
pub alone-number : (k : RoomKind) (s : Settings) (w : List ℕ) (t : ℕ) (op : Op k) → Alone w (caller_in op) → Others op →
    first (table_of k s w t op) ≡ first (sole_table k s w t op)
unfolding Cleanup.misfits Clear.unclear turns first
alone-number k s w t (inc key rate c) a b =
    let x = sole-is w key.caller a in
    sole-named kind.Absolute s w t key x _ ∙
    ap (λ (z : Bool). first (sole kind.Absolute s w t key (absolute.inc_turns s (ring_of w) z t rate c (held_in w key)))) x.free
alone-number k s w t (is_allowed key) a b = sole-named kind.Absolute s w t key (sole-is w key.caller a) _
alone-number k s w t (get key) a b = sole-named kind.Absolute s w t key (sole-is w key.caller a) _
alone-number k s w t (draws key rate c draw) a b =
    let x = sole-is w key.caller a in
    sole-named kind.Suppressed s w t key x _ ∙
    ap (λ (z : Bool). first (sole kind.Suppressed s w t key (suppressed.inc_turns s (ring_of w) z t rate c draw (held_in w key)))) x.free
alone-number k s w t (snapshot key) a b = sole-named kind.Suppressed s w t key (sole-is w key.caller a) _
alone-number k s w t (get_factor key) a b =
    let x = sole-is w key.caller a in
    sole-named kind.Suppressed s w t key x _ ∙ ap (λ (z : Bool). first (sole kind.Suppressed s w t key (suppressed.factor_turns z (held_in w key)))) x.free
alone-number k s w t (set_rate key rate) a b = sole-named k s w t key (sole-is w key.caller a) _
alone-number k s w t (set key rate comparator count mode) a b =
    let x = sole-is w key.caller a in
    sole-named k s w t key x _ ∙ ap (λ (z : Bool). first (sole k s w t key (sets.set_turns k s z t rate comparator count mode (held_in w key)))) x.free
alone-number k s w t (delete key) a b = sole-named k s w t key (sole-is w key.caller a) _
alone-number k s w t (cleanup who stale) a b =
    let x = sole-is w who a in
    first_past (faults s) _ ((5, not (sized w && Cleanup.all_pass k s w)) ∷ (6, ltb t (last_of w)) ∷ []) (rw (x.theirs, x.party, x.within))
alone-number k s w t (cleanup_both who other whose stale) a b = sole-both k s w t who other whose stale (sole-is w who a) (sole-is other whose b)
alone-number k s w t (clear who) a b =
    let x = sole-is w who a in
    first_past (faults s) _ ((5, not (sized w)) ∷ (6, ltb t (last_of w)) ∷ []) (rw (x.theirs, x.party, x.within, and-true' (sized w)))
  where
    and-true' : (y : Bool) → y && true ≡ y
    and-true' true = refl
    and-true' false = refl

-- and so the answer is: by that number, and what the key holds
pub alone-answer : (k : RoomKind) (s : Settings) (w : List ℕ) (t : ℕ) (op : Op k) → Alone w (caller_in op) → Others op →
    answer_row k s w t op ≡
    cond (eqb (first (sole_table k s w t op)) 0) (row_for k s t op (held_in w (key_in op))) (refused_row (first (sole_table k s w t op)))
alone-answer k s w t op a b =
    told-row k s w t op ∙ ap (λ (n : ℕ). cond (eqb n 0) (row_for k s t op (held_in w (key_in op))) (refused_row n)) (alone-number k s w t op a b)

-- ---- a room that is one party's from the start stays so, whatever it calls

all-keyed : {k : RoomKind} (cs : List (Call k)) → AllBytes cs → AllKeyed cs
all-keyed [] by = tt
all-keyed (c ∷ cs) by = (bytes-keyed c.op by.0, all-keyed cs by.1)

empty-slots : (n m : ℕ) → slots_of (empty n m) ≡ n
unfolding empty
empty-slots n m = refl

pub alone-after : (k : RoomKind) (s : Settings) (slots ring l u : ℕ) → fits slots ring l ≡ true → (cs : List (Call k)) → AllBytes cs → Rising u cs →
    AllGive slots 0 cs → Alone (words k s (empty slots ring) cs) (record { party = 1; first = slots; second = 0 })
alone-after k s slots ring l u e cs by r g =
    let w = empty slots ring in
    let f = (beside-own k s 1 slots 0 w refl u cs (empty-fine k s slots ring l slots 0 e) by r g).alike.one in
    let n : slots_of (words k s w cs) ≡ slots_of w =
    (history k s (λ y. slots_of y ≡ slots_of w) (λ y t op v o h m. (step-leaves k s y t op v o.sound.room m).slots ∙ h) w (empty-sane k s slots ring l e)
    refl cs
    (all-keyed cs by)).1 in
    as_first f.sane.sound.theirs refl (sym (n ∙ empty-slots slots ring)) refl (omega (arith, f.kept.second))
