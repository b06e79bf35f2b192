-- The laws of a table: the test and the facts, where a controller stands, and what the code has tested turned into what `looked` says.
-- Assumes nothing.
use Rattle.std.specs.Prelude.{◌≡◌, Bool, cond, List, ◌≢◌, ℕ, ◌+◌, ◌-◌, ◌≤◌, ◌<◌, length, set, replicate, leb, ltb, eqb, Ok, Some, None}
use Rattle.std.proofs.Math.Path.{refl, sym}
use Rattle.std.proofs.Common.{ap, ◌∙◌, arith, length-set, get_or-set_same}
use Rattle.std.proofs.Math.Bool.{true, false}
use borrow.Author.Tests.{le-leb, leb-true, eq-eqb, ne_eqb, eqb-true, lt-ltb, le-ltb, ltb-true, ltb-false, lt-leb}
use Rattle.base.specs.Decides.{and-true, other-true, not_so}
use Rattle.base.specs.Seek.{seek-le, seek-passes}
use Rattle.layout.specs.Layout.{slots_word, nobody, longest_key}
use Rattle.common.specs.Refusals.{refuse}
use Rattle.keys.specs.declared.Key.{Key}
use Rattle.keys.specs.Keys.{key_of, key_fits}
use Rattle.room.specs.Room.{Room, Directory, ring_of, key_at, key_sound, with_use, entered, if_fits}
use Rattle.room.specs.Entries.{held-length}
use Rattle.frame.specs.Keys.{Bytes, key-fits}
use Rattle.frame.specs.Distinct.{same-key}
use Rattle.table.specs.Table.{most_controllers, table_words, known_of, is_table, Table, empty_table, TableMade, most_number, numbered, number_at, names}
use Rattle.table.specs.Table.{entry_from, entry_for, is_known, once, sound_entry, sound_for, last_number, remembered, looked, seen_sound, seen_at, seen_last}

-- ---- a table: the test and the facts

pub table_is : (w : List ℕ) → Table w → is_table w ≡ true
unfolding is_table
table_is w o = simp (eq-eqb _ _ o.long, le-leb _ _ o.few, eq-eqb _ _ o.no-ring, eq-eqb _ _ o.no-reading)

pub is-table : (w : List ℕ) → is_table w ≡ true → Table w
unfolding is_table
is-table w e =
    let p = and-true (eqb (length w) table_words) _ e in
    let q = and-true (leb (known_of w) most_controllers) _ p.1 in
    let s = and-true (eqb (ring_of w) 0) _ q.1 in
    record { long = eqb-true _ _ p.0; few = leb-true _ _ q.0; no-ring = eqb-true _ _ s.0; no-reading = eqb-true _ _ s.1 }

pub no_table : (w : List ℕ) → (Table w → ⊥) → is_table w ≡ false
no_table w z = not_so (is_table w) (λ e. z (is-table w e))

-- it has a directory, as a room has
pub table-directory : {w : List ℕ} → Table w → Directory w
table-directory o = record { few = o.few; long = omega (arith, o.long, o.few) }

-- but it is none
pub no_room : {w : List ℕ} → Table w → Room w → ⊥
no_room o r = omega (arith, o.no-ring, r.some)

-- ---- made

pub table-made : (w v : List ℕ) → length w ≡ table_words → v ≡ replicate (length w) 0 → TableMade w (Ok tt) v
unfolding empty_table
table-made w v l e =
    let f : eqb (length w) table_words ≡ true = eq-eqb _ _ l in
    record { answer = sym (ap if_fits f); words = e ∙ ap (λ (n : ℕ). replicate n 0) l ∙ sym (ap (λ (x : Bool). cond x empty_table w) f) }

pub not_made : (w : List ℕ) → length w ≢ table_words → TableMade w (refuse 5) w
not_made w z =
    let f : eqb (length w) table_words ≡ false = ne_eqb _ _ z in
    record { answer = sym (ap if_fits f); words = sym (ap (λ (x : Bool). cond x empty_table w) f) }

-- ---- where a controller stands

pub entry-le : (w key : List ℕ) → entry_for w key ≤ known_of w
unfolding entry_for
entry-le w key = go (ltb longest_key (length key))
  where
    go : (x : Bool) → cond x (known_of w) (entry_from w (key_of nobody key) 0) ≤ known_of w
    go true = omega arith
    go false = omega (arith, seek-le (names w (key_of nobody key)) (known_of w - 0) 0)

-- the key of a controller's entry is the one that was looked for, and has at most 32 bytes
pub entry_key : (w key : List ℕ) → entry_for w key < known_of w → (length key ≤ longest_key) × (key_at w (entry_for w key) ≡ key_of nobody key)
unfolding entry_for names
entry_key w key h = go (ltb longest_key (length key)) refl h
  where
    go : (x : Bool) → ltb longest_key (length key) ≡ x → cond x (known_of w) (entry_from w (key_of nobody key) 0) < known_of w →
        (length key ≤ longest_key) × (key_at w (cond x (known_of w) (entry_from w (key_of nobody key) 0)) ≡ key_of nobody key)
    go true e l = absurd (omega arith)
    go false e l =
        (ltb-false longest_key (length key) e, same-key _ _ (seek-passes (names w (key_of nobody key)) (known_of w - 0) 0 (omega arith)))

pub entry-sound : (w key : List ℕ) → Bytes key → entry_for w key < known_of w → key_sound w (entry_for w key) ≡ true
entry-sound w key y h = let e = entry_key w key h in ap key_fits e.1 ∙ key-fits nobody key y e.0

module _ (w key : List ℕ) where
  pub known-yes : entry_for w key < known_of w → is_known w key ≡ true
  unfolding is_known
  known-yes h = lt-ltb _ _ h

  pub known-no : known_of w ≤ entry_for w key → is_known w key ≡ false
  unfolding is_known
  known-no h = le-ltb _ _ h

  pub known-stands : is_known w key ≡ true → entry_for w key < known_of w
  unfolding is_known
  known-stands e = ltb-true _ _ e

  -- a controller that is not known is to stand behind the others
  pub unknown-stands : is_known w key ≡ false → entry_for w key ≡ known_of w
  unfolding is_known
  unknown-stands e = omega (arith, ltb-false (entry_for w key) (known_of w) e, entry-le w key)

  -- and has no last number
  pub unknown-last : is_known w key ≡ false → last_number w key ≡ 0
  unfolding last_number
  unknown-last e = rw e

-- ---- a number, and an entry that stands once

pub number_in : (n : ℕ) → numbered n ≡ true → (1 ≤ n) × (n ≤ most_number)
unfolding numbered
number_in n e = let p = and-true (leb 1 n) _ e in (leb-true _ _ p.0, leb-true _ _ p.1)

module _ (w : List ℕ) (i : ℕ) where
  pub once-not : numbered (number_at w i) ≡ false → false ≡ once w i
  unfolding once
  once-not e = sym (rw e)

  pub once-else : numbered (number_at w i) ≡ true → eqb (entry_from w (key_at w i) (i + 1)) (known_of w) ≡ once w i
  unfolding once
  once-else e = sym (rw e)

-- ---- sound for a controller

module _ (w key : List ℕ) where
  pub sound-table : sound_for w key ≡ true → Table w
  unfolding sound_for
  sound-table e = is-table w (and-true (is_table w) _ e).0

  pub sound-not : (Table w → ⊥) → sound_for w key ≡ false
  unfolding sound_for
  sound-not z = rw (no_table w z)

  pub sound-number : sound_for w key ≡ true → is_known w key ≡ true → numbered (last_number w key) ≡ true
  unfolding sound_for sound_entry once last_number
  sound-number e k =
      let p = other-true (is_known w key) _ k (and-true (is_table w) _ e).1 in
      rw k (and-true _ _ (and-true (key_sound w (entry_for w key)) _ p).1).0

  pub sound-unknown : Table w → is_known w key ≡ false → sound_for w key ≡ true
  unfolding sound_for
  sound-unknown o e = rw (table_is w o, e)

  pub sound-known : Table w → Bytes key → is_known w key ≡ true → sound_for w key ≡ once w (entry_for w key)
  unfolding sound_for sound_entry
  sound-known o y e = rw (table_is w o, e, entry-sound w key y (known-stands w key e))

  -- ---- what the code has tested, as `looked` says it

  pub looked-not : (Table w → ⊥) → None ≡ looked w key
  unfolding looked
  looked-not z = sym (rw (sound-not z))

  pub looked-new : (at : ℕ) → Table w → at ≡ entry_for w key → known_of w ≤ at → Some (record { at = at; last = 0 }) ≡ looked w key
  unfolding looked last_number
  looked-new at o e h =
      let u : is_known w key ≡ false = known-no w key (omega (arith, e)) in
      sym (rw (sound-unknown o u, u, e))

  module _ (at : ℕ) (o : Table w) (y : Bytes key) (e : at ≡ entry_for w key) (h : at < known_of w) where
    known : is_known w key ≡ true
    known = known-yes w key (omega (arith, e))

    pub looked-unsound : once w at ≡ false → None ≡ looked w key
    unfolding looked
    looked-unsound f = sym (rw (sound-known o y known, ← e, f))

    pub looked-known : (n : ℕ) → n ≡ number_at w at → once w at ≡ true → Some (record { at = at; last = n }) ≡ looked w key
    unfolding looked last_number
    looked-known n f g = sym (rw (sound-known o y known, ← e, g, known, f))

  -- ---- a look's fields, to whoever has looked

  pub looked-sound : seen_sound (looked w key) ≡ sound_for w key
  unfolding looked
  looked-sound = go (sound_for w key)
    where
      go : (x : Bool) → seen_sound (cond x (Some (record { at = entry_for w key; last = last_number w key })) None) ≡ x
      go true = refl
      go false = refl

  -- an unsound table has no last number
  pub looked-nothing : sound_for w key ≡ false → seen_last (looked w key) ≡ 0
  unfolding looked
  looked-nothing e = rw e

  pub looked-at : sound_for w key ≡ true → seen_at (looked w key) ≡ entry_for w key
  unfolding looked
  looked-at e = rw e

  pub looked-last : sound_for w key ≡ true → seen_last (looked w key) ≡ last_number w key
  unfolding looked
  looked-last e = rw e

  -- ---- remembered

  pub remembered-known : (at number : ℕ) → at ≡ entry_for w key → at < known_of w → with_use w at number ≡ remembered w key number
  unfolding remembered
  remembered-known at number e h = sym (rw (known-yes w key (omega (arith, e)), ← e))

  pub remembered-new : (at number : ℕ) → at ≡ entry_for w key → known_of w ≤ at →
      entered (set w slots_word (known_of w + 1)) (known_of w) number (key_of nobody key) ≡ remembered w key number
  unfolding remembered
  remembered-new at number e h = sym (rw (known-no w key (omega (arith, e))))

-- one controller more: its entry is there
pub raised-ready : (w : List ℕ) → Table w → known_of w < most_controllers →
    Directory (set w slots_word (known_of w + 1)) × (known_of w < known_of (set w slots_word (known_of w + 1)))
raised-ready w o h =
    let v = set w slots_word (known_of w + 1) in
    let n : known_of v ≡ known_of w + 1 = get_or-set_same w slots_word (known_of w + 1) 0 (omega (arith, o.long)) in
    let l : length v ≡ length w = length-set w slots_word (known_of w + 1) in
    (record { few = omega arith; long = omega (arith, o.long) }, omega arith)

pub raised-length : (w v : List ℕ) (i number : ℕ) (k : Key) → v ≡ entered (set w slots_word (known_of w + 1)) i number k → length v ≡ length w
unfolding entered
raised-length w v i number k e = ap length e ∙ simp (length-set, held-length)

pub number-low : (n : ℕ) → n < 1 → false ≡ numbered n
unfolding numbered
number-low n h = sym (rw (lt-leb 1 n h))

pub number-else : (n : ℕ) → 1 ≤ n → leb n most_number ≡ numbered n
unfolding numbered
number-else n h = sym (rw (le-leb 1 n h))
