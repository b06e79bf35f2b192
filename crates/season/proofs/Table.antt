-- The laws of a gateway's table: what it tells of a controller once it has remembered a number, of this controller and of every other.
-- Assumes nothing.
use Rattle.std.specs.Prelude.{◌≡◌, Bool, not, ◌||◌, ◌≢◌, ℕ, zero, suc, ◌+◌, ◌-◌, ◌≤◌, ◌<◌, replicate}
use Rattle.std.proofs.Math.Path.{refl, sym, ap}
use Rattle.std.proofs.Common.{subst, ◌∙◌, arith}
use Rattle.std.proofs.Math.Bool.{true, false, cond}
use Rattle.std.proofs.lemmas.Bool.{false≢true}
use mathlib.Core.List.{List, [], ◌∷◌}
use Rattle.std.proofs.Math.Decide.{ℕ_discrete, dec_lt}
use Rattle.std.proofs.Math.ListN.{length, get_or, set, length-set, get_or-eq_default}
use Rattle.std.proofs.lemmas.List.{length-replicate, get_or-replicate}
use Rattle.std.proofs.Math.Seq.{get_or-set_same, get_or-set_other}
use Rattle.std.proofs.Math.Dec.{ltb}
use borrow.Author.Tests.{lt-ltb, le-ltb, ltb-true, ltb-false, eq-eqb}
use Rattle.base.specs.Decides.{true-and, not_so, so-not}
use Rattle.base.specs.Seek.{seek, seek-start, seek-le, seek-passes, seek-before, seek-only}
use Rattle.base.specs.Writes.{writes, length-writes, read_past, read-nth}
use Rattle.layout.specs.Layout.{slots_word, ring_word, last_word, firsts_word, seconds_word, len_word, a_word, b_word, c_word, d_word, nobody, longest_key}
use Rattle.keys.specs.declared.Key.{Key}
use Rattle.keys.specs.Keys.{key_of, same_key}
use Rattle.room.specs.Room.{entry_of, holder_of, key_at, key_sound, held, entered, with_use}
use Rattle.room.specs.Entries.{holder-same, held-length, held-other, held-here, held-else}
use Rattle.frame.specs.Keys.{Bytes, key-injective}
use Rattle.frame.specs.Distinct.{same-key, key-same}
use Rattle.frame.specs.Frame.{key-ext}
use Rattle.table.specs.Table.{table_words, most_controllers, known_of, empty_table, numbered, number_at, names, once}
use Rattle.table.specs.Laws.{table_is, entry-sound, unknown-last}
use Rattle.table.specs.Table.{entry_from, entry_for, is_known, sound_entry, sound_for, last_number, remembered}
use Rattle.demand3.specs.History.{same_bytes}
use Rattle.demand3.proofs.History.{same-bytes, bytes_same}
use Rattle.season.specs.Table.{Sound, Stands, Remembers, Tells}

-- ---- entries

-- a search does not go down
seek-low : (p : ℕ → Bool) (n s : ℕ) → s ≤ seek p s n
unfolding seek
seek-low p zero s = omega arith
seek-low p (suc n) s = go (p s) (seek-low p n (suc s))
  where
    go : (t : Bool) → suc s ≤ seek p (suc s) n → s ≤ cond t s (seek p (suc s) n)
    go true h = omega arith
    go false h = omega arith

names_key : (w : List ℕ) (k : Key) (i : ℕ) → names w k i ≡ true → key_at w i ≡ k
unfolding names
names_key w k i e = same-key (key_at w i) k e

key-names : (w : List ℕ) (k : Key) (i : ℕ) → key_at w i ≡ k → names w k i ≡ true
unfolding names
key-names w k i e = ap (λ (x : Key). same_key x k) e ∙ key-same k

module _ (w key : List ℕ) where
  -- of a short key the entry is the search's
  sought : length key ≤ longest_key → entry_for w key ≡ seek (names w (key_of nobody key)) 0 (known_of w)
  unfolding entry_for
  sought l =
      ap (λ (z : Bool). cond z (known_of w) (entry_from w (key_of nobody key) 0)) (le-ltb longest_key (length key) l) ∙
      sym (seek-start (names w (key_of nobody key)) (known_of w))

  pub long-unknown : longest_key < length key → is_known w key ≡ false
  unfolding entry_for is_known
  long-unknown l =
      ap (λ (z : Bool). ltb (cond z (known_of w) (entry_from w (key_of nobody key) 0)) (known_of w)) (lt-ltb longest_key (length key) l) ∙
      le-ltb (known_of w) (known_of w) (omega arith)

  pub known-stands : is_known w key ≡ true → Stands w key
  unfolding is_known
  known-stands e = go (dec_lt longest_key (length key))
    where
      go : Dec (longest_key < length key) → Stands w key
      go (yes l) = absurd (so-not (is_known w key) (long-unknown l) e)
      go (no l) =
          let h : entry_for w key < known_of w = ltb-true _ _ e in
          let q = sought (omega arith) in
          let k : key_at w (seek (names w (key_of nobody key)) 0 (known_of w)) ≡ key_of nobody key =
          names_key w (key_of nobody key) _ (seek-passes (names w (key_of nobody key)) (known_of w) 0 (omega (arith, q))) in
          record { short = omega arith; inside = h; key-is = ap (key_at w) q ∙ k }

  -- a key that is no entry's is unknown, and the other way round
  pub lacks-unknown : ((i : ℕ) → i < known_of w → key_at w i ≢ key_of nobody key) → is_known w key ≡ false
  lacks-unknown f = not_so (is_known w key) (λ e. let s = known-stands e in f (entry_for w key) s.inside s.key-is)

  pub unknown-lacks : is_known w key ≡ false → length key ≤ longest_key → (i : ℕ) → i < known_of w → key_at w i ≢ key_of nobody key
  unfolding is_known
  unknown-lacks e l i h q =
      let n : known_of w ≤ entry_for w key = ltb-false _ _ e in
      let s = sought l in
      so-not (names w (key_of nobody key) i) (seek-before (names w (key_of nobody key)) (known_of w) 0 i (omega arith) (omega arith))
      (key-names w (key_of nobody key) i q)

  -- a key that is an entry's has no other, and is found there
  module _ (o : Sound w) (i : ℕ) (l : length key ≤ longest_key) (h : i < known_of w) (e : key_at w i ≡ key_of nobody key) where
    pub found : entry_for w key ≡ i
    found =
        sought l ∙
        seek-only (names w (key_of nobody key)) (known_of w) i h (key-names w (key_of nobody key) i e)
        (λ j p q. o.once j i p h (names_key w (key_of nobody key) j q ∙ sym e))

    pub entry_known : is_known w key ≡ true
    unfolding is_known
    entry_known = lt-ltb (entry_for w key) (known_of w) (omega (arith, found))

    pub entry-last : last_number w key ≡ number_at w i
    unfolding last_number
    entry-last = ap (λ (z : Bool). cond z (number_at w (entry_for w key)) 0) entry_known ∙ ap (number_at w) found

-- ---- such a table is never answered 5, and may begin a new season

entry-right : (w key : List ℕ) → Sound w → Bytes key → is_known w key ≡ true → sound_entry w (entry_for w key) ≡ true
unfolding sound_entry once
entry-right w key o b e =
    let s = known-stands w key e in
    let i = entry_for w key in
    true-and (key_sound w i) _ (entry-sound w key b s.inside) (true-and _ _ (o.numbers i s.inside) (eq-eqb _ _ (alone i s.inside)))
  where
    alone : (i : ℕ) → i < known_of w → entry_from w (key_at w i) (i + 1) ≡ known_of w
    alone i h = go (dec_lt (entry_from w (key_at w i) (i + 1)) (known_of w))
      where
        go : Dec (entry_from w (key_at w i) (i + 1) < known_of w) → entry_from w (key_at w i) (i + 1) ≡ known_of w
        go (yes l) =
            let p = names w (key_at w i) in
            let j = seek p (i + 1) (known_of w - (i + 1)) in
            let n : j < i + 1 + (known_of w - (i + 1)) = omega arith in
            let q : j ≡ i = o.once j i l h (names_key w (key_at w i) j (seek-passes p (known_of w - (i + 1)) (i + 1) n)) in
            absurd (omega (arith, q, seek-low p (known_of w - (i + 1)) (i + 1)))
        go (no l) = omega (arith, seek-le (names w (key_at w i)) (known_of w - (i + 1)) (i + 1))

pub sound-for : (w key : List ℕ) → Sound w → Bytes key → sound_for w key ≡ true
unfolding sound_for
sound-for w key o b = true-and _ _ (table_is w o.table) (go (is_known w key) refl)
  where
    go : (z : Bool) → is_known w key ≡ z → not z || sound_entry w (entry_for w key) ≡ true
    go true e = entry-right w key o b e
    go false e = refl

-- ---- an empty table

empty-word : (j : ℕ) → get_or empty_table j 0 ≡ 0
unfolding empty_table
empty-word j = go (dec_lt j table_words)
  where
    go : Dec (j < table_words) → ◌≡◌ {A = ℕ} (get_or (replicate table_words 0) j 0) 0
    go (yes l) = get_or-replicate table_words j 0 0 l
    go (no l) = get_or-eq_default (replicate table_words 0) 0 {n = j} (omega (arith, length-replicate {A = ℕ} table_words 0))

pub empty-knows : known_of empty_table ≡ 0
empty-knows = empty-word slots_word

pub empty-sound : Sound empty_table
unfolding empty_table
empty-sound = record {
  table = record {
    long = length-replicate {A = ℕ} table_words 0;
    few = omega (arith, empty-word slots_word);
    no-ring = empty-word ring_word;
    no-reading = empty-word last_word;
  };
  numbers = λ i h. absurd (omega (arith, empty-word slots_word, h));
  once = λ i j h l e. absurd (omega (arith, empty-word slots_word, h));
}

pub empty-unknown : (key : List ℕ) → is_known empty_table key ≡ false
empty-unknown key = lacks-unknown empty_table key (λ i h e. omega (arith, empty-word slots_word, h))

-- ---- one entry changed, or a new one behind the others

module _
    (w v : List ℕ) (at : ℕ) (key : List ℕ) (n : ℕ) (o : Sound w) (m : Remembers w v at key n) (b : Bytes key) (short : length key ≤ longest_key)
    (r : numbered n ≡ true) where
  remembers-sound : Sound v
  remembers-sound = record {
    table = m.table;
    numbers = λ i h. number i h (ℕ_discrete i at);
    once = λ i j h l e. go i j h l e (ℕ_discrete i at) (ℕ_discrete j at);
  }
    where
      number : (i : ℕ) → i < known_of v → Dec (i ≡ at) → numbered (number_at v i) ≡ true
      number i h (yes q) = ap (λ (j : ℕ). numbered (number_at v j)) q ∙ ap numbered m.number-here ∙ r
      number i h (no q) = let l = m.no-others i h q in ap numbered (m.numbers i l q) ∙ o.numbers i l

      -- another entry has another key
      apart : (j : ℕ) → j < known_of v → key_at v j ≡ key_at v at → j ≢ at → ⊥
      apart j l e q = let h = m.no-others j l q in q (m.only j h (sym (m.keys j h q) ∙ e ∙ m.key_here))

      go : (i j : ℕ) → i < known_of v → j < known_of v → key_at v i ≡ key_at v j → Dec (i ≡ at) → Dec (j ≡ at) → i ≡ j
      go i j h l e (yes p) (yes q) = p ∙ sym q
      go i j h l e (yes p) (no q) = absurd (apart j l (sym e ∙ ap (key_at v) p) q)
      go i j h l e (no p) (yes q) = absurd (apart i h (e ∙ ap (key_at v) q) p)
      go i j h l e (no p) (no q) =
          let h' = m.no-others i h p in
          let l' = m.no-others j l q in
          o.once i j h' l' (sym (m.keys i h' p) ∙ e ∙ m.keys j l' q)

  -- of this controller
  own-known : is_known v key ≡ true
  own-known = entry_known v key remembers-sound at short m.inside m.key_here

  own-last : last_number v key ≡ n
  own-last = entry-last v key remembers-sound at short m.inside m.key_here ∙ m.number-here

  -- of another one
  module _ (k : List ℕ) (bk : Bytes k) (ne : key ≢ k) where
    other-known : is_known w k ≡ true → (is_known v k ≡ true) × (last_number v k ≡ last_number w k)
    other-known e =
        let s = known-stands w k e in
        let i = entry_for w k in
        let q : i ≢ at = λ p.
        let l : at < known_of w = subst (λ (j : ℕ). j < known_of w) p s.inside in
        ne (key-injective nobody nobody key k b bk short s.short (sym (m.own l) ∙ ap (key_at w) (sym p) ∙ s.key-is)) in
        let h : i < known_of v = omega (arith, s.inside, m.no-fewer) in
        let y : key_at v i ≡ key_of nobody k = m.keys i s.inside q ∙ s.key-is in (
          entry_known v k remembers-sound i s.short h y,
          entry-last v k remembers-sound i s.short h y ∙ m.numbers i s.inside q ∙ sym (entry-last w k o i s.short s.inside s.key-is),
        )

    other-unknown : is_known w k ≡ false → is_known v k ≡ false
    other-unknown e =
        not_so (is_known v k) (λ y.
        let s = known-stands v k y in
        go (entry_for v k) s.inside s.key-is s.short (ℕ_discrete (entry_for v k) at))
      where
        go : (i : ℕ) → i < known_of v → key_at v i ≡ key_of nobody k → length k ≤ longest_key → Dec (i ≡ at) → ⊥
        go i h y l (yes q) = ne (key-injective nobody nobody key k b bk short l (sym m.key_here ∙ ap (key_at v) (sym q) ∙ y))
        go i h y l (no q) = let p = m.no-others i h q in unknown-lacks w k e l i p (sym (m.keys i p q) ∙ y)

  remembers-known : (k : List ℕ) → Bytes k → is_known v k ≡ same_bytes key k || is_known w k
  remembers-known k bk = go (same_bytes key k) refl (is_known w k) refl
    where
      go : (z : Bool) → same_bytes key k ≡ z → (y : Bool) → is_known w k ≡ y → is_known v k ≡ z || y
      go true e y p = ap (is_known v) (sym (same-bytes key k e)) ∙ own-known
      go false e true p = (other-known k bk (λ q. false≢true (sym e ∙ ap (same_bytes key) (sym q) ∙ bytes_same key)) p).0
      go false e false p = other-unknown k bk (λ q. false≢true (sym e ∙ ap (same_bytes key) (sym q) ∙ bytes_same key)) p

  remembers-last : (k : List ℕ) → Bytes k → last_number v k ≡ cond (same_bytes key k) n (last_number w k)
  remembers-last k bk = go (same_bytes key k) refl (is_known w k) refl
    where
      go : (z : Bool) → same_bytes key k ≡ z → (y : Bool) → is_known w k ≡ y → last_number v k ≡ cond z n (last_number w k)
      go true e y p = ap (last_number v) (sym (same-bytes key k e)) ∙ own-last
      go false e true p = (other-known k bk (λ q. false≢true (sym e ∙ ap (same_bytes key) (sym q) ∙ bytes_same key)) p).1
      go false e false p =
          unknown-last v k (other-unknown k bk (λ q. false≢true (sym e ∙ ap (same_bytes key) (sym q) ∙ bytes_same key)) p) ∙ sym (unknown-last w k p)

-- ---- what `remembered` does

module _ (w key : List ℕ) (n : ℕ) (o : Sound w) where
  -- a known controller: its entry alone, and of that the number
  known-remembers : is_known w key ≡ true → Remembers w (with_use w (entry_for w key) n) (entry_for w key) key n
  unfolding with_use
  known-remembers e =
      let s = known-stands w key e in
      let at = entry_for w key in
      let v = set w (entry_of at) n in
      let f : (j : ℕ) → j ≢ entry_of at → get_or v j 0 ≡ get_or w j 0 = λ j q. get_or-set_other w (entry_of at) j n 0 q in
      let l : length v ≡ length w = length-set w (entry_of at) n in
      let k : (i : ℕ) → key_at v i ≡ key_at w i =
      λ i. key-ext w v i (holder-same w v (f firsts_word (omega arith)) (f seconds_word (omega arith)) i) (λ j p q. f j (omega arith)) in
      record {
        table = record {
          long = l ∙ o.table.long;
          few = omega (arith, f slots_word (omega arith), o.table.few);
          no-ring = f ring_word (omega arith) ∙ o.table.no-ring;
          no-reading = f last_word (omega arith) ∙ o.table.no-reading;
        };
        inside = omega (arith, f slots_word (omega arith), s.inside);
        key_here = k at ∙ s.key-is;
        number-here = get_or-set_same w (entry_of at) n 0 (omega (arith, s.inside, o.table.few, o.table.long));
        count = rw e (omega (arith, f slots_word (omega arith)));
        no-fewer = omega (arith, f slots_word (omega arith));
        no-others = λ i h q. omega (arith, f slots_word (omega arith), h);
        keys = λ i h q. k i;
        numbers = λ i h q. f (entry_of i) (omega arith);
        only = λ i h q. sym (found w key o i s.short h q);
        own = λ h. s.key-is;
      }

  -- another one: a new entry
  new-remembers : is_known w key ≡ false → length key ≤ longest_key → known_of w < most_controllers →
      Remembers w (entered (set w slots_word (known_of w + 1)) (known_of w) n (key_of nobody key)) (known_of w) key n
  unfolding entered key_at key_of
  new-remembers e short h =
      let k = key_of nobody key in
      let at = known_of w in
      let x = entry_of at in
      let w' = set w slots_word (at + 1) in
      let y = held w' at nobody in
      let ws : List (ℕ × ℕ) = (x, n) ∷ (x + len_word, k.len) ∷ (x + a_word, k.a) ∷ (x + b_word, k.b) ∷ (x + c_word, k.c) ∷ (x + d_word, k.d) ∷ [] in
      let v = writes y ws in
      let long : length w' ≡ table_words = length-set w slots_word (at + 1) ∙ o.table.long in
      let z : length y ≡ table_words = held-length w' at nobody ∙ long in
      let there : seconds_word < length w' = omega (arith, long) in
      let f : (j : ℕ) → j ≢ slots_word → j ≢ firsts_word → j ≢ seconds_word → j < x → get_or v j 0 ≡ get_or w j 0 =
      λ j p q r l. read_past ws y j (omega arith) ∙ held-other w' at nobody j q r ∙ get_or-set_other w slots_word j (at + 1) 0 p in
      let slots : known_of v ≡ at + 1 =
      read_past ws y slots_word (omega arith) ∙ held-other w' at nobody slots_word (omega arith) (omega arith) ∙
      get_or-set_same w slots_word (at + 1) 0 (omega (arith, o.table.long)) in
      let hs : (i : ℕ) → holder_of v i ≡ holder_of y i =
      holder-same y v (read_past ws y firsts_word (omega arith)) (read_past ws y seconds_word (omega arith)) in
      let before : (i : ℕ) → i ≢ at → holder_of v i ≡ holder_of w i =
      λ i ne. hs i ∙ held-else w' at nobody there i ne ∙
      holder-same w w' (get_or-set_other w slots_word firsts_word (at + 1) 0 (omega arith)) (get_or-set_other w slots_word seconds_word (at + 1) 0 (omega arith)) i in
      let holder : holder_of v at ≡ nobody = hs at ∙ held-here w' at nobody there (omega arith) in
      let len : get_or v (x + len_word) 0 ≡ k.len = read-nth ws 1 y (omega arith) (omega (arith, z, h)) (omega arith) in
      let a : get_or v (x + a_word) 0 ≡ k.a = read-nth ws 2 y (omega arith) (omega (arith, z, h)) (omega arith) in
      let b : get_or v (x + b_word) 0 ≡ k.b = read-nth ws 3 y (omega arith) (omega (arith, z, h)) (omega arith) in
      let c : get_or v (x + c_word) 0 ≡ k.c = read-nth ws 4 y (omega arith) (omega (arith, z, h)) (omega arith) in
      let d : get_or v (x + d_word) 0 ≡ k.d = read-nth ws 5 y (omega arith) (omega (arith, z, h)) tt in
      record {
        table = record {
          long = length-writes ws y ∙ z;
          few = omega (arith, slots, h);
          no-ring = f ring_word (omega arith) (omega arith) (omega arith) (omega arith) ∙ o.table.no-ring;
          no-reading = f last_word (omega arith) (omega arith) (omega arith) (omega arith) ∙ o.table.no-reading;
        };
        inside = omega (arith, slots);
        key_here = λ i. record { holder = holder i; len = len i; a = a i; b = b i; c = c i; d = d i };
        number-here = read-nth ws 0 y (omega arith) (omega (arith, z, h)) (omega arith);
        count = rw e (omega (arith, slots));
        no-fewer = omega (arith, slots);
        no-others = λ i l q. omega (arith, slots, l, q);
        keys = λ i l q. key-ext w v i (before i (omega arith)) (λ j y y'. f j (omega arith) (omega arith) (omega arith) (omega arith));
        numbers = λ i l q. f (entry_of i) (omega arith) (omega arith) (omega arith) (omega arith);
        only = λ i l q. absurd (unknown-lacks w key e short i l q);
        own = λ l. absurd (omega (arith, l));
      }

-- a table that has room for the controller, and a number that is one
module _
    (w key : List ℕ) (n : ℕ) (o : Sound w) (b : Bytes key) (short : length key ≤ longest_key) (r : numbered n ≡ true)
    (free : is_known w key ≡ false → known_of w < most_controllers) where
  somewhere : (at : ℕ) × Remembers w (remembered w key n) at key n
  unfolding remembered
  somewhere = go (is_known w key) refl
    where
      go : (z : Bool) → is_known w key ≡ z →
          (at : ℕ) × Remembers w (cond z (with_use w (entry_for w key) n) (entered (set w slots_word (known_of w + 1)) (known_of w) n (key_of nobody key))) at key n
      go true e = (entry_for w key, known-remembers w key n o e)
      go false e = (known_of w, new-remembers w key n o e short (free e))

  pub remembered-tells : Tells w (remembered w key n) key n
  remembered-tells =
      let v = remembered w key n in
      let s = somewhere in
      record {
        sound = remembers-sound w v s.0 key n o s.1 b short r;
        known = remembers-known w v s.0 key n o s.1 b short r;
        last = remembers-last w v s.0 key n o s.1 b short r;
        count = s.1.count;
      }
