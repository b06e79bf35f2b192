-- What the code knows at each return, joined to the definitions; and that a block's bytes go in one after the other.
-- Assumes nothing.
use Rattle.std.specs.Prelude.{◌≡◌, Bool, true, false, cond, ◌&&◌, ℕ, suc, ◌+◌, ◌≤◌, ◌<◌, min, length, get_or, take, drop, set, ltb, Result, Ok, Err}
use Rattle.std.proofs.Math.Path.{refl, ap}
use Rattle.std.proofs.Common.{sym, ◌∙◌, arith, length-append, drop_of_length-le, length-take-le, take_all, take-suc, drop-cons, lt-ltb, le-ltb}
use mathlib.Core.List.{List, [], ◌∷◌, ◌++◌, append_assoc, append-nil}
use Rattle.std.proofs.Math.Numerals.{add-one}
use Rattle.std.proofs.Math.Decide.{dec_lt}
use Rattle.std.proofs.Math.Seq.{set_out}
use Rattle.printing.specs.Printing.{Put, put-none, put-append}
use Rattle.common.specs.declared.refusal.Refusal.{Refusal}
use Rattle.room.specs.Room.{if_fits, Made}
use Rattle.desk_turn.specs.declared.Program.{Program}
use Rattle.desk_feed.specs.declared.Desk.{Desk}
use Rattle.desk_turn.specs.declared.Phase.{Phase}
use Rattle.desk_feed.specs.declared.Fed.{Fed}
use Rattle.desk_feed.specs.declared.Progress.{Progress}
use Rattle.desk_turn.specs.declared.Turn.{Turn}
use Rattle.desk_feed.specs.Feed.{Whole, whole, After, after_line, rested, keeping, byte, and_then, feed, takes}
use Rattle.desk_turn.specs.Lines.{roomy, Effect}
use Rattle.desk_feed.specs.Clauses.{Kept, Gone, Feeding, slots_of, ring_length, fits_first, fits_second, Fitting, FirstMade, BothMade}
use Rattle.desk_turn.specs.Taking.{Took}

-- ---- bytes

pub take-least : (n : ℕ) (h : List ℕ) → take (min n (length h)) h ≡ take n h
take-least n h = go (dec_lt n (length h))
  where
    go : Dec (n < length h) → take (min n (length h)) h ≡ take n h
    go (yes p) = let e : min n (length h) ≡ n = omega arith in ap (λ (k : ℕ). take k h) e
    go (no p) =
        let e : min n (length h) ≡ length h = omega arith in
        let g : length h ≤ n = omega arith in
        ap (λ (k : ℕ). take k h) e ∙ take_all (length h) h (omega arith) ∙ sym (take_all n h g)

pub least-long : (r n : ℕ) (h : List ℕ) → r ≡ min n (length h) → r ≡ length (take r h)
least-long r n h e = sym (length-take-le r h (omega arith))

-- a byte that is kept, or passed over
pub keep-full : (d : Desk) (h : List ℕ) (b : ℕ) → length h ≤ d.held → Kept d h b d h
keep-full d h b l = record { desk = rw (le-ltb d.held (length h) l); hold = sym (set_out h d.held b l) }

pub keep-more : (d : Desk) (h : List ℕ) (b : ℕ) → d.held < length h → Kept d h b (record { phase = d.phase; held = d.held + 1 }) (set h d.held b)
keep-more d h b l = record { desk = rw (lt-ltb d.held (length h) l); hold = refl }

whole-path : {d d' : Desk} {a a' b b' h h' : List ℕ} → d ≡ d' → a ≡ a' → b ≡ b' → h ≡ h' → whole d a b h ≡ whole d' a' b' h'
whole-path p q s t = λ i. record { desk = p i; first = q i; second = s i; hold = t i }

-- a newline, and any other byte
pub line-gone : (v : Effect) (old : List ℕ) (at : ℕ) (r : Turn) (a b h new : List ℕ) (d : Desk) → d ≡ rested r.phase → Took v old at r a b new →
    Gone (after_line v h) old at (record { desk = d; next = r.next }) a b h new
line-gone v old at r a b h new d e t =
    record { after = whole-path (e ∙ ap (λ (p : Phase). rested p) t.phase) t.first t.second refl; put = t.put }

pub byte-gone : (w : Whole) (b : ℕ) (r : Desk) (h new : List ℕ) (at : ℕ) → Kept w.desk w.hold b r h →
    Gone (record { whole = keeping w b; prints = [] }) new at (record { desk = r; next = at }) w.first w.second h new
byte-gone w b r h new at k = record { after = whole-path k.desk refl refl k.hold; put = put-none new at }

-- the first refusal of two makings
abbrev pub both_done : Result (Unit {0}) Refusal → Result (Unit {0}) Refusal → Result (Unit {0}) Refusal
both_done (Ok x) y = y
both_done (Err r) y = Err r

both-fit : (p q : Bool) → both_done (if_fits p) (if_fits q) ≡ if_fits (p && q)
both-fit true q = refl
both-fit false q = refl

pub both-made : (g : Program) (a b : List ℕ) (x y z : Result (Unit {0}) Refusal) (a' b' : List ℕ) → FirstMade g a x a' →
    Made (slots_of g) ring_length b y b' → z ≡ both_done x y → BothMade g a b z a' b'
both-made g a b x y z a' b' p q e = record {
  answer = e ∙ ap (λ (t : Result (Unit {0}) Refusal). both_done t y) p.answer ∙ ap (both_done (if_fits (fits_first g a))) q.answer ∙
      both-fit (fits_first g a) (fits_second g b);
  first = p.words;
  second = q.words;
}

-- lent words that fit are made
pub fitting-made : (g : Program) (a b : List ℕ) (x : Result (Unit {0}) Refusal) (a' b' : List ℕ) → Fitting g a b → BothMade g a b x a' b' → x ≡ Ok tt
fitting-made g a b x a' b' f m = m.answer ∙ rw (f.first, f.second)

-- ---- a block

-- it does not matter where the blocks are cut
pub feed-blocks : (w : Whole) (xs ys : List ℕ) → feed w (xs ++ ys) ≡ and_then (feed w xs) (feed (feed w xs).whole ys)
unfolding feed
feed-blocks w [] ys = refl
feed-blocks w (x ∷ xs) ys =
    ap (and_then (byte w x)) (feed-blocks (byte w x).whole xs ys) ∙
    (λ i. record {
      whole = (feed (feed (byte w x).whole xs).whole ys).whole;
      prints = sym (append_assoc (byte w x).prints (feed (byte w x).whole xs).prints (feed (feed (byte w x).whole xs).whole ys).prints) i;
    })

-- the last byte
feed-snoc : (w : Whole) (xs : List ℕ) (b : ℕ) → feed w (xs ++ (b ∷ [])) ≡ and_then (feed w xs) (byte (feed w xs).whole b)
unfolding feed
feed-snoc w xs b =
    feed-blocks w xs (b ∷ []) ∙
    (λ i. record { whole = (byte (feed w xs).whole b).whole; prints = (feed w xs).prints ++ append-nil (byte (feed w xs).whole b).prints i })

-- where the loop stands: i bytes of the block are taken, p bytes are put
pub record Stands (w₀ : Whole) (block old : List ℕ) (w : Whole) (new : List ℕ) (i p : ℕ) : Type 0 where
  pub inside : i ≤ length block
  pub same : length new ≡ length old
  pub goes : takes (length old) w₀ 0 block ≡ i + takes (length old) w p (drop i block)
  pub after : w ≡ (feed w₀ (take i block)).whole
  pub put : Put old 0 (feed w₀ (take i block)).prints new p

pub stands-first : (w : Whole) (block old : List ℕ) → Stands w block old w old 0 0
unfolding feed
stands-first w block old = record { inside = omega arith; same = refl; goes = omega arith; after = refl; put = put-none old 0 }

module _ (w₀ : Whole) (block old : List ℕ) (w : Whole) (new : List ℕ) (i p : ℕ) (s : Stands w₀ block old w new i p) where
  -- a byte more
  goes_on : (c : ℕ) → c ≡ get_or block i 0 → i < length block → p + roomy ≤ length old →
      takes (length old) w p (drop i block) ≡ suc (takes (length old) (byte w c).whole (p + length (byte w c).prints) (drop (i + 1) block))
  unfolding takes
  goes_on c e h g =
      ap (takes (length old) w p) (drop-cons block i 0 h) ∙ rw (le-ltb (length old) (p + roomy) g, ← e, add-one i)

  pub stands-next : (c : ℕ) (r : Fed) (a b h new' : List ℕ) → c ≡ get_or block i 0 → i < length block → p + roomy ≤ length old →
      Gone (byte w c) new p r a b h new' → length new' ≡ length new →
      Stands w₀ block old (whole r.desk a b h) new' (i + 1) r.next
  stands-next c r a b h new' e k g o l =
      let q : take (i + 1) block ≡ take i block ++ (c ∷ []) =
      ap (λ (j : ℕ). take j block) (add-one i) ∙ take-suc block i 0 k ∙ ap (λ (x : ℕ). take i block ++ (x ∷ [])) (sym e) in
      let f : feed w₀ (take (i + 1) block) ≡ and_then (feed w₀ (take i block)) (byte w c) =
      ap (feed w₀) q ∙ feed-snoc w₀ (take i block) c ∙ ap (λ (x : Whole). and_then (feed w₀ (take i block)) (byte x c)) (sym s.after) in
      let t : takes (length old) (whole r.desk a b h) r.next (drop (i + 1) block) ≡
      takes (length old) (byte w c).whole (p + length (byte w c).prints) (drop (i + 1) block) =
      ap (λ (x : Whole). takes (length old) x r.next (drop (i + 1) block)) o.after ∙
      ap (λ (x : ℕ). takes (length old) (byte w c).whole x (drop (i + 1) block)) o.put.past in
      record {
        inside = omega arith;
        same = l ∙ s.same;
        goes = omega (arith, s.goes, goes_on c e k g, t);
        after = o.after ∙ sym (ap (λ (x : After). x.whole) f);
        put =
            rw (ap (λ (x : After). x.prints) f)
            (put-append old (feed w₀ (take i block)).prints new (byte w c).prints new' 0 p r.next s.put o.put (omega (arith, s.put.past)));
      }

  -- no byte more
  stop : takes (length old) w p (drop i block) ≡ 0 → (d : Desk) (a b h : List ℕ) → w ≡ whole d a b h →
      Feeding w₀ block old (record { desk = d; taken = i; put = p }) a b h new
  stop z d a b h e = record { taken = omega (arith, s.goes, z); after = sym e ∙ s.after; put = s.put }

  full : (xs : List ℕ) → length old < p + roomy → takes (length old) w p xs ≡ 0
  unfolding takes
  full [] h = refl
  full (x ∷ xs) h = rw (lt-ltb (length old) (p + roomy) h)

  past : length block ≤ i → takes (length old) w p (drop i block) ≡ 0
  unfolding takes
  past h = rw (drop_of_length-le block h)

  -- out has no room for a line more; or the block is taken
  pub stands-full : (d : Desk) (a b h : List ℕ) → w ≡ whole d a b h → length old < p + roomy →
      Feeding w₀ block old (record { desk = d; taken = i; put = p }) a b h new
  stands-full d a b h e g = stop (full (drop i block) g) d a b h e

  pub stands-end : (d : Desk) (a b h : List ℕ) → w ≡ whole d a b h → length block ≤ i → Feeding w₀ block old (record { desk = d; taken = i; put = p }) a b h new
  stands-end d a b h e g = stop (past g) d a b h e

-- ---- for callers

-- no more is taken than there is
takes-inside : (l : ℕ) (w : Whole) (p : ℕ) (xs : List ℕ) → takes l w p xs ≤ length xs
unfolding takes
takes-inside l w p [] = omega arith
takes-inside l w p (x ∷ xs) = go (ltb l (p + roomy)) (takes-inside l (byte w x).whole (p + length (byte w x).prints) xs)
  where
    go : (b : Bool) → takes l (byte w x).whole (p + length (byte w x).prints) xs ≤ length xs →
        cond b 0 (suc (takes l (byte w x).whole (p + length (byte w x).prints) xs)) ≤ suc (length xs)
    go true h = omega arith
    go false h = omega arith

pub feeding-inside : (w : Whole) (block old : List ℕ) (r : Progress) (a b h new : List ℕ) → Feeding w block old r a b h new → r.taken ≤ length block
feeding-inside w block old r a b h new f = let t = takes-inside (length old) w 0 block in omega (arith, f.taken)

-- and at least a byte of what there is, where out has room for a line: so a block goes in whole, part after part
takes-some : (l : ℕ) (w : Whole) (xs : List ℕ) → roomy ≤ l → 0 < length xs → 0 < takes l w 0 xs
unfolding takes
takes-some l w [] h k = absurd (omega arith)
takes-some l w (x ∷ xs) h k = rw (le-ltb l roomy h) (omega arith)

pub progress : (w : Whole) (block old : List ℕ) (r : Progress) (a b h new : List ℕ) → Feeding w block old r a b h new → roomy ≤ length old → 0 < length block →
    0 < r.taken
progress w block old r a b h new f o k = let t = takes-some (length old) w block o k in omega (arith, f.taken)

-- nor put than there is room
pub put-inside : (old xs new : List ℕ) (n : ℕ) → Put old 0 xs new n → n ≤ length new
put-inside old xs new n p =
    let e : length new ≡ length xs + length (drop (0 + length xs) old) = ap length p.is ∙ length-append xs (drop (0 + length xs) old) in
    omega (arith, p.past, e)
