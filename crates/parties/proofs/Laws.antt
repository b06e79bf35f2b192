-- What the two words of bits show; that a free slot is there wherever a party holds less than it is promised; and what a call's standing says.
-- Assumes nothing.
use Rattle.std.specs.Prelude.{◌≡◌, Bool, not, ◌&&◌, ◌||◌, List, ◌≢◌, ltb}
use Rattle.std.proofs.Math.Path.{refl, ap}
use Rattle.std.proofs.Common.{sym, ap₂, ◌∙◌, add_comm, mod-lt, arith, pow_pos, ne_eqb, ltb-false, leb-false}
use Rattle.std.proofs.Math.Bool.{true, false, cond}
use Rattle.std.proofs.lemmas.Bool.{false≢true}
use Prim.Native.Nat.{ℕ, zero, suc, ◌+◌, ◌-◌, ◌*◌, ◌/◌, ◌%◌, ◌^◌, ◌≤◌, ◌<◌}
use Rattle.std.proofs.Math.Nat.{mod-one}
use Rattle.std.proofs.Math.Decide.{ℕ_discrete, dec_lt}
use Rattle.std.proofs.Math.Dec.{eqb}
use Rattle.std.proofs.Math.ListN.{get_or}
use Rattle.std.proofs.Math.Pow.{high, ones_lt, ones_split}
use Rattle.std.specs.Int.Bits.{bit_and}
use Rattle.std.proofs.lemmas.Nat.{and_mask, and_block, ones_cat}
use Rattle.std.specs.Int.Count.{ones, ones_in, ones-ones}
use Rattle.common.specs.Refusals.{first, ruled}
use Rattle.base.specs.Bits.{bit_at, bit-lt, low_bits}
use Rattle.base.specs.Decides.{and-true, true-and, not_so}
use Rattle.base.specs.Every.{every, every-at}
use Rattle.base.specs.Seek.{seek-before}
use Rattle.layout.specs.Layout.{nobody, first_mark, second_mark, firsts_word, seconds_word}
use Rattle.room.specs.Room.{slots_of, holder_of, free, vacant}
use Rattle.room.specs.Entries.{free-yes}
use Rattle.parties.specs.declared.Caller.{Caller}
use Rattle.parties.specs.declared.Holdings.{Holdings}
use Rattle.parties.specs.declared.Standing.{Standing}
use Rattle.parties.specs.Parties.{is_party, mark_of, is_ours, ours, many, slots_held, overdrawn, turns, none_left, standing_of}
use Rattle.parties.specs.Census.{bits_held, census_of, Counts, overdrawn_by}

-- ---- who holds a slot, by cases

pub data Holds (m : ℕ) : Type 0 where
  none : m ≡ nobody → Holds m
  firsts : m ≡ first_mark → Holds m
  seconds : m ≡ second_mark → Holds m

pub ours-holds : (m : ℕ) → is_ours m ≡ true → Holds m
ours-holds m e = go (ℕ_discrete m nobody) (ℕ_discrete m first_mark) (ℕ_discrete m second_mark)
  where
    go : Dec (m ≡ nobody) → Dec (m ≡ first_mark) → Dec (m ≡ second_mark) → Holds m
    go (yes p) b c = none p
    go (no p) (yes q) c = firsts q
    go (no p) (no q) (yes r) = seconds r
    go (no p) (no q) (no r) = absurd (false≢true (sym (rw (ne_eqb m nobody p, ne_eqb m first_mark q, ne_eqb m second_mark r)) ∙ e))

pub holds-ours : (m : ℕ) → Holds m → is_ours m ≡ true
holds-ours m (none e) = rw e
holds-ours m (firsts e) = rw e
holds-ours m (seconds e) = rw e

-- a party's mark is one
pub mark-holds : (party : ℕ) → is_party party ≡ true → Holds (mark_of party)
mark-holds party e = go (eqb party 1) (eqb party 2) e
  where
    go : (a b : Bool) → a || b ≡ true → Holds (cond a first_mark (cond b second_mark nobody))
    go true b e = firsts refl
    go false true e = seconds refl
    go false false e = absurd (false≢true e)

-- it is the party's number, and there is none past the two
pub mark-over : (party : ℕ) → 2 < party → mark_of party ≡ nobody
mark-over party h = rw (ne_eqb party 1 (λ e. omega (arith, e, h)), ne_eqb party 2 (λ e. omega (arith, e, h)))

pub mark-is : (party : ℕ) → party ≤ 2 → mark_of party ≡ party
mark-is zero h = refl
mark-is (suc zero) h = refl
mark-is (suc (suc zero)) h = refl
mark-is (suc (suc (suc n))) h = absurd (omega arith)

pub mark-small : (party : ℕ) → mark_of party < 4
mark-small party = go (eqb party 1) (eqb party 2)
  where
    go : (a b : Bool) → cond a first_mark (cond b second_mark nobody) < 4
    go true b = omega arith
    go false true = omega arith
    go false false = omega arith

-- of all slots: each is ours, and each that all are
pub ours_at : (w : List ℕ) → ours w ≡ true → (i : ℕ) → i < slots_of w → Holds (holder_of w i)
unfolding ours
ours_at w e i h = ours-holds (holder_of w i) (every-at (λ s. is_ours (holder_of w s)) (slots_of w) i h e)

pub all-ours : (w : List ℕ) → ((i : ℕ) → i < slots_of w → Holds (holder_of w i)) → ours w ≡ true
unfolding ours every
all-ours w f = go (slots_of w) (λ i h. f i h)
  where
    go : (n : ℕ) → ((i : ℕ) → i < n → Holds (holder_of w i)) → every (λ s. is_ours (holder_of w s)) n ≡ true
    go zero g = refl
    go (suc n) g = true-and (every (λ s. is_ours (holder_of w s)) n) _ (go n (λ i h. g i (omega arith))) (holds-ours (holder_of w n) (g n (omega arith)))

-- ---- two words of bits

-- a word's lowest n bits, as a program masks them
pub low_mask : (x n : ℕ) → n ≤ 64 → bit_and x (18446744073709551615 / 2 ^ (64 - n)) ≡ x % 2 ^ n
low_mask x n h =
    let e : n + (64 - n) ≡ 64 = omega arith in
    let m : (2 ^ 64 - 1) / 2 ^ (64 - n) ≡ 2 ^ n - 1 = ap (λ (k : ℕ). (2 ^ k - 1) / 2 ^ (64 - n)) (sym e) ∙
    ap (λ (y : ℕ). y / 2 ^ (64 - n)) (ones_split n (64 - n)) ∙ high (2 ^ n - 1) (64 - n) (ones_lt (64 - n)) in
    ap (bit_and x) m ∙ and_mask x n

-- the count of those that are set
ones_bit : (b : ℕ) → b < 2 → ones b ≡ cond (eqb b 1) 1 0
unfolding ones ones_in
ones_bit zero h = refl
ones_bit (suc zero) h = refl
ones_bit (suc (suc b)) h = absurd (omega arith)

pub ones_low : (x n : ℕ) → ones (x % 2 ^ n) ≡ many (λ s. eqb (bit_at x s) 1) n
unfolding many
ones_low x zero = ap ones (mod-one x) ∙ ones-ones 0
ones_low x (suc n) =
    ap ones (low_bits x n) ∙ ones_cat n (bit_at x n) (x % 2 ^ n) (mod-lt x (pow_pos n)) ∙
    ap₂ (λ (a b : ℕ). a + b) (ones_bit (bit_at x n) (bit-lt x n)) (ones_low x n) ∙ add_comm (cond (eqb (bit_at x n) 1) 1 0) _

-- no slot has both bits: each is nobody's or a party's
and_yes : (t : Bool) → t ≡ t && true
and_yes true = refl
and_yes false = refl

and_no : (t : Bool) → false ≡ t && false
and_no true = refl
and_no false = refl

not-both : (k r : ℕ) → eqb (0 * 2 ^ k + r) 0 ≡ eqb r 0 && true
not-both k r = let e : 0 * 2 ^ k + r ≡ r = omega arith in ap (λ (y : ℕ). eqb y 0) e ∙ and_yes (eqb r 0)

both-ours : (k a b r : ℕ) → a < 2 → b < 2 → eqb (bit_and a b * 2 ^ k + r) 0 ≡ eqb r 0 && is_ours (a + 2 * b)
both-ours k zero zero r f g = not-both k r
both-ours k zero (suc zero) r f g = not-both k r
both-ours k zero (suc (suc b)) r f g = absurd (omega arith)
both-ours k (suc zero) zero r f g = not-both k r
both-ours k (suc zero) (suc zero) r f g = ne_eqb (1 * 2 ^ k + r) 0 (λ e. omega (arith, e, pow_pos k)) ∙ and_no (eqb r 0)
both-ours k (suc zero) (suc (suc b)) r f g = absurd (omega arith)
both-ours k (suc (suc a)) b r f g = absurd (omega arith)

no_both : (x y n : ℕ) → eqb (bit_and (x % 2 ^ n) (y % 2 ^ n)) 0 ≡ every (λ s. is_ours (bit_at x s + 2 * bit_at y s)) n
unfolding every
no_both x y zero = ap₂ (λ (a b : ℕ). eqb (bit_and a b) 0) (mod-one x) (mod-one y)
no_both x y (suc n) =
    ap₂ (λ (a b : ℕ). eqb (bit_and a b) 0) (low_bits x n) (low_bits y n) ∙
    ap (λ (a : ℕ). eqb a 0) (and_block n (bit_at x n) (bit_at y n) (x % 2 ^ n) (y % 2 ^ n) (mod-lt x (pow_pos n)) (mod-lt y (pow_pos n))) ∙
    both-ours n (bit_at x n) (bit_at y n) (bit_and (x % 2 ^ n) (y % 2 ^ n)) (bit-lt x n) (bit-lt y n) ∙
    ap (λ (t : Bool). t && is_ours (bit_at x n + 2 * bit_at y n)) (no_both x y n)

-- and then a bit tells who holds the slot
bits-tell : (a b : ℕ) → a < 2 → b < 2 → is_ours (a + 2 * b) ≡ true → (eqb a 1 ≡ eqb (a + 2 * b) first_mark) × (eqb b 1 ≡ eqb (a + 2 * b) second_mark)
bits-tell zero zero f g e = (refl, refl)
bits-tell zero (suc zero) f g e = (refl, refl)
bits-tell zero (suc (suc b)) f g e = absurd (omega arith)
bits-tell (suc zero) zero f g e = (refl, refl)
bits-tell (suc zero) (suc zero) f g e = absurd (false≢true e)
bits-tell (suc zero) (suc (suc b)) f g e = absurd (omega arith)
bits-tell (suc (suc a)) b f g e = absurd (omega arith)

-- tests that agree where all pass p count the same
many-same : (p f g : ℕ → Bool) → ((s : ℕ) → p s ≡ true → f s ≡ g s) → (n : ℕ) → every p n ≡ true → many f n ≡ many g n
unfolding every many
many-same p f g h zero e = refl
many-same p f g h (suc n) e =
    let q = and-true (every p n) _ e in
    ap₂ (λ (a : ℕ) (t : Bool). a + cond t 1 0) (many-same p f g h n q.0) (h n q.1)

module _ (w : List ℕ) where
  -- the census from the two words
  pub ours-is : eqb (bit_and (get_or w firsts_word 0 % 2 ^ slots_of w) (get_or w seconds_word 0 % 2 ^ slots_of w)) 0 ≡ ours w
  unfolding ours holder_of
  ours-is = no_both (get_or w firsts_word 0) (get_or w seconds_word 0) (slots_of w)

  -- a test that tells of each of the slots whether m holds it counts those that m holds
  told-count : (m : ℕ) (f : ℕ → Bool) → ((s : ℕ) → is_ours (holder_of w s) ≡ true → f s ≡ eqb (holder_of w s) m) → ours w ≡ true →
      many f (slots_of w) ≡ slots_held w m
  unfolding ours slots_held
  told-count m f h e = many-same (λ s. is_ours (holder_of w s)) f (λ s. eqb (holder_of w s) m) h (slots_of w) e

  pub first-held : ours w ≡ true → bits_held w firsts_word ≡ slots_held w first_mark
  unfolding holder_of bits_held
  first-held e =
      let x = get_or w firsts_word 0 in
      let y = get_or w seconds_word 0 in
      told-count first_mark (λ s. eqb (bit_at x s) 1) (λ s q. (bits-tell (bit_at x s) (bit_at y s) (bit-lt x s) (bit-lt y s) q).0) e

  pub second-held : ours w ≡ true → bits_held w seconds_word ≡ slots_held w second_mark
  unfolding holder_of bits_held
  second-held e =
      let x = get_or w firsts_word 0 in
      let y = get_or w seconds_word 0 in
      told-count second_mark (λ s. eqb (bit_at y s) 1) (λ s q. (bits-tell (bit_at x s) (bit_at y s) (bit-lt x s) (bit-lt y s) q).1) e

  pub census-counts : (z : Holdings) → z ≡ census_of w → ours w ≡ true → Counts w z
  unfolding census_of
  census-counts z e q = record {
    first-is = ap (λ (y : Holdings). y.first) e ∙ first-held q;
    second_is = ap (λ (y : Holdings). y.second) e ∙ second-held q;
  }

  pub census-ours : (z : Holdings) → z ≡ census_of w → z.ours ≡ ours w
  unfolding census_of
  census-ours z e = ap (λ (y : Holdings). y.ours) e

  pub overdrawn-is : (c : Caller) (z : Holdings) → Counts w z → overdrawn_by (slots_of w) c z ≡ overdrawn w c
  unfolding overdrawn_by overdrawn
  overdrawn-is c z o = rw (o.first-is, o.second_is)

  -- ---- a free slot is there

  -- where none is free, the two hold them all
  full-sum : (n : ℕ) → every (λ s. is_ours (holder_of w s)) n ≡ true → ((i : ℕ) → i < n → holder_of w i ≢ nobody) →
      many (λ s. eqb (holder_of w s) first_mark) n + many (λ s. eqb (holder_of w s) second_mark) n ≡ n
  unfolding every many
  full-sum zero e f = refl
  full-sum (suc n) e f =
      let p = and-true (every (λ s. is_ours (holder_of w s)) n) _ e in
      go (full-sum n p.0 (λ i h. f i (omega arith))) (ours-holds (holder_of w n) p.1)
    where
      go : many (λ s. eqb (holder_of w s) first_mark) n + many (λ s. eqb (holder_of w s) second_mark) n ≡ n → Holds (holder_of w n) →
          many (λ s. eqb (holder_of w s) first_mark) n + cond (eqb (holder_of w n) first_mark) 1 0 +
          (many (λ s. eqb (holder_of w s) second_mark) n + cond (eqb (holder_of w n) second_mark) 1 0) ≡ suc n
      go q (none r) = absurd (f n (omega arith) r)
      go q (firsts r) = rw r (omega (arith, q))
      go q (seconds r) = rw r (omega (arith, q))

  none-held : slots_of w ≤ vacant w → (i : ℕ) → i < slots_of w → holder_of w i ≢ nobody
  none-held h i l e = false≢true (sym (seek-before (free w) (slots_of w) 0 i (omega arith) (omega arith)) ∙ free-yes w i e)

  -- 11 is not given, so the lowest free slot is one of the room's
  pub left-free : (c : Caller) → ours w ≡ true → is_party c.party ≡ true → overdrawn w c ≡ false → none_left w c ≡ false → vacant w < slots_of w
  unfolding ours overdrawn none_left slots_held
  left-free c a p o n = go (dec_lt (vacant w) (slots_of w))
    where
      or-false : (x y : Bool) → x || y ≡ false → (x ≡ false) × (y ≡ false)
      or-false true y e = absurd (false≢true (sym e))
      or-false false y e = (refl, e)

      go : Dec (vacant w < slots_of w) → vacant w < slots_of w
      go (yes h) = h
      go (no h) =
          let s = full-sum (slots_of w) a (none-held (omega arith)) in
          let x = or-false (ltb (slots_of w) (c.first + c.second)) _ o in
          let y = or-false (ltb c.first (many (λ s. eqb (holder_of w s) first_mark) (slots_of w))) _ x.1 in
          let f = ltb-false _ _ x.0 in
          let g = ltb-false _ _ y.0 in
          let k = ltb-false _ _ y.1 in
          less (eqb c.party 1) (leb-false _ _ n) s f g k
        where
          less : (b : Bool) →
              cond b (many (λ s. eqb (holder_of w s) first_mark) (slots_of w)) (many (λ s. eqb (holder_of w s) second_mark) (slots_of w)) < cond b c.first
              c.second →
              many (λ s. eqb (holder_of w s) first_mark) (slots_of w) + many (λ s. eqb (holder_of w s) second_mark) (slots_of w) ≡ slots_of w →
              c.first + c.second ≤ slots_of w → many (λ s. eqb (holder_of w s) first_mark) (slots_of w) ≤ c.first →
              many (λ s. eqb (holder_of w s) second_mark) (slots_of w) ≤ c.second → vacant w < slots_of w
          less true l s f g k = absurd (omega arith)
          less false l s f g k = absurd (omega arith)

-- ---- what is judged of the parties alone

-- 15, 16 or none
turns-not-five : (w : List ℕ) (c : Caller) → first (turns w c) ≢ 5
unfolding turns first
turns-not-five w c = go (not (is_party c.party)) (overdrawn w c)
  where
    go : (a b : Bool) → ◌≢◌ {A = ℕ} (cond a 15 (cond b 16 0)) 5
    go true b e = omega (arith, e)
    go false true e = omega (arith, e)
    go false false e = omega (arith, e)

module _ (w : List ℕ) (c : Caller) (z : Standing) where
  -- 5 where a slot is neither party's, and only there
  pub standing-ours : z ≡ standing_of w c → z.ours ≡ ours w
  unfolding standing_of
  standing-ours e = ap (λ (y : Standing). y.ours) e

  pub standing-turns : z ≡ standing_of w c → ours w ≡ true → z.turned ≡ ruled (first (turns w c))
  unfolding standing_of
  standing-turns e q = ap (λ (y : Standing). y.turned) e ∙ rw q

  pub standing-none : z ≡ standing_of w c → ours w ≡ true → z.none ≡ none_left w c
  unfolding standing_of
  standing-none e q = ap (λ (y : Standing). y.none) e ∙ rw q
