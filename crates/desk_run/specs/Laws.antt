-- What the loops know at each turn and at each return, joined to the definitions: part after part, and block after block, nothing is left out or put twice.
-- Assumes nothing.
use Rattle.std.specs.Result.{is_ok, is_err}
use Rattle.std.specs.Prelude.{◌≡◌, refl, Bool, true, cond, ◌||◌, List, [], ◌++◌, ℕ, ◌+◌, ◌-◌, ◌≤◌, ◌<◌, min, length, take, drop, ltb, eqb, Result, Ok, Err}
use Rattle.std.specs.declared.result.Result.{Result}
use Rattle.std.proofs.Common.{sym, subst, ◌∙◌, true≢false, arith, length-append, length-take, length-drop, take-take, take-add, eq-eqb, ne_eqb}
use Rattle.std.proofs.Math.Path.{ap}
use Rattle.std.proofs.Math.Bool.{false}
use Rattle.std.proofs.lemmas.Bool.{false≢true, eqb-false}
use Rattle.std.proofs.Math.Seq.{take-length}
use Rattle.room.specs.Room.{fits}
use Rattle.desk_turn.specs.declared.Program.{Program}
use Rattle.desk_turn.specs.declared.Program.TheVariants as program
use Rattle.desk_turn.specs.declared.Phase.{Phase}
use Rattle.desk_turn.specs.declared.Phase.TheVariants.{Waiting, Open, Ended}
use Rattle.desk_turn.specs.Lines.{Effect, idle, roomy}
use Rattle.desk_feed.specs.declared.Desk.{Desk}
use Rattle.desk_feed.specs.declared.Progress.{Progress}
use Rattle.desk_feed.specs.Feed.{Whole, whole, fresh, After, and_then, feed, over_in, is_over, finish_as, finishing, finished, running, ended_in, has_ended}
use Rattle.common.specs.declared.refusal.Refusal.{Refusal}
use Rattle.desk_feed.specs.Clauses.{Feeding, slots_of, ring_length, new_first, new_second, Fitting, BothMade}
use Rattle.desk_feed.specs.Laws.{feed-blocks, feeding-inside, progress}
use Rattle.desk_run.specs.declared.Pumped.{Pumped}
use Rattle.desk_run.specs.declared.Served.{Served}
use Rattle.desk_run.specs.declared.Heard.{Heard}
use Rattle.desk_run.specs.declared.Heard.TheVariants.{Failed, Nothing, Bytes}
use Rattle.desk_run.specs.declared.Ending.{Ending}
use Rattle.desk_run.specs.declared.Ending.TheVariants.{Done, Unread, Unwritten, Endless}
use Rattle.desk_run.specs.Run.{
  capped,
  most,
  heard_in,
  heard_of,
  is_failed,
  is_bytes,
  is_nothing,
  Reached,
  Pumping,
  Leaves,
  Closes,
  Closing,
  Standing,
  Ran,
  EndsAs,
  Serves,
}

-- ---- bytes after bytes

pub reached-none : (w : Whole) (put : ℕ) → put ≤ most → Reached w [] put w put
unfolding feed
reached-none w put h = record { after = refl; counted = omega arith }

pub reached-more : (w v u : Whole) (xs ys : List ℕ) (before mid put : ℕ) → Reached w xs before v mid → Reached v ys mid u put →
    Reached w (xs ++ ys) before u put
reached-more w v u xs ys before mid put p q =
    let e : feed w (xs ++ ys) ≡ and_then (feed w xs) (feed v ys) =
    feed-blocks w xs ys ∙ ap (λ (x : Whole). and_then (feed w xs) (feed x ys)) (sym p.after) in
    let l : length ((feed w xs).prints ++ (feed v ys).prints) ≡ length (feed w xs).prints + length (feed v ys).prints =
    length-append (feed w xs).prints (feed v ys).prints in
    record {
      after = q.after ∙ sym (ap (λ (f : After). f.whole) e);
      counted = rw e (omega (arith, p.counted, q.counted, l));
    }

-- ---- a part of a block

-- what is left of it, as it is lent
abbrev pub rest : List ℕ → ℕ → List ℕ
rest block at = take (length block - at) (drop at block)

rest-long : (block : List ℕ) (at : ℕ) → length (rest block at) ≡ length block - at
rest-long block at = simp (length-take, length-drop) (omega arith)

parts : (block : List ℕ) (at n : ℕ) → n ≤ length block - at → take (at + n) block ≡ take at block ++ take n (rest block at)
parts block at n h = take-add at n block ∙ ap (λ (x : List ℕ). take at block ++ x) (sym (take-take n (length block - at) (drop at block) h))

-- no more is taken than is left
pub part-inside : (v : Whole) (block : List ℕ) (at : ℕ) (old : List ℕ) (r : Progress) (a b h new : List ℕ) → Feeding v (rest block at) old r a b h new →
    r.taken ≤ length block - at
part-inside v block at old r a b h new f = omega (arith, feeding-inside v (rest block at) old r a b h new f, rest-long block at)

-- and at least a byte of it, where out has room for a line
pub part-progress : (v : Whole) (block : List ℕ) (at : ℕ) (old : List ℕ) (r : Progress) (a b h new : List ℕ) → Feeding v (rest block at) old r a b h new →
    roomy ≤ length old → at < length block → 0 < r.taken
part-progress v block at old r a b h new f o k =
    progress v (rest block at) old r a b h new f o (omega (arith, rest-long block at))

pub reached-part : (w v : Whole) (block : List ℕ) (at before mid put : ℕ) (old : List ℕ) (r : Progress) (a b h new : List ℕ) →
    Reached w (take at block) before v mid → Feeding v (rest block at) old r a b h new → put ≡ capped (mid + r.put) →
    Reached w (take (at + r.taken) block) before (whole r.desk a b h) put
reached-part w v block at before mid put old r a b h new p f e =
    rw (parts block at r.taken (part-inside v block at old r a b h new f))
    (reached-more w v (whole r.desk a b h) (take at block) (take r.taken (rest block at)) before mid put p
    (record { after = f.after; counted = omega (arith, e, f.put.past) }))

-- ---- a read

pub failed-is : {E : Type 0} (r : Result ℕ E) (e : E) (n : ℕ) → r ≡ Err e → Failed ≡ heard_of r n
unfolding heard_of
failed-is r e n p = sym (ap (λ x. heard_of x n) p)

module _ {E : Type 0} (r : Result ℕ E) (k m n : ℕ) (e : r ≡ Ok k) (f : m ≡ min k n) where
  heard-is : heard_in m ≡ heard_of r n
  unfolding heard_of
  heard-is = ap heard_in f ∙ sym (ap (λ x. heard_of x n) e)

  pub nothing_is : m ≡ 0 → Nothing ≡ heard_of r n
  nothing_is g = let h : heard_in m ≡ Nothing = rw (eq-eqb m 0 g) in sym h ∙ heard-is

  pub bytes-is : (m ≡ 0 → ⊥) → Bytes m ≡ heard_of r n
  bytes-is g = let h : heard_in m ≡ Bytes m = rw (ne_eqb m 0 g) in sym h ∙ heard-is

-- bytes that were read are some, and within the block
pub bytes_inside : {E : Type 0} (r : Result ℕ E) (m n : ℕ) → Bytes n ≡ heard_of r m → (0 < n) × (n ≤ m)
unfolding heard_of
bytes_inside (Ok k) m n p = go (eqb (min k m) 0) refl p
  where
    go : (b : Bool) → eqb (min k m) 0 ≡ b → Bytes n ≡ cond b Nothing (Bytes (min k m)) → (0 < n) × (n ≤ m)
    go true e q = let x : ◌≡◌ {A = ℕ} 0 1 = cc in absurd (omega arith)
    go false e q = let x : n ≡ min k m = cc in (omega (arith, eqb-false (min k m) 0 e), omega arith)
bytes_inside (Err e) m n p = let x : ◌≡◌ {A = ℕ} 0 1 = cc in absurd (omega arith)

-- ---- the run

pub stands-first : (w : Whole) → Standing w [] w 0 0
stands-first w = record { heard = omega arith; reached = reached-none w 0 (omega arith) }

-- what is no error is fine
pub fine_is : {T E : Type 0} (r : Result T E) → is_err r ≡ false → is_ok r ≡ true
fine_is (Ok x) p = refl
fine_is (Err e) p = absurd (true≢false p)

pub not-fine : {T E : Type 0} (r : Result T E) → is_err r ≡ true → is_ok r ≡ true → ⊥
not-fine (Ok x) p q = false≢true p
not-fine (Err e) p q = false≢true q

-- a block more
pub stands-next : (w v : Whole) (xs block : List ℕ) (read put n next : ℕ) (r : Pumped) (a b h : List ℕ) → Standing w xs v read put →
    Pumping v block put r a b h → is_ok r.outcome ≡ true → n ≡ length block → next ≡ capped (read + n) →
    Standing w (xs ++ block) (whole r.desk a b h) next r.put
stands-next w v xs block read put n next r a b h s p e f g =
    let t : take r.taken block ≡ block = ap (λ (k : ℕ). take k block) (p.all e) ∙ take-length block in
    let q : Reached v block put (whole r.desk a b h) r.put = rw t at p.reached in
    record {
      heard = omega (arith, s.heard, length-append xs block);
      reached = reached-more w v (whole r.desk a b h) xs block 0 put r.put s.reached q;
    }

-- what was read is answered, and no more
pub ran-here : (w : Whole) (xs : List ℕ) (d : Desk) (a b h : List ℕ) (r : Served) → Standing w xs (whole d a b h) r.read r.put →
    Ran (feed w xs) xs r a b h
ran-here w xs d a b h r s =
    let e = s.reached.after in
    record {
      heard = s.heard;
      left =
          record { first = ap (λ (x : Whole). x.first) e; second = ap (λ (x : Whole). x.second) e; counted = s.reached.counted };
      hold = ap (λ (x : Whole). x.hold) e;
    }

-- after the end of the input
ran-end : (l : ℕ) (w : Whole) (xs : List ℕ) (v : Whole) (read put : ℕ) (a b : List ℕ) (r : Served) → Standing w xs v read put → r.read ≡ read →
    Leaves (finished l v) put r.put a b → Ran (running l w xs) xs r a b v.hold
ran-end l w xs v read put a b r s e f =
    let g : v ≡ (feed w xs).whole = s.reached.after in
    let k : length ((feed w xs).prints ++ (finished l v).prints) ≡ length (feed w xs).prints + length (finished l v).prints =
    length-append (feed w xs).prints (finished l v).prints in
    let c : r.put ≡ capped (0 + length ((feed w xs).prints ++ (finished l v).prints)) = omega (arith, f.counted, s.reached.counted) in
    record {
      heard = e ∙ s.heard;
      left =
          record {
            first = f.first ∙ ap (λ (x : Whole). (finished l x).whole.first) g;
            second = f.second ∙ ap (λ (x : Whole). (finished l x).whole.second) g;
            counted = c ∙ ap (λ (x : Whole). capped (0 + length ((feed w xs).prints ++ (finished l x).prints))) g;
          };
      hold = ap (λ (x : Whole). x.hold) g;
    }

-- a desk that reads no more has nothing to end
ended-idle : (l : ℕ) (w : Whole) → has_ended w.desk ≡ true → finishing l w ≡ idle w.desk.phase w.first w.second
unfolding has_ended finishing is_over
ended-idle l w e = go w.desk.phase (ltb l roomy) e
  where
    go : (p : Phase) (t : Bool) → ended_in p ≡ true → finish_as (t || over_in p w.desk.held) w ≡ idle w.desk.phase w.first w.second
    go (Waiting g) t h = absurd (false≢true h)
    go (Open g s) t h = absurd (false≢true h)
    go Ended true h = refl
    go Ended false h = refl

pub ends-ended : (l : ℕ) (w : Whole) (xs : List ℕ) (d : Desk) (a b h : List ℕ) (r : Served) →
    Standing w xs (whole d a b h) r.read r.put → has_ended d ≡ true → EndsAs Done l w r a b h
ends-ended l w xs d a b h r s e =
    let f = ended-idle l (whole d a b h) e in
    let k : length (finishing l (whole d a b h)).prints ≡ 0 = ap (λ (x : Effect). length x.prints) f in
    let o : has_ended (feed w xs).whole.desk ≡ true = ap (λ (x : Whole). has_ended x.desk) (sym s.reached.after) ∙ e in (
      xs,
      either (is_nothing r.last) o,
      ran-end l w xs (whole d a b h) r.read r.put a b r s refl (record {
        first = sym (ap (λ (x : Effect). x.first) f);
        second = sym (ap (λ (x : Effect). x.second) f);
        counted = omega (arith, k, s.reached.counted);
      }),
    )
  where
    either : (x : Bool) {y : Bool} → y ≡ true → x || y ≡ true
    either true p = refl
    either false p = p

-- the end of the input, or a read that failed
pub ends-closed : (l m : ℕ) (w : Whole) (xs : List ℕ) (d : Desk) (a₀ b₀ h : List ℕ) (last : Heard) (read put : ℕ) (r : Served) (a b : List ℕ) → l ≡ m →
    Standing w xs (whole d a₀ b₀ h) read put → is_bytes last ≡ false → Closing l (whole d a₀ b₀ h) last read put r a b → EndsAs r.ending m w r a b h
ends-closed l m w xs d a₀ b₀ h last read put r a b e s n c = go r.ending c.ends
  where
    none : (x : Heard) → is_bytes x ≡ false → is_failed x ≡ false → is_nothing x ≡ true
    none Failed p q = absurd (true≢false q)
    none Nothing p q = refl
    none (Bytes k) p q = absurd (true≢false p)

    go : (t : Ending) → Closes t l (whole d a₀ b₀ h) last put r.put a b → EndsAs t m w r a b h
    go Done k = (
      xs,
      ap (λ (x : Bool). x || has_ended (feed w xs).whole.desk) (ap is_nothing c.answer ∙ none last n k.0),
      rw e at (ran-end l w xs (whole d a₀ b₀ h) read put a b r s c.counted k.1),
    )
    go Unread k = (
      xs,
      ap is_failed c.answer ∙ k.0,
      record {
        heard = c.counted ∙ s.heard;
        left =
            record {
              first = k.1.first ∙ ap (λ (x : Whole). x.first) s.reached.after;
              second = k.1.second ∙ ap (λ (x : Whole). x.second) s.reached.after;
              counted = omega (arith, k.1.counted, s.reached.counted);
            };
        hold = ap (λ (x : Whole). x.hold) s.reached.after;
      },
    )
    go Unwritten k = tt
    go Endless k = absurd k

-- ---- the memories made anew

-- the words that are lent are as many as each program's memories need
pub desk-fits : (a b : List ℕ) → length a ≡ 3633 → length b ≡ 3633 → Fitting program.Desk a b
unfolding fits
desk-fits a b e f = record { first = ap (fits (slots_of program.Desk) ring_length) e; second = ap (fits (slots_of program.Desk) ring_length) f }

pub shots-fit : (a b : List ℕ) → length a ≡ 389 → length b ≡ 58053 → Fitting program.Shots a b
unfolding fits
shots-fit a b e f = record { first = ap (λ (n : ℕ). eqb n 389) e; second = ap (fits (slots_of program.Shots) ring_length) f }

pub serves-new : (l : ℕ) (g : Program) (a b : List ℕ) (x : Result (Unit {0}) Refusal) (a₁ b₁ : List ℕ) (d : Desk) (h : List ℕ) (r : Served) (a₂ b₂ h₂ : List ℕ) → Fitting g a b →
    BothMade g a b x a₁ b₁ → d ≡ fresh g → Serves l (whole d a₁ b₁ h) r a₂ b₂ h₂ → Serves l (whole (fresh g) (new_first g) (new_second g) h) r a₂ b₂ h₂
serves-new l g a b x a₁ b₁ d h r a₂ b₂ h₂ f m e s =
    let p : a₁ ≡ new_first g = m.first ∙ ap (λ (t : Bool). cond t (new_first g) a) f.first in
    let q : b₁ ≡ new_second g = m.second ∙ ap (λ (t : Bool). cond t (new_second g) b) f.second in
    subst (λ (w : Whole). Serves l w r a₂ b₂ h₂) (λ i. whole (e i) (p i) (q i) h) s
