-- Non-interference (document 02, ticket 6): "while the promises given stay the same, nothing the other party does, its clears included, alters a decision, a
-- total or a refusal 11. This compares histories with the same cleanups, and the shared rising clock is still assumed." Said of the answers given (`Apart`,
-- `apart`), of histories of any length, on any keys, refused calls too.
-- Assumes nothing.
use Rattle.std.specs.Prelude.{◌≡◌, refl, Bool, true, false, cond, List, [], ◌∷◌, ◌≢◌, ℕ, zero, suc, ◌≤◌, eqb, Ok}
use Rattle.std.proofs.Common.{sym, ap, ap₂, ◌∙◌, arith, ne_eqb}
use Rattle.answers.specs.Rows.{done_row}
use Rattle.settings.specs.Clock.{ticks_in}
use Rattle.settings.specs.declared.Settings.{Settings}
use Rattle.layout.specs.Layout.{first_mark, second_mark}
use Rattle.rules.specs.declared.RoomKind.{RoomKind}
use Rattle.rules.specs.declared.RoomKind.TheVariants as kind
use Rattle.room.specs.Room.{slots_of, holder_of, fits, empty}
use Rattle.frame.specs.Keys.{Bytes}
use Rattle.frame.specs.Whole.{empty-free, empty-word}
use Rattle.parties.specs.declared.Caller.{Caller}
use Rattle.parties.specs.Parties.{Sent, is_party, many, slots_held}
use Rattle.judge.specs.Held.{held_in}
use Rattle.stale.specs.Uses as Uses
use Rattle.cleanup.specs.Cleanup as Cleanup
use Rattle.provider.specs.Provider as Provider
use Rattle.steps.specs.Ops.{Op, Call, cleanup, cleanup_both, verdict_of, after, answer_row, words, rows}
use Rattle.steps.specs.History.{Sane}
use Rattle.steps.proofs.History.{empty-sane}
use Rattle.apart.specs.One.{key_in}
use Rattle.apart.proofs.Step.{sane-after, last-after}
use Rattle.apart.specs.Promised.{Gives}
use Rattle.apart.proofs.Promised.{kept-after}
use Rattle.apart.specs.Like.{Fine, Alike, mine}
use Rattle.apart.proofs.Like.{held-like, number-like, same_row, like-after, like-beside}
use Rattle.apart.specs.Apart.{picked, words_by, told_by, Rising, AllGive, AllBytes, other_kind, Twin, itself, beside, SameCalls, Apart, told, Beside}
use Rattle.common.specs.Refusals.{refuse}

-- ---- the proof

pub words-by : (k : RoomKind) (s : Settings) (w : List ℕ) (cs : List (Call k)) → words_by (verdict_of k s) w cs ≡ words k s w cs
words-by k s w [] = refl
words-by k s w (c ∷ cs) = ap (λ (v : List ℕ). after k s v c.reading c.op) (words-by k s w cs)

told-by : (k : RoomKind) (s : Settings) (p : ℕ) (w : List ℕ) (cs : List (Call k)) → told_by (verdict_of k s) p w cs ≡ told k s p w cs
told-by k s p w [] = refl
told-by k s p w (c ∷ cs) =
    ap₂ (λ (v : List ℕ) (more : List (List ℕ)). cond (mine p c.op) (answer_row k s v c.reading c.op ∷ more) more) (words-by k s w cs)
    (told-by k s p w cs)

pub fine-after : (k : RoomKind) (s : Settings) (t u a b : ℕ) (w : List ℕ) (op : Op k) → Bytes (key_in op).bytes → Gives a b op → t ≤ u → Fine k s t a b w →
    Fine k s u a b (after k s w t op)
fine-after k s t u a b w op by g h f = record {
  sane = sane-after k s w t f.sane op by;
  last = last-after k s w t f.sane op by u (omega (arith, f.last)) h;
  kept = kept-after k s w t op a b f.sane by g f.kept;
}

fine-later : (k : RoomKind) (s : Settings) (t u a b : ℕ) (w : List ℕ) → t ≤ u → Fine k s t a b w → Fine k s u a b w
fine-later k s t u a b w h f = record { sane = f.sane; last = omega (arith, f.last); kept = f.kept }

module _ (k : RoomKind) (s : Settings) (p a b : ℕ) (w : List ℕ) (y : is_party p ≡ true) where
  pub beside-own : (u : ℕ) (cs : List (Call k)) → Fine k s 0 a b w → AllBytes cs → Rising u cs → AllGive a b cs →
      Beside k s u p a b w cs (picked p cs) (told k s p w cs)
  beside-own u [] f by r g = record {
    alike = record {
      party = y;
      one = fine-later k s 0 u a b w (omega arith) f;
      other = fine-later k s 0 u a b w (omega arith) f;
      like = record { slots = refl; ring = refl; held = λ j h. refl };
    };
    alone = refl;
  }
  beside-own u (c ∷ cs) f by r g = go (beside-own c.reading cs f by.1 r.1 g.1) (mine p c.op) refl
    where
      x : List ℕ
      x = words k s w cs

      v : List ℕ
      v = words k s w (picked p cs)

      go : Beside k s c.reading p a b w cs (picked p cs) (told k s p w cs) → (z : Bool) → mine p c.op ≡ z →
          Beside k s u p a b w (c ∷ cs) (cond z (c ∷ picked p cs) (picked p cs))
          (cond z (answer_row k s (words k s w cs) c.reading c.op ∷ told k s p w cs) (told k s p w cs))
      go h true e = record {
        alike = record {
          party = y;
          one = fine-after k s c.reading u a b (words k s w cs) c.op by.0 g.0 r.0 h.alike.one;
          other = fine-after k s c.reading u a b (words k s w (picked p cs)) c.op by.0 g.0 r.0 h.alike.other;
          like = like-after k s c.reading p a b (words k s w cs) (words k s w (picked p cs)) h.alike c.op by.0 e g.0;
        };
        alone =
            ap₂ (λ (row : List ℕ) (more : List (List ℕ)). row ∷ more)
            (same_row k s c.reading p a b (words k s w cs) (words k s w (picked p cs)) h.alike c.op e g.0) h.alone;
      }
      go h false e = record {
        alike = record {
          party = y;
          one = fine-after k s c.reading u a b (words k s w cs) c.op by.0 g.0 r.0 h.alike.one;
          other = fine-later k s c.reading u a b (words k s w (picked p cs)) r.0 h.alike.other;
          like = like-beside k s c.reading p a b (words k s w cs) (words k s w (picked p cs)) h.alike c.op by.0 e;
        };
        alone = h.alone;
      }

-- ---- calls that are the same are answered the same, and leave the same

both-twin : (k : RoomKind) (s : Settings) (t : ℕ) (w : List ℕ) (who : Caller) (x y : List ℕ) (c d : Caller) (stale : ℕ) →
    Cleanup.refusal (other_kind k) s x t c ≡ Cleanup.refusal (other_kind k) s y t d →
    (answer_row k s w t (cleanup_both who x c stale) ≡ answer_row k s w t (cleanup_both who y d stale)) ×
    (after k s w t (cleanup_both who x c stale) ≡ after k s w t (cleanup_both who y d stale))
unfolding Provider.decided
both-twin kind.Absolute s t w who x y c d stale e =
    let n = ap (Provider.lowest (Cleanup.refusal kind.Absolute s w t who)) e in
    ((λ i. done_row (cond (eqb (n i) 0) (Ok tt) (refuse (n i)))), (λ i. cond (eqb (n i) 0) (Uses.cleaned w t (ticks_in s) stale) w))
both-twin kind.Suppressed s t w who x y c d stale e =
    let n = ap (λ (m : ℕ). Provider.lowest m (Cleanup.refusal kind.Suppressed s w t who)) e in
    ((λ i. done_row (cond (eqb (n i) 0) (Ok tt) (refuse (n i)))), (λ i. cond (eqb (n i) 0) (Uses.cleaned w t (ticks_in s) stale) w))

twin-same : (k : RoomKind) (s : Settings) (t : ℕ) (w : List ℕ) (op op' : Op k) → Twin k s t op op' →
    (answer_row k s w t op ≡ answer_row k s w t op') × (after k s w t op ≡ after k s w t op')
twin-same k s t w op op' (itself o) = (refl, refl)
twin-same k s t w op op' (beside who x y c d stale e) = both-twin k s t w who x y c d stale e

same-words : (k : RoomKind) (s : Settings) (w : List ℕ) (cs ds : List (Call k)) → SameCalls k s cs ds →
    (rows k s w cs ≡ rows k s w ds) × (words k s w cs ≡ words k s w ds)
same-words k s w [] [] e = (refl, refl)
same-words k s w [] (d ∷ ds) e = absurd e
same-words k s w (c ∷ cs) [] e = absurd e
same-words k s w (c ∷ cs) (d ∷ ds) e =
    let h = same-words k s w cs ds e.2 in
    let q = twin-same k s c.reading (words k s w ds) c.op d.op e.1 in
    let m : (t : ℕ) → c.reading ≡ t → answer_row k s (words k s w ds) c.reading d.op ≡ answer_row k s (words k s w ds) t d.op =
    λ t z. ap (λ (n : ℕ). answer_row k s (words k s w ds) n d.op) z in (
      ap₂ (λ (row : List ℕ) (more : List (List ℕ)). row ∷ more)
          (ap (λ (v : List ℕ). answer_row k s v c.reading c.op) h.1 ∙ q.0 ∙ m d.reading e.0) h.0,
      ap (λ (v : List ℕ). after k s v c.reading c.op) h.1 ∙ q.1 ∙ ap (λ (n : ℕ). after k s (words k s w ds) n d.op) e.0,
    )

-- ---- the law

-- nobody holds a slot of an empty room
empty-held : (slots ring m : ℕ) → m ≢ 0 → slots_held (empty slots ring) m ≡ 0
unfolding slots_held many
empty-held slots ring m z = go (slots_of (empty slots ring))
  where
    go : (n : ℕ) → many (λ i. eqb (holder_of (empty slots ring) i) m) n ≡ 0
    go zero = refl
    go (suc n) = rw (go n, ne_eqb (holder_of (empty slots ring) n) m (λ e. z (sym e ∙ empty-free slots ring n)))

pub empty-fine : (k : RoomKind) (s : Settings) (slots ring l a b : ℕ) → fits slots ring l ≡ true → Fine k s 0 a b (empty slots ring)
empty-fine k s slots ring l a b e = record {
  sane = empty-sane k s slots ring l e;
  last = omega (arith, empty-word slots ring 2 (omega arith));
  kept = record {
    first = omega (arith, empty-held slots ring first_mark (omega arith));
    second = omega (arith, empty-held slots ring second_mark (omega arith));
  };
}

pub apart : (k : RoomKind) (s : Settings) (p a b slots ring l : ℕ) → is_party p ≡ true → fits slots ring l ≡ true → Apart k s p a b slots ring
apart k s p a b slots ring l y e cs ds by by' u r r' g g' q =
    let w = empty slots ring in
    let f = empty-fine k s slots ring l a b e in
    let one = told-by k s p w cs ∙ (beside-own k s p a b w y u cs f by r g).alone in
    let other = told-by k s p w ds ∙ (beside-own k s p a b w y u ds f by' r' g').alone in
    one ∙ (same-words k s w (picked p cs) (picked p ds) q).0 ∙ sym other

-- ---- and what its keys hold then is the same: whatever is told of them alone, as by the read-out, is

pub held-apart : (k : RoomKind) (s : Settings) (p a b slots ring l : ℕ) → is_party p ≡ true → fits slots ring l ≡ true →
    (cs ds : List (Call k)) → AllBytes cs → AllBytes ds → (u : ℕ) → Rising u cs → Rising u ds → AllGive a b cs → AllGive a b ds →
    SameCalls k s (picked p cs) (picked p ds) → (key : Sent) → key.caller.party ≡ p →
    held_in (words k s (empty slots ring) cs) key ≡ held_in (words k s (empty slots ring) ds) key
held-apart k s p a b slots ring l y e cs ds by by' u r r' g g' q key m =
    let w = empty slots ring in
    let f = empty-fine k s slots ring l a b e in
    let one = (beside-own k s p a b w y u cs f by r g).alike in
    let other = (beside-own k s p a b w y u ds f by' r' g').alike in
    held-like k s u p a b (words k s w cs) (words k s w (picked p cs)) one key m ∙
    ap (λ (v : List ℕ). held_in v key) (same-words k s w (picked p cs) (picked p ds) q).1 ∙
    sym (held-like k s u p a b (words k s w ds) (words k s w (picked p ds)) other key m)

pub sane-apart : (k : RoomKind) (s : Settings) (p a b slots ring l : ℕ) → is_party p ≡ true → fits slots ring l ≡ true →
    (cs : List (Call k)) → AllBytes cs → (u : ℕ) → Rising u cs → AllGive a b cs → Sane k s (words k s (empty slots ring) cs)
sane-apart k s p a b slots ring l y e cs by u r g =
    (beside-own k s p a b (empty slots ring) y u cs (empty-fine k s slots ring l a b e) by r g).alike.one.sane

-- ---- the provider's cleanup: a room that calls with the same promises have made turns it away with the same number, whatever the parties did there

pub other-room : (k : RoomKind) (s : Settings) (t p a b : ℕ) (w v : List ℕ) → Alike k s t p a b w v → (c : Caller) → (c.first ≡ a) × (c.second ≡ b) →
    Cleanup.refusal k s w t c ≡ Cleanup.refusal k s v t c
other-room k s t p a b w v x c g = number-like k s t p a b w v x (cleanup c 0) refl g
