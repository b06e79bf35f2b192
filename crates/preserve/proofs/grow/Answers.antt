-- `history::grow` meets its contract: with no bucket a new one, else the bucket at the end that is kept.
-- Assumes nothing.
use Rattle.preserve.proofs.Turns.{grows-free, grows-raises}
use Rattle.history.specs.Words.{raised_words}
use Rattle.preserve.specs.Preserving.{grown_words}
use Rattle.ring.specs.Ring.{len_of}
use Rattle.rules.specs.Buckets.{kept_end}
use borrow.Author.Tests.{eq-eqb, ne_eqb}
use Prim.Native.Nat.{ℕ}
use mathlib.Core.Path.{◌≡◌, sym, ap, ◌∙◌}
use Rattle.preserve.proofs.grow.Goals as goal

pub push-requires : goal.push-requires
push-requires c =
    grows-free c.requires (sym c.len-n.ensures ∙ c.if-n-eq0.true)

pub returns-then-n-eq0 : goal.returns-then-n-eq0
unfolding grown_words
returns-then-n-eq0 c =
    let a = c.args in
    let z : len_of a.b.now ≡ 0 = sym c.len-n.ensures ∙ c.if-n-eq0.true in
    rw (eq-eqb _ _ z) c.push.ensures

pub raise-requires : goal.raise-requires
raise-requires c =
    let a = c.args in
    grows-raises a.p c.len-n.result c.kept_end.result c.requires
    c.len-n.ensures c.if-n-eq0.false c.kept_end.ensures

pub returns-else-n-eq0 : goal.returns-else-n-eq0
unfolding grown_words
returns-else-n-eq0 c =
    let a = c.args in
    let n : len_of a.b.now ≡ 0 → ⊥ = λ z. c.if-n-eq0.false
    (c.len-n.ensures ∙ z) in
    rw (ne_eqb _ _ n) (c.raise.ensures ∙
    ap (λ (i : ℕ). raised_words a.r a.b.now i a.surplus 0) (c.kept_end.ensures ∙
    ap (kept_end a.p) c.len-n.ensures))
