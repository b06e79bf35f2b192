-- `sweep::pass_fit` meets its contract: what is sound finds what the rules say, and anything else finds nothing.
-- Assumes nothing.
use mathlib.Core.Path.{sym, ap, ◌∙◌}
use Rattle.ring.specs.declared.Bucket.{Bucket}
use Rattle.ring.specs.Sound.{sound-true}
use Rattle.sweep.specs.Looked.{looked-not, pass-looked}
use Rattle.sweep.specs.Wholly.{newest-at}
use Rattle.sweep.proofs.pass_fit.Goals as goal

pub gone-g-requires : goal.gone-g-requires
gone-g-requires c =
    let a = c.args in
    let s = c.is_sound in
    let n = c.len-n in
    let d = c.saturating_sub-end in
    let x = c.nth_or_none-newest in (
      sound-true a.r a.b.now a.last (sym s.ensures ∙ c.if-not-is_sound.false),
      ap (λ (y : Bucket). y.time) c.nth_or_none-eldest.ensures,
      ap (λ (y : Bucket). y.time) (newest-at a.r a.b.now n.result d.result x.result n.ensures d.ensures x.ensures),
    )

pub returns : goal.returns
returns c =
    let a = c.args in
    let s = c.is_sound in
    let n = c.len-n in
    let d = c.saturating_sub-end in
    let m = c.nth_or_none-newest in
    let f = c.nth_or_none-eldest in
    let e = c.gone-g in
    let o = c.nth_or_none-oldest in
    pass-looked a.r a.b.now a.last a.reading a.window a.look (sym s.ensures ∙ c.if-not-is_sound.false)
    e.result e.ensures n.result d.result o.result m.result f.result n.ensures d.ensures o.ensures m.ensures f.ensures

pub returns-then-not-is_sound : goal.returns-then-not-is_sound
returns-then-not-is_sound c =
    let a = c.args in
    let s = c.is_sound in
    c.no_pass.ensures ∙ looked-not a.r a.b.now a.last a.reading a.window a.look (sym s.ensures ∙ c.if-not-is_sound.true)
