-- A free slot is not judged; of another the key, then the rest.
use mathlib.Core.Path.{sym, ap, ◌∙◌}
use Prim.Native.Nat.{ℕ}
use Rattle.opened.specs.Slot.{slot_of}
use Rattle.opened.specs.Look.{plain-slot}
use Rattle.cleanup.specs.Laws.{passes-free, fails-key, passes-right}
use Rattle.cleanup.proofs.slot_passes.Goals as goal

pub returns-then-holder_of-eq-NOBODY : goal.returns-then-holder_of-eq-NOBODY
returns-then-holder_of-eq-NOBODY c =
    let a = c.args in
    passes-free a.kind a.settings a.w.now a.i (sym c.holder_of.ensures ∙ c.if-holder_of-eq-NOBODY.true)

pub returns-then-not-key_fits : goal.returns-then-not-key_fits
returns-then-not-key_fits c =
    let a = c.args in
    fails-key a.kind a.settings a.w.now a.i (λ z. c.if-holder_of-eq-NOBODY.false (c.holder_of.ensures ∙ z))
    (sym c.key_fits.ensures ∙ c.if-not-key_fits.true)

pub returns : goal.returns
returns c =
    let a = c.args in
    passes-right a.kind a.settings a.w.now a.i a.reading c.use_of.result c.open_at-x.result c.slot_right.result c.requires.1
    (λ z. c.if-holder_of-eq-NOBODY.false (c.holder_of.ensures ∙ z)) (sym c.key_fits.ensures ∙ c.if-not-key_fits.false)
    c.use_of.ensures (c.open_at-x.ensures ∙ plain-slot c.window_ticks-window.result a.w.now a.reading a.i ∙
    ap (λ (W : ℕ). slot_of W a.w.now a.reading a.i) c.window_ticks-window.ensures) c.slot_right.ensures
