-- The clauses of the rule, in its order.
use mathlib.Core.Path.{sym, ◌∙◌}
use borrow.Author.Tests.{le-leb, lt-leb, lt-ltb, le-ltb, eq-eqb, ne_eqb}
use Rattle.factor_opened.specs.Opened.{rule_at}
use Rattle.factor_opened.proofs.rule_of.Goals as goal

pub returns-then-not-series : goal.returns-then-not-series
unfolding rule_at
returns-then-not-series c =
    simp c.if-not-series.true

pub returns-then-left-eq0 : goal.returns-then-left-eq0
unfolding rule_at
returns-then-left-eq0 c =
    simp (c.if-not-series.false, eq-eqb _ 0 (sym c.left.ensures ∙ c.if-left-eq0.true))

pub returns-then-hard-total : goal.returns-then-hard-total
unfolding rule_at
returns-then-hard-total c =
    simp (c.if-not-series.false, ne_eqb _ 0 (λ z. c.if-left-eq0.false (c.left.ensures ∙ z)), le-leb _ _ c.if-hard-total.true)

pub returns-then-accepted-soft : goal.returns-then-accepted-soft
unfolding rule_at
returns-then-accepted-soft c =
    simp (
      c.if-not-series.false,
      ne_eqb _ 0 (λ z. c.if-left-eq0.false (c.left.ensures ∙ z)),
      lt-leb _ _ c.if-hard-total.false,
      ← c.saturating_sub-accepted.ensures,
      lt-ltb _ _ c.if-accepted-soft.true,
    )

pub returns-then-accepted-soft-2 : goal.returns-then-accepted-soft-2
unfolding rule_at
returns-then-accepted-soft-2 c =
    simp (
      c.if-not-series.false,
      ne_eqb _ 0 (λ z. c.if-left-eq0.false (c.left.ensures ∙ z)),
      lt-leb _ _ c.if-hard-total.false,
      ← c.saturating_sub-accepted.ensures,
      le-ltb _ _ c.if-accepted-soft.false,
      ne_eqb _ _ c.if-accepted-soft-2.true,
    )

pub returns-then-soft-hard : goal.returns-then-soft-hard
unfolding rule_at
returns-then-soft-hard c =
    simp (
      c.if-not-series.false,
      ne_eqb _ 0 (λ z. c.if-left-eq0.false (c.left.ensures ∙ z)),
      lt-leb _ _ c.if-hard-total.false,
      ← c.saturating_sub-accepted.ensures,
      le-ltb _ _ c.if-accepted-soft.false,
      eq-eqb _ _ c.if-accepted-soft-2.false,
      eq-eqb _ _ c.if-soft-hard.true,
    )

pub returns : goal.returns
unfolding rule_at
returns c =
    simp (
      c.if-not-series.false,
      ne_eqb _ 0 (λ z. c.if-left-eq0.false (c.left.ensures ∙ z)),
      lt-leb _ _ c.if-hard-total.false,
      ← c.saturating_sub-accepted.ensures,
      le-ltb _ _ c.if-accepted-soft.false,
      eq-eqb _ _ c.if-accepted-soft-2.false,
      ne_eqb _ _ c.if-soft-hard.false,
    )
