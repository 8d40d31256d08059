-- `windows::expansion::check_expand` meets its contract: each return is the number of the first condition that holds. Assumes nothing.
use Rattle.std.proofs.Common.{sym, ◌∙◌, le-ltb, lt-ltb, eq-eqb, ne_eqb}
use Rattle.buffers.specs.Ranges.{any}
use Rattle.buffers.specs.Refusal.{first}
use Rattle.windows.specs.Refusal.{differ}
use Rattle.windows.specs.Expand.{expand_refusal}
use Rattle.windows.proofs.expansion.check_expand.Goals as goal
use Rattle.windows.proofs.expansion.check_expand.Goals.{then-spans-gt-MOST_LENT-via-then-spans-gt-MOST_LENT, then-spans-gt-MOST_LENT-via-else-spans-gt-MOST_LENT+then-times-gt-MOST_LENT}
use Rattle.windows.proofs.expansion.check_expand.Goals.{then-any_beyond-via-then-any_beyond, then-any_beyond-via-else-any_beyond+then-any_beyond-2, then-any_beyond-via-else-any_beyond+else-any_beyond-2+then-any_beyond-3}

pub returns-then-spans : goal.returns-then-spans
unfolding expand_refusal first differ any
returns-then-spans c = rw (ne_eqb _ _ c.if-spans.true)

pub returns-then-spans-gt-MOST_LENT : goal.returns-then-spans-gt-MOST_LENT
unfolding expand_refusal first differ any
returns-then-spans-gt-MOST_LENT c = elim c.then-spans-gt-MOST_LENT.branch [
  | then-spans-gt-MOST_LENT-via-then-spans-gt-MOST_LENT w ↦ rw (eq-eqb _ _ c.if-spans.false, lt-ltb _ _ w.if-spans-gt-MOST_LENT.true)
  | then-spans-gt-MOST_LENT-via-else-spans-gt-MOST_LENT+then-times-gt-MOST_LENT w ↦ rw (eq-eqb _ _ c.if-spans.false, le-ltb _ _ w.if-spans-gt-MOST_LENT.false, lt-ltb _ _ w.if-times-gt-MOST_LENT.true)
]

pub returns-then-any_beyond : goal.returns-then-any_beyond
unfolding expand_refusal first differ any
returns-then-any_beyond c = elim c.then-any_beyond.branch [
  | then-any_beyond-via-then-any_beyond w ↦
      rw (eq-eqb _ _ c.if-spans.false, le-ltb _ _ c.if-spans-gt-MOST_LENT.false, le-ltb _ _ c.if-times-gt-MOST_LENT.false, sym c.any_beyond.ensures ∙ w.if-any_beyond.true)
  | then-any_beyond-via-else-any_beyond+then-any_beyond-2 w ↦
      rw (eq-eqb _ _ c.if-spans.false, le-ltb _ _ c.if-spans-gt-MOST_LENT.false, le-ltb _ _ c.if-times-gt-MOST_LENT.false, sym c.any_beyond.ensures ∙ w.if-any_beyond.false, sym w.any_beyond-else-any_beyond.ensures ∙ w.if-any_beyond-2.true)
  | then-any_beyond-via-else-any_beyond+else-any_beyond-2+then-any_beyond-3 w ↦
      rw (eq-eqb _ _ c.if-spans.false, le-ltb _ _ c.if-spans-gt-MOST_LENT.false, le-ltb _ _ c.if-times-gt-MOST_LENT.false, sym c.any_beyond.ensures ∙ w.if-any_beyond.false, sym w.any_beyond-else-any_beyond.ensures ∙ w.if-any_beyond-2.false, sym w.any_beyond-else-any_beyond-2.ensures ∙ w.if-any_beyond-3.true)
]

pub returns-then-places-times : goal.returns-then-places-times
unfolding expand_refusal first differ any
returns-then-places-times c = rw (eq-eqb _ _ c.if-spans.false, le-ltb _ _ c.if-spans-gt-MOST_LENT.false, le-ltb _ _ c.if-times-gt-MOST_LENT.false, sym c.any_beyond.ensures ∙ c.if-any_beyond.false, sym c.any_beyond-else-any_beyond.ensures ∙ c.if-any_beyond-2.false, sym c.any_beyond-else-any_beyond-2.ensures ∙ c.if-any_beyond-3.false, lt-ltb _ _ c.if-places-times.true)

pub returns : goal.returns
unfolding expand_refusal first differ any
returns c = rw (eq-eqb _ _ c.if-spans.false, le-ltb _ _ c.if-spans-gt-MOST_LENT.false, le-ltb _ _ c.if-times-gt-MOST_LENT.false, sym c.any_beyond.ensures ∙ c.if-any_beyond.false, sym c.any_beyond-else-any_beyond.ensures ∙ c.if-any_beyond-2.false, sym c.any_beyond-else-any_beyond-2.ensures ∙ c.if-any_beyond-3.false, le-ltb _ _ c.if-places-times.false)
