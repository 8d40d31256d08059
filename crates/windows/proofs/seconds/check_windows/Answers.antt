-- `windows::seconds::check_windows` meets its contract: each return is the number of the first condition that holds. Assumes nothing.
use Rattle.std.proofs.Common.{sym, ◌∙◌, le-ltb, lt-ltb, eq-eqb, ne_eqb}
use Rattle.buffers.specs.Ranges.{any}
use Rattle.buffers.specs.Refusal.{first}
use Rattle.windows.specs.Refusal.{differ}
use Rattle.windows.specs.Seconds.{duration_refusal}
use Rattle.windows.proofs.seconds.check_windows.Goals as goal
use Rattle.windows.proofs.seconds.check_windows.Goals.{then-any_beyond-via-then-any_beyond, then-any_beyond-via-else-any_beyond+then-any_beyond-2}

pub returns-then-spans : goal.returns-then-spans
unfolding duration_refusal first differ any
returns-then-spans c = rw (ne_eqb _ _ c.if-spans.true)

pub returns-then-spans-gt-MOST_LENT : goal.returns-then-spans-gt-MOST_LENT
unfolding duration_refusal first differ any
returns-then-spans-gt-MOST_LENT c = rw (eq-eqb _ _ c.if-spans.false, lt-ltb _ _ c.if-spans-gt-MOST_LENT.true)

pub returns-then-any_beyond : goal.returns-then-any_beyond
unfolding duration_refusal first differ any
returns-then-any_beyond c = elim c.then-any_beyond.branch [
  | then-any_beyond-via-then-any_beyond w ↦ rw (eq-eqb _ _ c.if-spans.false, le-ltb _ _ c.if-spans-gt-MOST_LENT.false, sym c.any_beyond.ensures ∙ w.if-any_beyond.true)
  | then-any_beyond-via-else-any_beyond+then-any_beyond-2 w ↦
      rw (eq-eqb _ _ c.if-spans.false, le-ltb _ _ c.if-spans-gt-MOST_LENT.false, sym c.any_beyond.ensures ∙ w.if-any_beyond.false, sym w.any_beyond-else-any_beyond.ensures ∙ w.if-any_beyond-2.true)
]

pub returns : goal.returns
unfolding duration_refusal first differ any
returns c = rw (eq-eqb _ _ c.if-spans.false, le-ltb _ _ c.if-spans-gt-MOST_LENT.false, sym c.any_beyond.ensures ∙ c.if-any_beyond.false, sym c.any_beyond-else-any_beyond.ensures ∙ c.if-any_beyond-2.false)
