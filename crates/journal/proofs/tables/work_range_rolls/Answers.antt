-- `journal::tables::work_range_rolls` meets its contract. Assumes nothing.
use mathlib.Core.Path.{sym, ◌∙◌}
use native.Mathlib.Omega.{arith}
use Rattle.roll_sweep.proofs.Tables.{table_samples}
use Rattle.journal.proofs.tables.work_range_rolls.Goals as goal
use Rattle.journal.proofs.tables.work_range_rolls.Goals.{then-from-to, else-from-to}

pub work_over-requires : goal.work_over-requires
work_over-requires c e = table_samples _ (sym c.table_refusal-said.ensures ∙ e)

pub returns : goal.returns
returns c = let a = c.args in
    rw c.table_refusal-said.ensures at (c.work_over.ensures a.to (elim c.if-from-to.branch [ then-from-to w ↦ omega arith | else-from-to w ↦ omega arith ]))
