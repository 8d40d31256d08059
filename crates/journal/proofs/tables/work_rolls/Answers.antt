-- `journal::tables::work_rolls` meets its contract. Assumes nothing.
use mathlib.Core.Path.{sym, ◌∙◌}
use native.Mathlib.Omega.{arith}
use Prim.Native.Nat.{◌+◌}
use Rattle.solar_roll.specs.Plan.{lent}
use Rattle.roll_sweep.proofs.Tables.{table_samples}
use Rattle.journal.specs.Plan.{table_sweep}
use Rattle.journal.proofs.Along.{range_one}
use Rattle.journal.proofs.tables.work_rolls.Goals as goal

pub work_over-requires : goal.work_over-requires
work_over-requires c e = table_samples _ (sym c.table_refusal-said.ensures ∙ e)

pub returns : goal.returns
returns c = let a = c.args in
    let s = table_sweep (lent a.plan.now) a.rolls.now in
    range_one s a.chunk a.journal.now a.used a.chunk _ _ _ (rw c.table_refusal-said.ensures at (c.work_over.ensures (a.chunk + 1) (omega arith)))
