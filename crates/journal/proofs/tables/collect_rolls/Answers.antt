-- `journal::tables::collect_rolls` meets its contract. Assumes nothing.
use mathlib.Core.Path.{refl, sym, ◌∙◌}
use Rattle.roll_sweep.proofs.Tables.{table_samples}
use Rattle.journal.proofs.tables.collect_rolls.Goals as goal

pub invariant_of-collect_samples : goal.invariant_of-collect_samples
invariant_of-collect_samples c = record { says = λ e. table_samples _ (sym c.table_refusal-said.ensures ∙ e) }

pub returns : goal.returns
returns c = rw c.table_refusal-said.ensures at (c.collect_samples.ensures c.args.rolls.now refl)
