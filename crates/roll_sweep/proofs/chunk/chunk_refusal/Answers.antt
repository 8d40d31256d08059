-- `chunk_refusal`: not too many rows and times, so their product fits. Assumes nothing.
use mathlib.Core.Path.{sym, ◌∙◌}
use native.Mathlib.Omega.{arith}
use Rattle.solar_roll.proofs.PlanFacts.{few}
use Rattle.roll_sweep.proofs.chunk.chunk_refusal.Goals as goal

pub overflow_mul-rows : goal.overflow_mul-rows
overflow_mul-rows c = record { fits = omega (arith, (few _ _ (sym c.too_many.ensures ∙ c.if-too_many.false)).few_cells) }
