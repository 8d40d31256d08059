use Rattle.solar_roll.proofs.PlanFacts.{plan_facts}
use lib.Dec.{lit<}
use mathlib.Core.Path.{sym}
use native.Mathlib.Nat.{lt_of_le_of_lt}
use Rattle.solar_masks.proofs.mask.cells_refusal.Goals as goal

pub overflow_mul-rows : goal.overflow_mul-rows
overflow_mul-rows c = let f = plan_facts _ _ _ (sym c.in_ok-refusal.ensures) in
    simp (c.rows.ensures, c.times.ensures) (record { fits = lt_of_le_of_lt f.few_cells (lit< tt) })
