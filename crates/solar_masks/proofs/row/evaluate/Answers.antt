use Rattle.buffers.proofs.Refusals.{err_unless, ok_unless}
use Rattle.solar_masks.proofs.Calls.{row_room}
use Rattle.solar_masks.specs.Row.{row_mask_after, severities_after}
use mathlib.Core.Path.{sym}
use Rattle.solar_masks.proofs.row.evaluate.Goals as goal

pub returns-in_err-row_refusal-clause-mask_after : goal.returns-in_err-row_refusal-clause-mask_after
unfolding row_mask_after
returns-in_err-row_refusal-clause-mask_after c = err_unless _ _ _ _ c.in_err-row_refusal.ensures

pub returns-in_err-row_refusal-clause-severities_after : goal.returns-in_err-row_refusal-clause-severities_after
unfolding severities_after
returns-in_err-row_refusal-clause-severities_after c = err_unless _ _ _ _ c.in_err-row_refusal.ensures

pub fill_row-requires : goal.fill_row-requires
fill_row-requires c = row_room _ _ _ _ (sym c.in_ok-row_refusal.ensures)

pub returns-clause-mask_after : goal.returns-clause-mask_after
unfolding row_mask_after
returns-clause-mask_after c = ok_unless _ _ _ _ c.in_ok-row_refusal.ensures c.fill_row.ensures.mask_after

pub returns-clause-severities_after : goal.returns-clause-severities_after
unfolding severities_after
returns-clause-severities_after c = ok_unless _ _ _ _ c.in_ok-row_refusal.ensures c.fill_row.ensures.severities_after
