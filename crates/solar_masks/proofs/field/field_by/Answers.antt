use Rattle.buffers.proofs.Refusals.{err_unless, ok_unless}
use Rattle.solar_masks.proofs.Calls.{field_room}
use Rattle.solar_masks.specs.Field.{field_after}
use mathlib.Core.Path.{sym}
use Rattle.solar_masks.proofs.field.field_by.Goals as goal

pub returns-in_err-field_refusal-clause-mask_after : goal.returns-in_err-field_refusal-clause-mask_after
unfolding field_after
returns-in_err-field_refusal-clause-mask_after c = err_unless _ _ _ _ c.in_err-field_refusal.ensures

pub mark_column-requires : goal.mark_column-requires
mark_column-requires c = field_room _ _ _ _ (sym c.in_ok-field_refusal.ensures)

pub returns-clause-mask_after : goal.returns-clause-mask_after
unfolding field_after
returns-clause-mask_after c = ok_unless _ _ _ _ c.in_ok-field_refusal.ensures c.mark_column.ensures
