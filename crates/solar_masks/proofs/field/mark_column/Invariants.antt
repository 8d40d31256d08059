-- `mark_column`: before a row, the bytes of the rows before it stand. Assumes nothing.
use mathlib.Core.Path.{◌≡◌}
use Rattle.buffers.specs.Lent.{filled}
use Rattle.solar_masks.specs.Mask.{mark_at}
use Rattle.solar_roll.specs.Plan.{lent}
use Rattle.solar_masks.proofs.field.mark_column.Given as goal

abbrev pub invariant-loop-row : goal.invariant-loop-row
invariant-loop-row l = l.mask ≡ filled l.row (λ r. mark_at (lent l.plan) l.rule r l.time) l.initial.mask
