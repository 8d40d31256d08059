-- `write`: before cell k, the bytes of those before it stand. Assumes nothing.
use mathlib.Core.Path.{◌≡◌}
use mathlib.Core.List.{[]}
use lib.ListN.{get_or}
use Rattle.buffers.specs.Ranges.{flag}
use Rattle.buffers.specs.Lent.{filled}
use Rattle.solar_roll.specs.Cell.{roll_in}
use Rattle.solar_masks.specs.Mask.{marked_by}
use Rattle.solar_masks.proofs.mask.MarksCells.write.Given as goal

abbrev pub invariant-loop-k : goal.invariant-loop-k
invariant-loop-k l = l.entries ≡ filled l.k (λ t. flag (marked_by (roll_in l.axes (get_or l.units t []) l.self.panel) l.self.rule l.tolerance_deg)) l.initial.entries
