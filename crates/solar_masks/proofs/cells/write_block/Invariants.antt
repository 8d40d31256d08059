-- `write_block`: before a row, the columns of the rows before it are written. Assumes nothing.
use Prim.Native.Nat.{◌-◌}
use mathlib.Core.Path.{◌≡◌}
use mathlib.Core.List.{[]}
use lib.ListN.{length, get_or}
use Rattle.buffers.specs.Rows.{ColumnsWritten}
use Rattle.solar_roll.specs.Plan.{lent, rows_of, times_of, direction_of, config_of}
use Rattle.solar_roll.specs.Roll.{body_axes}
use Rattle.solar_masks.proofs.cells.write_block.Given as goal

abbrev pub invariant-loop-row : goal.invariant-loop-row
invariant-loop-row g l =
    let p = lent l.plan in
    (length l.entries ≡ length l.initial.entries)
    × ((d : _) → ColumnsWritten (rows_of p) (times_of p) l.row l.from (length l.units) (λ r j. g.C.Cells.entry l.cells (body_axes (direction_of p r)) (config_of p r).tolerance_deg (get_or l.units (j - l.from) [])) d l.initial.entries l.entries)
