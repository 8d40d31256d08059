-- `write_cells`: before a block of times, the columns of the times before it are written. Assumes nothing.
use Prim.Native.Nat.{◌-◌, ◌≤◌}
use mathlib.Core.Path.{◌≡◌}
use lib.ListN.{length}
use Rattle.buffers.specs.Rows.{ColumnsWritten}
use Rattle.solar_roll.specs.Plan.{lent, rows_of, times_of, direction_of, config_of, sun_at}
use Rattle.solar_roll.specs.Roll.{body_axes}
use Rattle.solar_masks.proofs.cells.write_cells.Given as goal

abbrev pub invariant-loop-from : goal.invariant-loop-from
invariant-loop-from g l =
    let p = lent l.plan in
    (l.from ≤ times_of p) × (length l.units ≡ 2048) × (length l.entries ≡ length l.initial.entries)
    × ((d : _) → ColumnsWritten (rows_of p) (times_of p) (rows_of p) 0 l.from (λ r j. g.C.Cells.entry l.cells (body_axes (direction_of p r)) (config_of p r).tolerance_deg (sun_at p j)) d l.initial.entries l.entries)

abbrev pub decreases-loop-from : goal.decreases-loop-from
decreases-loop-from g l = l.times - l.from
