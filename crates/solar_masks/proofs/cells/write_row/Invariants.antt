-- `write_row`: before a tile, the entries of the cells before it stand. Assumes nothing.
use Prim.Native.Nat.{◌-◌, ◌≤◌}
use mathlib.Core.Path.{◌≡◌}
use mathlib.Core.List.{[]}
use lib.ListN.{length, get_or}
use Rattle.buffers.specs.Lent.{filled}
use Rattle.solar_masks.proofs.cells.write_row.Given as goal

abbrev pub invariant-loop-from : goal.invariant-loop-from
invariant-loop-from g l = (l.from ≤ length l.units) × (l.entries ≡ filled l.from (λ k. g.C.Cells.entry l.cells l.axes l.tolerance_deg (get_or l.units k [])) l.initial.entries)

abbrev pub decreases-loop-from : goal.decreases-loop-from
decreases-loop-from g l = l.from-end - l.from
