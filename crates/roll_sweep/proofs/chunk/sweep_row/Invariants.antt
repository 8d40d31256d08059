-- `sweep_row`: before cell k, mask and probes are those of the cells before it; before roll s of it, it is violated at all rolls before s. Assumes nothing.
use Prim.Native.Nat.{ℕ, ◌+◌}
use mathlib.Core.Path.{◌≡◌}
use mathlib.Core.Bool.{Bool, true}
use mathlib.Core.List.{List, []}
use lib.ListN.{length, get_or}
use lib.Ieee.{Float, nan}
use Rattle.buffers.specs.Ranges.{all_below}
use Rattle.solar_roll.specs.Vectors.{Vector}
use Rattle.solar_roll.specs.Roll.{Axes}
use Rattle.solar_roll.specs.Cell.{roll_in, violates}
use Rattle.solar_roll.specs.declared.roll.Panel.{Panel}
use Rattle.roll_sweep.proofs.SweptCells.{Upto}
use Rattle.roll_sweep.proofs.chunk.sweep_row.Given as goal

-- the row's cell k is violated at roll s
abbrev pub row_violated : Axes → List Vector → Panel → Float → List Float → ℕ → ℕ → Bool
row_violated axes units panel tolerance rolls k s = violates (roll_in axes (get_or units k []) panel) (get_or rolls s nan) tolerance

abbrev pub invariant-rolls : goal.invariant-rolls
invariant-rolls l = (l.probes ≡ l.initial.probes + l.roll-index) × (all_below l.roll-index (row_violated l.axes l.units l.panel l.tolerance_deg l.rolls l.k) ≡ true)

abbrev pub invariant-cells : goal.invariant-cells
invariant-cells l = Upto (length l.rolls) (row_violated l.axes l.units l.panel l.tolerance_deg l.rolls) l.k l.mask l.probes
