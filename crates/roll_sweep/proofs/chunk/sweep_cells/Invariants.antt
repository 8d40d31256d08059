-- `sweep_cells`: before cell k, where a row's part begins, mask and probes are those of the cells before it. Assumes nothing.
use Prim.Native.Nat.{ℕ, ◌+◌, ◌-◌, ◌≤◌}
use mathlib.Core.Bool.{Bool}
use mathlib.Core.List.{List}
use lib.ListN.{length, get_or}
use lib.Ieee.{Float, nan}
use Rattle.solar_roll.specs.Vectors.{Vector}
use Rattle.solar_roll.specs.Plan.{Plan, lent}
use Rattle.roll_sweep.specs.Chunk.{violates_by}
use Rattle.roll_sweep.proofs.SweptCells.{Upto}
use Rattle.roll_sweep.proofs.chunk.sweep_cells.Given as goal

-- the k-th cell is violated at roll s
abbrev pub nth_violated : Plan → ℕ → List Vector → List Float → ℕ → ℕ → ℕ → Bool
nth_violated p times units rolls first k s = violates_by p.targets times units p.tolerances p.configured p.panels (first + k) (get_or rolls s nan)

abbrev pub invariant-loop-k : goal.invariant-loop-k
invariant-loop-k l = (l.k ≤ l.cells) × Upto (length l.rolls) (nth_violated (lent l.plan) l.times l.units l.rolls l.first) l.k l.mask l.probes

abbrev pub decreases-loop-k : goal.decreases-loop-k
decreases-loop-k l = l.cells - l.k
