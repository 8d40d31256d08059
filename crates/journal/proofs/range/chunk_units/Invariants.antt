-- `chunk_units`: before cell k, the units of the cells before it stand in the table's first places. Assumes nothing.
use Prim.Native.Nat.{ℕ, ◌+◌, ◌%◌}
use mathlib.Core.Path.{◌≡◌}
use mathlib.Core.List.{List}
use lib.ListN.{length}
use lib.Ieee.{Float}
use Rattle.buffers.specs.Lent.{filled}
use Rattle.solar_roll.specs.Vectors.{Vector}
use Rattle.solar_roll.specs.Roll.{sun_unit}
use Rattle.solar_roll.specs.Plan.{triple, count}
use Rattle.journal.proofs.range.chunk_units.Given as goal

-- the Sun's unit at cell number first + k
abbrev pub unit_at : List Float → List Float → ℕ → ℕ → Vector
unit_at suns observers first k = sun_unit (triple suns ((first + k) % count suns)) (triple observers ((first + k) % count suns))

abbrev pub invariant-loop-at : goal.invariant-loop-at
invariant-loop-at l = (length l.units ≡ 64) × (l.units ≡ filled l.at (unit_at l.suns l.observers l.first) l.initial.units)
