-- `sun_units`: before place j of the table, the units before it stand. Assumes nothing.
use Prim.Native.Nat.{◌+◌}
use mathlib.Core.Path.{◌≡◌}
use Rattle.buffers.specs.Lent.{filled}
use Rattle.solar_roll.specs.Plan.{triple}
use Rattle.solar_roll.specs.Roll.{sun_unit}
use Rattle.solar_roll.proofs.units.sun_units.Given as goal

abbrev pub invariant-loop-j : goal.invariant-loop-j
invariant-loop-j l = l.unit-items ≡ filled l.j (λ t. sun_unit (triple l.suns (l.from + t)) (triple l.observers (l.from + t))) l.initial.unit-items
