-- `parts_along`: before place k, the parts before it stand. Assumes nothing.
use mathlib.Core.List.{[]}
use mathlib.Core.Path.{◌≡◌}
use lib.ListN.{get_or}
use Rattle.buffers.specs.Lent.{filled}
use Rattle.solar_roll.specs.Vectors.{dot3}
use Rattle.solar_roll.proofs.roll.parts_along.Given as goal

abbrev pub invariant-loop-k : goal.invariant-loop-k
invariant-loop-k l = l.parts ≡ filled l.k (λ t. dot3 (get_or l.units t []) l.axis) l.initial.parts
