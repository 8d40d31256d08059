-- `float::angles::halve_each`: before place k, the places before it are halved. Assumes nothing.
use Rattle.std.proofs.Common.{◌≡◌, get_or}
use lib.Ieee.{nan}
use Rattle.buffers.specs.Lent.{filled}
use Rattle.float.specs.Arctangent.{halved}
use Rattle.float.proofs.angles.halve_each.Given as goal

abbrev pub invariant-loop-k : goal.invariant-loop-k
invariant-loop-k l = l.qs ≡ filled l.k (λ t. halved (get_or l.initial.qs t nan)) l.initial.qs
