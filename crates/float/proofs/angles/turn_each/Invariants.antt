-- `float::angles::turn_each`: before place k, the places before it are written. Assumes nothing.
use Rattle.std.proofs.Common.{◌≡◌, get_or}
use lib.Ieee.{nan}
use Rattle.buffers.specs.Lent.{filled}
use Rattle.float.specs.Arctangent.{turned_angle}
use Rattle.float.proofs.angles.turn_each.Given as goal

abbrev pub invariant-loop-k : goal.invariant-loop-k
invariant-loop-k l = l.qs ≡ filled l.k (λ t. turned_angle (get_or l.ys t nan) (get_or l.zs t nan) (get_or l.initial.qs t nan)) l.initial.qs
