-- `float::angles::ratio_each`: before place k, the places before it are written. Assumes nothing.
use Rattle.std.proofs.Common.{◌≡◌, get_or}
use lib.Ieee.{nan}
use Rattle.buffers.specs.Lent.{filled}
use Rattle.float.specs.Arithmetic.{abs_of}
use Rattle.float.specs.Arctangent.{ratio}
use Rattle.float.proofs.angles.ratio_each.Given as goal

abbrev pub invariant-loop-k : goal.invariant-loop-k
invariant-loop-k l = l.qs ≡ filled l.k (λ t. ratio (abs_of (get_or l.ys t nan)) (abs_of (get_or l.zs t nan))) l.initial.qs
