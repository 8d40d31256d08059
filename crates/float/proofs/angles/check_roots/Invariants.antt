-- `float::angles::check_roots`: before guess k, the roots of those before it stand. Assumes nothing.
use Rattle.std.proofs.Common.{◌≡◌, get_or}
use lib.Ieee.{binary64, nan, add, mul}
use Rattle.buffers.specs.Lent.{filled}
use Rattle.float.specs.Root.{sqrt_of}
use Rattle.float.specs.Arithmetic.{one}
use Rattle.float.proofs.angles.check_roots.Given as goal

abbrev pub invariant-loop-k : goal.invariant-loop-k
invariant-loop-k l = l.roots ≡ filled l.k (λ t. sqrt_of (add binary64 one (mul binary64 (get_or l.qs t nan) (get_or l.qs t nan)))) l.initial.roots
