-- `float::arithmetic::is_finite` meets its contract. Assumes nothing.
use lib.Ieee.{of_bits}
use Rattle.float.proofs.Sign.{below_infinity}
use Rattle.float.proofs.arithmetic.is_finite.Goals as goal

pub returns : goal.returns
unfolding of_bits
returns c = rw c.abs.ensures (below_infinity c.args.x)
