-- `float::arctangent::halved` meets its contract. Assumes nothing.
use Rattle.float.specs.Arctangent.{halved}
use Rattle.float.proofs.arctangent.halved.Goals as goal

pub returns : goal.returns
unfolding halved
returns c = simp c.sqrt_by_inverse.ensures
