-- `float::arctangent::ratio` meets its contract. Assumes nothing.
use Rattle.float.specs.Arctangent.{ratio}
use Rattle.float.proofs.arctangent.ratio.Goals as goal
use Rattle.float.proofs.arctangent.ratio.Goals.{then-a-b, else-a-b}

pub returns : goal.returns
unfolding ratio
returns c = elim c.if-a-b.branch [ then-a-b w ↦ simp (w.if-a-b.true, w.m-is) | else-a-b w ↦ simp (w.if-a-b.false, w.m-is) ]
