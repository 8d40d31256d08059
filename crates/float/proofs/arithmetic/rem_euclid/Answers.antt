-- `float::arithmetic::rem_euclid` meets its contract. Assumes nothing.
use Rattle.float.specs.Arithmetic.{rem_euclid}
use Rattle.float.proofs.arithmetic.rem_euclid.Goals as goal

pub returns-then-r : goal.returns-then-r
unfolding rem_euclid
returns-then-r c = rw (← c.remainder-r.ensures, c.if-r.true, c.abs.ensures)

pub returns-else-r : goal.returns-else-r
unfolding rem_euclid
returns-else-r c = rw (← c.remainder-r.ensures, c.if-r.false)
