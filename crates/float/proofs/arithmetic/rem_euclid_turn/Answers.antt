-- `float::arithmetic::rem_euclid_turn` meets its contract. Assumes nothing.
use lib.Ieee.{of_bits}
use Rattle.float.specs.Arithmetic.{rem_euclid, abs_of}
use Rattle.float.proofs.arithmetic.rem_euclid_turn.Goals as goal

pub returns-then-r : goal.returns-then-r
unfolding rem_euclid abs_of of_bits
returns-then-r c = rw (← c.rem_turn-r.ensures, c.if-r.true)

pub returns-else-r : goal.returns-else-r
unfolding rem_euclid abs_of of_bits
returns-else-r c = rw (← c.rem_turn-r.ensures, c.if-r.false)
