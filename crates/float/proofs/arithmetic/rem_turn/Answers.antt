-- `float::arithmetic::rem_turn` meets its contract. Assumes nothing.
use Rattle.std.proofs.Common.{sym}
use Rattle.std.proofs.lemmas.Float.{T_from_true}
use lib.Ieee.{of_bits, neg}
use Rattle.float.proofs.Remainder.{rem_turn_small, rem_turn_once}
use Rattle.float.proofs.arithmetic.rem_turn.Goals as goal

pub returns-then-x-2 : goal.returns-then-x-2
unfolding of_bits neg
returns-then-x-2 c = sym (rem_turn_small c.args.x (T_from_true _ c.well_formed.0.1) c.if-x.true c.if-x-2.true)

pub returns-then-x-3 : goal.returns-then-x-3
unfolding of_bits neg
returns-then-x-3 c = sym (rem_turn_once c.args.x c.if-x.true c.if-x-2.false c.if-x-3.true)
