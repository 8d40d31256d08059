-- `even_rolls`: before sample k, the samples before it stand in the table's first places. Assumes nothing.
use mathlib.Core.Path.{◌≡◌}
use Rattle.buffers.specs.Lent.{filled}
use Rattle.roll_sweep.specs.Rolls.{even_roll}
use Rattle.roll_sweep.proofs.rolls.even_rolls.Given as goal

abbrev pub invariant-loop-k : goal.invariant-loop-k
invariant-loop-k l = l.roll-items ≡ filled l.k (even_roll l.n) l.initial.roll-items
