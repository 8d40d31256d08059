-- `to_rolls`: before each place, the rolls before it stand. Assumes nothing.
use mathlib.Core.Path.{◌≡◌}
use lib.Ieee.{nan}
use lib.ListN.{get_or}
use Rattle.buffers.specs.Lent.{filled}
use Rattle.solar_roll.specs.Roll.{roll_between}
use Rattle.solar_roll.proofs.roll.to_rolls.Given as goal

abbrev pub invariant-loop-roll : goal.invariant-loop-roll
invariant-loop-roll l = l.rolls ≡ filled l.roll-index (λ t. roll_between (get_or l.initial.rolls t nan) l.panel_angle) l.initial.rolls
