use Rattle.solar_roll.proofs.Folding.{between_in_turn}
use Rattle.solar_roll.proofs.roll.roll_deg_in.Goals as goal

pub returns-clause-in_turn : goal.returns-clause-in_turn
returns-clause-in_turn c = between_in_turn _ _ _ c.roll_between.ensures
