-- `float::arctangent::atan2` meets its contract. Assumes nothing.
use Rattle.float.specs.Arctangent.{ratio, series_angle, quadrant_angle, turned_angle, arctangent}
use Rattle.float.proofs.arctangent.atan2.Goals as goal

pub returns : goal.returns
unfolding arctangent turned_angle quadrant_angle series_angle ratio
returns c = cc
