-- `float::arctangent::series_angle` meets its contract. Assumes nothing.
use Rattle.std.proofs.Common.{ap, ◌∙◌}
use lib.Ieee.{Float, binary64, mul}
use Rattle.float.specs.Arithmetic.{eight}
use Rattle.float.specs.Arctangent.{series_angle}
use Rattle.float.proofs.Coefficients.{arctangent_series}
use Rattle.float.proofs.arctangent.series_angle.Goals as goal

pub returns : goal.returns
unfolding series_angle
returns c = let q = c.args.q in ap (λ (p : Float). mul binary64 eight (mul binary64 q p)) (c.series.ensures ∙ arctangent_series (mul binary64 q q))
