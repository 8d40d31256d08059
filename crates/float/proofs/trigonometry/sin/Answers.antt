-- `float::trigonometry::sin` meets its contract. Assumes nothing.
use Rattle.std.proofs.Common.{ap}
use Rattle.float.specs.Trigonometry.{sine_of}
use Rattle.float.specs.declared.trigonometry.SinCos.{SinCos}
use Rattle.float.proofs.trigonometry.sin.Goals as goal

pub returns : goal.returns
unfolding sine_of
returns c = ap (λ (x : SinCos). x.sin) c.sin_cos.ensures
