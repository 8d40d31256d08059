-- `float::trigonometry::cos` meets its contract. Assumes nothing.
use Rattle.std.proofs.Common.{ap}
use Rattle.float.specs.Trigonometry.{cosine_of}
use Rattle.float.specs.declared.trigonometry.SinCos.{SinCos}
use Rattle.float.proofs.trigonometry.cos.Goals as goal

pub returns : goal.returns
unfolding cosine_of
returns c = ap (λ (x : SinCos). x.cos) c.sin_cos.ensures
