use native.Mathlib.Omega.{arith}
use Rattle.wilfnusk.specs.Answers.{minus}
use Rattle.wilfnusk.proofs.answers.minus.Goals as goal

pub returns : goal.returns
unfolding minus
returns c = omega (arith, c.wrapping_neg.ensures)
