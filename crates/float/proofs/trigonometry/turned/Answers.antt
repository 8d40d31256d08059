-- `float::trigonometry::turned` meets its contract. Assumes nothing.
use Rattle.std.proofs.Common.{arith}
use Rattle.float.specs.Trigonometry.{sine_at}
use Rattle.float.proofs.Quadrants.{whole_turn}
use Rattle.float.proofs.trigonometry.turned.Goals as goal

pub returns-in-1 : goal.returns-in-1
unfolding sine_at
returns-in-1 c = simp c.in-1.is

pub returns-in-2 : goal.returns-in-2
unfolding sine_at
returns-in-2 c = simp c.in-2.is

pub returns-in-3 : goal.returns-in-3
unfolding sine_at
returns-in-3 c = simp c.in-3.is

pub returns-in_default : goal.returns-in_default
returns-in_default c = whole_turn _ _ _ c.requires (λ e. omega arith) (λ e. omega arith) (λ e. omega arith)
