use borrow.Author.Tests.{ne_eqb}
use Rattle.wilfnusk.specs.Plans.{configured}
use Rattle.wilfnusk.proofs.plans.configured.Goals as goal

pub returns-then-has_roll-eq0 : goal.returns-then-has_roll-eq0
unfolding configured
returns-then-has_roll-eq0 c = simp c.if-has_roll-eq0.true

pub returns-else-has_roll-eq0 : goal.returns-else-has_roll-eq0
unfolding configured
returns-else-has_roll-eq0 c = simp (ne_eqb _ _ c.if-has_roll-eq0.false)
