use borrow.Author.Tests.{ne_eqb}
use Rattle.wilfnusk.specs.Plans.{asked}
use Rattle.wilfnusk.proofs.plans.asked.Goals as goal

pub returns-then-fixed-eq0 : goal.returns-then-fixed-eq0
unfolding asked
returns-then-fixed-eq0 c = simp c.if-fixed-eq0.true

pub returns-else-fixed-eq0 : goal.returns-else-fixed-eq0
unfolding asked
returns-else-fixed-eq0 c = simp (ne_eqb _ _ c.if-fixed-eq0.false)
