-- `float::arctangent::quadrant_angle` meets its contract. Assumes nothing.
use Rattle.std.proofs.Common.{◌≡◌, cond}
use lib.Ieee.{lt, eq}
use Rattle.float.specs.Arithmetic.{zero·0}
use Rattle.float.specs.Arctangent.{series_angle, quadrant_angle}
use Rattle.float.proofs.arctangent.quadrant_angle.Goals as goal
use Rattle.float.proofs.arctangent.quadrant_angle.Goals.{Joined-a-b, Joined-l, then-a-b, else-a-b, then-l, else-l}

-- the larger
larger : (c : Joined-a-b) → c.if-a-b.l ≡ cond (lt c.args.b c.args.a) c.args.a c.args.b
larger c = elim c.if-a-b.branch [ then-a-b w ↦ simp (w.if-a-b.true, w.l-is) | else-a-b w ↦ simp (w.if-a-b.false, w.l-is) ]

-- the angle, 0 where the larger is 0
angle : (c : Joined-l) → c.if-l.r ≡ cond (eq c.if-a-b.l zero·0) zero·0 (series_angle c.args.q)
angle c = elim c.if-l.branch [ then-l w ↦ simp (w.if-l.true, w.r-is) | else-l w ↦ simp (w.if-l.false, w.r-is, w.series_angle-r.ensures) ]

pub returns-then-a-b-2 : goal.returns-then-a-b-2
unfolding quadrant_angle
returns-then-a-b-2 c = simp (angle (goal.at.returns-then-a-b-2 c).Joined-l, larger (goal.at.returns-then-a-b-2 c).Joined-a-b, c.if-a-b-2.true)

pub returns-else-a-b-2 : goal.returns-else-a-b-2
unfolding quadrant_angle
returns-else-a-b-2 c = simp (angle (goal.at.returns-else-a-b-2 c).Joined-l, larger (goal.at.returns-else-a-b-2 c).Joined-a-b, c.if-a-b-2.false)
